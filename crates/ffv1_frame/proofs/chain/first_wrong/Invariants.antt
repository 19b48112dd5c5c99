use Rattle.std.proofs.Common.{map, take}
use Rattle.std.specs.Prelude.{All}
use Rattle.ffv1_frame.specs.Packet.{HasParity, slice_at}
use Rattle.ffv1_frame.proofs.chain.first_wrong.Given as goal

abbrev pub invariant-loop-i : goal.invariant-loop-i
invariant-loop-i l = All HasParity (take l.i (map (slice_at l.packet) l.spans))
