use Rattle.std.proofs.Common.{◌+◌, ◌*◌, ◌≤◌, vec_len, length, map, take}
use Rattle.std.specs.Prelude.{All}
use Rattle.ffv1_frame.specs.Packet.{slice_at, IsSpan}
use Rattle.ffv1_frame.proofs.Chains.{AreFound}
use Rattle.ffv1_frame.proofs.chain.spans_backwards.Given as goal

abbrev pub invariant-loop-end : goal.invariant-loop-end
invariant-loop-end l = record {
  within : l.end ≤ length l.packet;
  few : 3 * vec_len l.spans + l.end ≤ length l.packet;
  spans : All (IsSpan l.packet) l.spans.items;
  found : AreFound l.ec l.packet (take l.end l.packet) (map (slice_at l.packet) l.spans.items);
}

abbrev pub decreases-loop-end : goal.decreases-loop-end
decreases-loop-end l = l.end
