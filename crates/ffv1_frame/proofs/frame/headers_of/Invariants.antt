use Rattle.std.proofs.Common.{◌≡◌, map, vec_len}
use Rattle.ffv1_frame.specs.Packet.{slice_at}
use Rattle.ffv1_frame.specs.Frame.{AreHeaders}
use Rattle.ffv1_frame.proofs.frame.headers_of.Given as goal

abbrev pub invariant-loop-i : goal.invariant-loop-i
invariant-loop-i l = record {
  headers : AreHeaders l.record (map (slice_at l.packet) l.spans) l.headers.items;
  len : vec_len l.headers ≡ l.i;
}
