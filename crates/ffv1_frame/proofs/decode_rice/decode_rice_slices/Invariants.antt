use Rattle.std.proofs.Common.{◌≡◌, map}
use Rattle.ffv1_frame.specs.Packet.{slice_at}
use Rattle.ffv1_frame.specs.Frame.{DecodesTo, HasRoom}
use Rattle.ffv1_frame.proofs.decode_rice.decode_rice_slices.Given as goal

abbrev pub invariant-loop-i : goal.invariant-loop-i
invariant-loop-i l = record {
  decodes : DecodesTo l.record l.shape (map (slice_at l.packet) l.spans) l.i l.picture;
  shape : l.picture.shape ≡ l.shape;
  room : HasRoom l.record l.shape l.scratch;
}
