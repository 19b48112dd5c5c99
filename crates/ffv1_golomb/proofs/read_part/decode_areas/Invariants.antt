use Rattle.std.proofs.Common.{◌≡◌}
use Rattle.ffv1_golomb.specs.Slice.{decoding, ReadsArea, OutOfRangeInArea}
use Rattle.ffv1_golomb.proofs.TurnSteps.{AreLeft}
use Rattle.ffv1_golomb.proofs.read_part.decode_areas.Given as goal

abbrev pub invariant-loop-area : goal.invariant-loop-area
invariant-loop-area l = record {
  left : AreLeft (ReadsArea l.tables) (OutOfRangeInArea l.tables) l.areas l.area-index (decoding l.initial.states l.fn.bits l.initial.picture) (decoding l.states l.bits l.picture);
  shape : l.picture.shape ≡ l.initial.picture.shape;
}
