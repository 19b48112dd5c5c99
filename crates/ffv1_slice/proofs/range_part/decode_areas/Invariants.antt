use Rattle.std.proofs.Common.{◌≡◌}
use Rattle.std.specs.Prelude.{All}
use Rattle.ffv1_range.specs.Transition.{AllKept}
use Rattle.ffv1_slice.specs.Reading.{coding}
use Rattle.ffv1_slice.specs.Slice.{decoding}
use Rattle.ffv1_slice.proofs.InTurn.{AreLeft}
use Rattle.ffv1_slice.proofs.range_part.decode_areas.Given as goal

abbrev pub invariant-loop-area : goal.invariant-loop-area
invariant-loop-area l = record {
  left : AreLeft l.tables l.areas l.area-index (decoding (coding l.fn.reader l.initial.contexts) l.initial.picture) (decoding (coding l.reader l.contexts) l.picture);
  table : l.reader.table ≡ l.fn.reader.table;
  kept : All (AllKept l.reader.table) l.contexts;
  shape : l.picture.shape ≡ l.initial.picture.shape;
}
