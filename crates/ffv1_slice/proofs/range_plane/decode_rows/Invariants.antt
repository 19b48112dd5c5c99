use Rattle.std.proofs.Common.{◌≡◌, ◌+◌, List, ◌++◌, ℕ, length}
use Rattle.std.specs.Prelude.{All}
use Rattle.ffv1_range.specs.Transition.{AllKept}
use Rattle.ffv1_slice.specs.Area.{with_rows}
use Rattle.ffv1_slice.specs.Reading.{coding}
use Rattle.ffv1_slice.proofs.Planes.{AreDone, after_rows}
use Rattle.ffv1_slice.proofs.range_plane.decode_rows.Given as goal

abbrev pub invariant-loop-y : goal.invariant-loop-y
invariant-loop-y l = record {
  done : List (List ℕ);
  count : l.area.y + length done ≡ l.y;
  read : AreDone l.tables l.area done l.above2 l.above (coding l.fn.reader l.initial.contexts) (coding l.reader l.contexts);
  put : (more : List (List ℕ)) → with_rows l.picture (after_rows l.area (length done)) more ≡ with_rows l.initial.picture l.area (done ++ more);
  table : l.reader.table ≡ l.fn.reader.table;
  kept : All (AllKept l.reader.table) l.contexts;
  shape : l.picture.shape ≡ l.initial.picture.shape;
}
