use Rattle.std.proofs.Common.{◌≡◌, ◌+◌, List, ◌++◌, ℕ, length}
use Rattle.ffv1_rice.specs.Runs.{coding, source, first_run}
use Rattle.ffv1_slice.specs.Area.{with_rows}
use Rattle.ffv1_slice.proofs.Planes.{after_rows}
use Rattle.ffv1_golomb.proofs.PlaneSteps.{AreDone}
use Rattle.ffv1_golomb.proofs.read_plane.decode_rows.Given as goal

abbrev pub invariant-loop-y : goal.invariant-loop-y
invariant-loop-y l = record {
  done : List (List ℕ);
  count : l.area.y + length done ≡ l.y;
  read : AreDone l.tables l.area.width done l.above2 l.above (coding (source first_run l.fn.bits) l.initial.states) (coding (source l.run l.bits) l.states);
  put : (more : List (List ℕ)) → with_rows l.picture (after_rows l.area (length done)) more ≡ with_rows l.initial.picture l.area (done ++ more);
  shape : l.picture.shape ≡ l.initial.picture.shape;
}
