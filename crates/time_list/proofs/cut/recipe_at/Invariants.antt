use Rattle.std.proofs.Common.{◌≡◌, ◌+◌, ◌<◌, length, drop}
use Rattle.std.specs.Prelude.{slice_get}
use Rattle.tl_model.specs.Cells.{cells, recipes}
use Rattle.time_list.proofs.cut.recipe_at.Given as goal

abbrev pub invariant-loop-segment : goal.invariant-loop-segment
invariant-loop-segment g l = record {
  within : l.left < length (cells (drop l.segment-index l.items));
  same : slice_get (recipes (cells (drop l.segment-index l.items))) l.left ≡ slice_get (recipes (cells l.items)) l.n;
  counted : l.steps ≡ l.fn.steps + l.segment-index;
}
