use Rattle.std.proofs.Common.{◌≡◌, drop}
use Rattle.tl_model.specs.Cells.{cells, recipes, is_among}
use Rattle.time_list.proofs.cut.uses.Given as goal

abbrev pub invariant-loop-segment : goal.invariant-loop-segment
invariant-loop-segment l = is_among l.recipe (recipes (cells (drop l.segment-index l.items))) ≡ is_among l.recipe (recipes (cells l.items))
