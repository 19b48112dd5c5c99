use Rattle.std.proofs.Common.{◌≡◌, ◌-◌, ◌+◌, take, drop}
use Rattle.tl_model.specs.Cells.{recipes, is_among}
use Rattle.render_core.specs.State.{range}
use Rattle.render_core.proofs.frames.has_recipe.Given as goal

abbrev pub invariant-loop-n : goal.invariant-loop-n
invariant-loop-n g l = is_among l.recipe (take ((l.first + l.len) - l.n) (drop l.n (recipes (g.L.Lane.cells l.lane)))) ≡ is_among l.recipe (range l.first l.len (g.L.Lane.cells l.lane))
