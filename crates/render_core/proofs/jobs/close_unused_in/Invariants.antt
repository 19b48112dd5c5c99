use Rattle.std.proofs.Common.{◌≡◌, ◌++◌, map, take, drop, not}
use Rattle.tl_model.specs.Cells.{recipes, is_among}
use Rattle.render_core.specs.State.{close_if}
use Rattle.render_core.proofs.jobs.close_unused_in.Given as goal

abbrev pub invariant-loop-job : goal.invariant-loop-job
invariant-loop-job g l = l.jobs ≡ map (close_if (λ recipe. not (is_among recipe (recipes (g.L.Lane.cells l.lane)))) l.at) (take l.job-index l.fn.jobs) ++ drop l.job-index l.fn.jobs
