use Rattle.std.proofs.Common.{◌≡◌, ◌++◌, map, take, drop}
use Rattle.tl_model.specs.Cells.{is_among}
use Rattle.render_core.specs.State.{close_if, range}
use Rattle.render_core.proofs.jobs.close_range_in.Given as goal

abbrev pub invariant-loop-job : goal.invariant-loop-job
invariant-loop-job g l = l.jobs ≡ map (close_if (λ recipe. is_among recipe (range l.first l.len (g.L.Lane.cells l.lane))) l.at) (take l.job-index l.fn.jobs) ++ drop l.job-index l.fn.jobs
