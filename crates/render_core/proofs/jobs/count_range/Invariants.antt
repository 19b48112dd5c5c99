use Rattle.std.proofs.Common.{◌≡◌, ◌&&◌, take}
use Rattle.std.specs.List.{count_by}
use Rattle.tl_model.specs.Cells.{is_among}
use Rattle.render_core.specs.State.{is_open, range}
use Rattle.render_core.proofs.jobs.count_range.Given as goal

abbrev pub invariant-loop-job : goal.invariant-loop-job
invariant-loop-job g l = l.count ≡ count_by (λ job. is_open job && is_among job.recipe (range l.first l.len (g.L.Lane.cells l.lane))) (take l.job-index l.jobs)
