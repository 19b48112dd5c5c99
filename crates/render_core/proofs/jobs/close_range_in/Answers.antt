use Rattle.std.proofs.Common.{arith}
use Rattle.tl_model.specs.Cells.{is_among}
use Rattle.render_core.specs.State.{close_if, range}
use Rattle.render_core.proofs.JobLists.{mapped_step}
use Rattle.render_core.proofs.jobs.close_range_in.Goals as goal

pub loop-job-preserved : goal.loop-job-preserved
loop-job-preserved g c = mapped_step (close_if (λ recipe. is_among recipe (range c.args.first c.args.len (g.L.Lane.cells c.args.lane.now))) c.args.at) c.args.jobs.now c.loop-job.jobs c.loop-job.job-index c.after_cancel.result _ (omega arith) c.loop-job.invariant c.after_cancel.ensures
