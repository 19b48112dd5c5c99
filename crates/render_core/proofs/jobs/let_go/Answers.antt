use Rattle.std.proofs.Common.{None, get_or}
use Rattle.std.proofs.lemmas.Option.{slice_get-get_or}
use Rattle.tl_model.specs.declared.recipe.Recipe.TheVariants as recipe
use Rattle.render_core.specs.declared.job.Job.{Job}
use Rattle.render_core.specs.State.{without_holder}
use Rattle.render_core.proofs.JobLists.{update_is}
use Rattle.render_core.proofs.jobs.let_go.Goals as goal

abbrev no_job : Job
no_job = record { recipe = recipe.Black; holder = None; closed = None }

pub returns-clause-jobs : goal.returns-clause-jobs
returns-clause-jobs c = update_is without_holder c.args.jobs.now c.args.place (get_or c.args.jobs.now c.args.place no_job) (slice_get-get_or c.args.jobs.now c.args.place no_job c.requires)

pub returns-clause-job : goal.returns-clause-job
returns-clause-job c = slice_get-get_or c.args.jobs.now c.args.place no_job c.requires
