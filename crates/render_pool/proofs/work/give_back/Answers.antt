use Rattle.std.proofs.Common.{inr}
use Rattle.edit_desk.proofs.Heard.{hears_enters}
use Rattle.render_pool.proofs.work.give_back.Goals as goal

pub returns-in-Released : goal.returns-in-Released
returns-in-Released g c = (c.job-job.ensures, hears_enters _ _ _ _ _ c.in-Released.ensures)

pub returns-in-Closed : goal.returns-in-Closed
returns-in-Closed g c = (c.job-job.ensures, inr (hears_enters _ _ _ _ _ c.in-Closed.ensures))
