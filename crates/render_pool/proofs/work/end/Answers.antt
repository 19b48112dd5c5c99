use Rattle.std.proofs.Common.{inl}
use Rattle.render_core.specs.declared.reply.FileReply.TheVariants as file
use Rattle.edit_desk.proofs.Heard.{hears_learns}
use Rattle.play_head.proofs.Turning.{file_heard}
use Rattle.render_pool.proofs.Turning.{ends_later}
use Rattle.render_pool.proofs.work.end.Goals as goal

pub returns-in-Ok-Filed : goal.returns-in-Ok-Filed
returns-in-Ok-Filed g c =
    (c.job-job.ensures, file_heard g.D.Lib.Media.library _ _ c.args.claim.job c.in-Ok-Filed.field-0 file.Filed c.in-Ok-Filed.field-0-is c.in-Ok-Filed.ensures.told)

pub returns-in-Ok-Closed : goal.returns-in-Ok-Closed
returns-in-Ok-Closed g c =
    (c.job-job.ensures, inl (file_heard g.D.Lib.Media.library _ _ c.args.claim.job c.in-Ok-Closed.field-0 (file.Closed c.in-Ok-Closed.at) c.in-Ok-Closed.field-0-is c.in-Ok-Closed.ensures.told))

pub returns : goal.returns
returns g c =
    ends_later g.D.Lib.Media.library _ _ _ c.args.claim c.in-Err.claim c.give_back-in-Err.result (hears_learns _ _ _ c.in-Err.ensures.told.0) c.in-Err.ensures.told.1 c.give_back-in-Err.ensures
