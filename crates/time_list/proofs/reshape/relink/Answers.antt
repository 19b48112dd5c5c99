use Rattle.time_list.proofs.Reshaped.{relinked_err, relinked_ok}
use Rattle.time_list.proofs.reshape.relink.Goals as goal

pub returns-in-Err : goal.returns-in-Err
returns-in-Err g c = relinked_err (g.M.Media.library c.args.media.now) c.args.segment.now c.args.clip c.args.first c.in-Err.why c.in-Err.ensures.reason

pub returns-in-Ok : goal.returns-in-Ok
returns-in-Ok g c = relinked_ok (g.M.Media.library c.args.media.now) c.args.segment.now c.args.clip c.args.first c.requires c.in-Ok.ensures.reach c.in-Ok.ensures.reason
