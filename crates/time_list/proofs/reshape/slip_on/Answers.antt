use Rattle.time_list.proofs.Reshaped.{slipped_on_err, slipped_on_ok}
use Rattle.time_list.proofs.reshape.slip_on.Goals as goal

pub returns-in-Err : goal.returns-in-Err
returns-in-Err g c = slipped_on_err (g.M.Media.library c.args.media.now) c.args.segment.now c.args.by c.in-Err.why c.in-Err.ensures.reason

pub returns-in-Ok : goal.returns-in-Ok
returns-in-Ok g c = slipped_on_ok (g.M.Media.library c.args.media.now) c.args.segment.now c.args.by c.moved.result c.requires c.moved.ensures c.in-Ok.ensures.reach c.in-Ok.ensures.reason
