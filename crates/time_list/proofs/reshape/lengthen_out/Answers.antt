use Rattle.time_list.proofs.Reshaped.{lengthened_out_err, lengthened_out_ok}
use Rattle.time_list.proofs.reshape.lengthen_out.Goals as goal

pub returns-in-Err : goal.returns-in-Err
returns-in-Err g c = lengthened_out_err (g.M.Media.library c.args.media.now) c.args.segment.now c.args.by c.in-Err.why c.requires.piece c.in-Err.ensures.reason

pub returns-in-Ok : goal.returns-in-Ok
returns-in-Ok g c = lengthened_out_ok (g.M.Media.library c.args.media.now) c.args.segment.now c.args.by c.requires.piece c.in-Ok.ensures.reach c.in-Ok.ensures.reason
