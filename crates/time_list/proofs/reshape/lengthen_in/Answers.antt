use Rattle.time_list.proofs.Reshaped.{lengthened_in_err, lengthened_in_ok}
use Rattle.time_list.proofs.reshape.lengthen_in.Goals as goal

pub returns-in-Err : goal.returns-in-Err
returns-in-Err g c = lengthened_in_err (g.M.Media.library c.args.media.now) c.args.segment.now c.args.by c.before-first.result c.is_early-early.result c.in-Err.why c.requires.piece c.before-first.ensures c.is_early-early.ensures c.in-Err.ensures.reason

pub returns-in-Ok : goal.returns-in-Ok
returns-in-Ok g c = lengthened_in_ok (g.M.Media.library c.args.media.now) c.args.segment.now c.args.by c.before-first.result c.is_early-early.result c.requires.piece c.requires.some c.before-first.ensures c.is_early-early.ensures c.in-Ok.ensures.reason
