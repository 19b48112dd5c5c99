use Rattle.std.proofs.Common.{◌-◌, arith}
use Rattle.time_list.proofs.Reshaped.{slipped_back_err, slipped_back_ok}
use Rattle.time_list.proofs.reshape.slip_back.Goals as goal

pub returns-in-Err : goal.returns-in-Err
returns-in-Err g c = slipped_back_err (g.M.Media.library c.args.media.now) c.args.segment.now c.args.by (c.args.by - 1) c.before-first.result c.is_early-early.result c.in-Err.why c.requires.piece (omega (arith, c.requires.some)) c.before-first.ensures c.is_early-early.ensures c.in-Err.ensures.reason

pub returns-in-Ok : goal.returns-in-Ok
returns-in-Ok g c = slipped_back_ok (g.M.Media.library c.args.media.now) c.args.segment.now c.args.by (c.args.by - 1) c.before-first.result c.is_early-early.result c.requires.piece (omega (arith, c.requires.some)) c.before-first.ensures c.is_early-early.ensures c.in-Ok.ensures.reason
