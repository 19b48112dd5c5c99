use Rattle.render_pool.specs.declared.end.WorkEnd.TheVariants as end
use Rattle.render_pool.proofs.Turning.{turning_starts, one_filed, one_closed, none_made, turning_ends, is_final, is_end}
use Rattle.render_pool.proofs.work.work_until_stopped.Goals as goal

pub loop-init : goal.loop-init
loop-init g c = turning_starts g.D.Lib.Media.library _

pub loop-preserved-in-Filed : goal.loop-preserved-in-Filed
loop-preserved-in-Filed g c = one_filed g.D.Lib.Media.library _ (g.D.Desk.desk c.loop.desk) _ c.in-Filed.job c.loop.invariant (is_end g.D.Lib.Media.library _ _ _ (end.Filed c.in-Filed.job) c.in-Filed.is c.work_turn.ensures)

pub loop-preserved-in-Closed : goal.loop-preserved-in-Closed
loop-preserved-in-Closed g c =
    one_closed g.D.Lib.Media.library _ (g.D.Desk.desk c.loop.desk) _ c.in-Closed.job c.in-Closed.at c.loop.invariant (is_end g.D.Lib.Media.library _ _ _ (end.Closed c.in-Closed.job c.in-Closed.at) c.in-Closed.is c.work_turn.ensures)

pub loop-preserved : goal.loop-preserved
loop-preserved g c =
    none_made g.D.Lib.Media.library _ (g.D.Desk.desk c.loop.desk) _ c.loop.invariant (is_end g.D.Lib.Media.library _ _ _ (end.Idle c.in-Idle.len) c.in-Idle.is c.work_turn.ensures).0

pub returns-in_default : goal.returns-in_default
returns-in_default g c =
    turning_ends g.D.Lib.Media.library _ (g.D.Desk.desk c.loop.desk) _ c.work_turn.result c.loop.invariant c.work_turn.ensures
    (is_final c.work_turn.result c.in_default.not-Filed c.in_default.not-Closed c.in_default.not-Idle)
