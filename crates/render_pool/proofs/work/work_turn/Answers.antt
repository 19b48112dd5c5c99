use Rattle.play_head.proofs.Turning.{claim_heard}
use Rattle.render_pool.proofs.Turning.{turn_made, idle_turn, stopped_turn, refused_turn}
use Rattle.render_pool.proofs.work.work_turn.Goals as goal

pub returns-in-Ok-Claimed : goal.returns-in-Ok-Claimed
returns-in-Ok-Claimed g c =
    turn_made g.D.Lib.Media.library _ _ _ c.in-Ok-Claimed.claim c.end.result
    (claim_heard g.D.Lib.Media.library _ _ c.in-Ok-Claimed.field-0 c.in-Ok-Claimed.claim c.in-Ok-Claimed.field-0-is c.in-Ok-Claimed.ensures.found) c.end.ensures

pub returns-in-Ok-Idle : goal.returns-in-Ok-Idle
returns-in-Ok-Idle g c = idle_turn g.D.Lib.Media.library _ _ c.in-Ok-Idle.field-0 c.in-Ok-Idle.len c.in-Ok-Idle.field-0-is c.in-Ok-Idle.ensures.found

pub returns-in-Ok-Stopped : goal.returns-in-Ok-Stopped
returns-in-Ok-Stopped g c = stopped_turn g.D.Lib.Media.library _ _ c.in-Ok-Stopped.field-0 c.in-Ok-Stopped.len c.in-Ok-Stopped.field-0-is c.in-Ok-Stopped.ensures.found

pub returns-in-Err : goal.returns-in-Err
returns-in-Err g c = refused_turn g.D.Lib.Media.library _ _ c.in-Err.why c.refused.result c.refused.ensures c.in-Err.ensures.found
