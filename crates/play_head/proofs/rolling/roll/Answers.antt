use Rattle.play_head.proofs.Acting.{rolls_none, rolls_on, roll_stops}
use Rattle.play_head.proofs.rolling.roll.Goals as goal

pub loop-act-init : goal.loop-act-init
loop-act-init g c = rolls_none _ _ _ _ c.over-calls.ensures

pub returns-in-Err : goal.returns-in-Err
returns-in-Err g c =
    roll_stops _ _ _ _ _ c.loop-act.calls c.next.new.self c.in-Some.act c.in-Err.why c.in-Some.ensures.calls c.in-Some.ensures.kind
    c.loop-act.invariant c.in-Err.ensures

pub loop-act-preserved : goal.loop-act-preserved
loop-act-preserved g c =
    rolls_on _ _ _ _ _ c.loop-act.calls c.next.new.self c.in-Some.act c.in-Some.ensures.calls c.loop-act.invariant c.in-Ok.ensures
