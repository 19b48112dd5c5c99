use Rattle.std.proofs.Common.{◌≡◌, ℕ, ◌+◌, sym, subst, arith}
use Rattle.play_head.specs.declared.work.Turned.TheVariants as turned
use Rattle.play_head.proofs.Turning.{IsWorking, turn_is, refused_is, work_starts, work_goes_on, works_all, works_released, works_idle, works_stopped, works_refused}
use Rattle.play_head.proofs.work.work.Goals as goal

pub loop-init : goal.loop-init
loop-init g c = work_starts g.D.Lib.Media.library _

pub loop-preserved : goal.loop-preserved
loop-preserved g c =
    subst (λ (n : ℕ). IsWorking g.D.Lib.Media.library (g.D.Desk.desk c.args.desk.now) (g.D.Desk.desk c.work_turn.new.desk) (c.loop.counter + 1) n) (sym c.one_more_if-filed.ensures)
    (work_goes_on g.D.Lib.Media.library _ _ _ c.loop.counter c.loop.filed c.in-Ok-Ended.more c.loop.invariant
    (turn_is g.D.Lib.Media.library _ _ c.work_turn.result c.in-Ok-Ended.field-0 (turned.Ended c.in-Ok-Ended.more) c.in-Ok-Ended.is c.in-Ok-Ended.field-0-is c.work_turn.ensures))

pub returns-in-Ok-Released : goal.returns-in-Ok-Released
returns-in-Ok-Released g c =
    works_released g.D.Lib.Media.library _ _ _ c.args.turns c.loop.counter c.loop.filed c.loop-test.true c.loop.invariant
    (turn_is g.D.Lib.Media.library _ _ c.work_turn.result c.in-Ok-Released.field-0 turned.Released c.in-Ok-Released.is c.in-Ok-Released.field-0-is c.work_turn.ensures)

pub returns-in-Ok-Idle : goal.returns-in-Ok-Idle
returns-in-Ok-Idle g c =
    let idle = turn_is g.D.Lib.Media.library _ _ c.work_turn.result c.in-Ok-Idle.field-0 turned.Idle c.in-Ok-Idle.is c.in-Ok-Idle.field-0-is c.work_turn.ensures in
    works_idle g.D.Lib.Media.library _ _ _ c.args.turns c.loop.counter c.loop.filed c.loop-test.true c.loop.invariant idle.0 idle.1

pub returns-in-Ok-Stopped : goal.returns-in-Ok-Stopped
returns-in-Ok-Stopped g c =
    let stopped = turn_is g.D.Lib.Media.library _ _ c.work_turn.result c.in-Ok-Stopped.field-0 turned.Stopped c.in-Ok-Stopped.is c.in-Ok-Stopped.field-0-is c.work_turn.ensures in
    works_stopped g.D.Lib.Media.library _ _ _ c.args.turns c.loop.counter c.loop.filed c.loop-test.true c.loop.invariant stopped.0 stopped.1

pub returns-in-Err : goal.returns-in-Err
returns-in-Err g c =
    let full = refused_is g.D.Lib.Media.library _ _ c.work_turn.result c.in-Err.why c.in-Err.is c.work_turn.ensures in
    works_refused g.D.Lib.Media.library _ _ _ c.args.turns c.loop.counter c.loop.filed c.in-Err.why c.loop-test.true c.loop.invariant full.0 full.1

pub returns : goal.returns
returns g c = (let all : c.loop.counter ≡ c.args.turns = omega arith in works_all g.D.Lib.Media.library _ _ c.args.turns c.loop.counter c.loop.filed all c.loop.invariant)
