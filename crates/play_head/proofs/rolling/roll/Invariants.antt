use Rattle.std.proofs.Common.{length}
use Rattle.play_head.specs.PlayingActs.{image_rows}
use Rattle.play_head.specs.Roll.{roll_calls}
use Rattle.play_head.proofs.Acting.{IsRolling}
use Rattle.play_head.proofs.rolling.roll.Given as goal

abbrev pub invariant-loop-act : goal.invariant-loop-act
invariant-loop-act g l =
    IsRolling (record { library = g.D.Lib.Media.library; rows = image_rows; screen = g.S.Sink.tells; out = g.O.Sink.tells })
    (record { desk = g.D.Desk.desk l.fn.desk; screen = g.S.Sink.seen l.fn.screen; out = g.O.Sink.seen l.fn.out })
    (record { desk = g.D.Desk.desk l.desk; screen = g.S.Sink.seen l.screen; out = g.O.Sink.seen l.out }) (roll_calls l.first l.len) l.calls

abbrev pub decreases-loop-act : goal.decreases-loop-act
decreases-loop-act g l = length l.calls
