use Rattle.std.proofs.Common.{take}
use Rattle.play_head.specs.Playing.{player}
use Rattle.play_head.specs.PlayingScript.{PlaysLines, setting_of, tells_of}
use Rattle.play_head.proofs.body.play_script.Given as goal

abbrev pub invariant-loop-line : goal.invariant-loop-line
invariant-loop-line g l =
    PlaysLines (setting_of g.D.Lib.Media.library l.clips l.script.rate (g.T.Store.seen l.fn.store).file (tells_of g.T.Store.tells g.S.Sink.tells g.O.Sink.tells))
    (player (g.D.Desk.desk l.fn.desk) (g.T.Store.seen l.fn.store) (g.S.Sink.seen l.fn.screen) (g.O.Sink.seen l.fn.out))
    (player (g.D.Desk.desk l.desk) (g.T.Store.seen l.store) (g.S.Sink.seen l.screen) (g.O.Sink.seen l.out))
    (take l.line-index l.line-items)
