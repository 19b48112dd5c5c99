use Rattle.play_head.proofs.Turning.{IsWorking}
use Rattle.play_head.proofs.work.work.Given as goal

abbrev pub invariant-loop : goal.invariant-loop
invariant-loop g l = IsWorking g.D.Lib.Media.library (g.D.Desk.desk l.fn.desk) (g.D.Desk.desk l.desk) l.counter l.filed
