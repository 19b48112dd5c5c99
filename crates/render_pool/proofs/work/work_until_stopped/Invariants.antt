use Rattle.render_pool.proofs.Turning.{IsTurning}
use Rattle.render_pool.proofs.work.work_until_stopped.Given as goal

abbrev pub invariant-loop : goal.invariant-loop
invariant-loop g l = IsTurning g.D.Lib.Media.library (g.D.Desk.desk l.fn.desk) (g.D.Desk.desk l.desk)
