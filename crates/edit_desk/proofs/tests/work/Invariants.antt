use Rattle.std.proofs.Common.{◌≡◌}
use Rattle.edit_desk.proofs.tests.work.Given as goal

abbrev pub invariant-loop-n : goal.invariant-loop-n
invariant-loop-n g l = (g.D.Desk.desk l.desk).fixed ≡ (g.D.Desk.desk l.fn.desk).fixed
