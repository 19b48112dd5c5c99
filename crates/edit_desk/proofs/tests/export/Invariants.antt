use Rattle.std.proofs.Common.{◌≡◌}
use Rattle.edit_desk.proofs.tests.export.Given as goal

abbrev pub invariant-loop : goal.invariant-loop
invariant-loop g l = (g.D.Desk.desk l.desk).fixed ≡ (g.D.Desk.desk l.fn.desk).fixed
