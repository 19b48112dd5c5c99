use Rattle.std.proofs.Common.{◌≡◌}
use Rattle.studio_tests.proofs.caller.call_all.Given as goal

abbrev pub invariant-loop : goal.invariant-loop
invariant-loop g l = (g.D.Desk.desk l.desk).fixed ≡ (g.D.Desk.desk l.fn.desk).fixed
