use Rattle.turn_lock.specs.Trials.{AddsAlone}
use Rattle.turn_lock.proofs.tests.stop_five.Given as goal

abbrev pub invariant-loop : goal.invariant-loop
invariant-loop g l = AddsAlone l.fn.pass l.pass
