use Rattle.std.proofs.Common.{◌≡◌}
use Rattle.turn_lock.proofs.turn.Turn.enter.Given as goal

abbrev pub invariant-loop : goal.invariant-loop
invariant-loop g l = l.pass ≡ record l.initial.pass { word = l.pass.word }
