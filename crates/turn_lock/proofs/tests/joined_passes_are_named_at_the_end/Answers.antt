use Rattle.std.proofs.Common.{rules, ap}
use Rattle.turn_lock.proofs.Trials.{two_named}
use Rattle.turn_lock.proofs.tests.joined_passes_are_named_at_the_end.Goals as goal

pub close-log-requires-clause-joined : goal.close-log-requires-clause-joined
close-log-requires-clause-joined g c =
    two_named _ _ _ _ _ _ _ _ (ap (λ p. p.joined) c.join-2.ensures.joined) (search rules) (ap (λ p. p.joined) c.join.ensures.joined) (search rules) (search rules) (search rules) (search rules)
