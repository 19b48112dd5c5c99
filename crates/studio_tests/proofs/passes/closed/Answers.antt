use Rattle.std.proofs.Common.{rules, ap}
use Rattle.studio_tests.proofs.Four.{four_named}
use Rattle.studio_tests.proofs.passes.closed.Goals as goal

pub close-requires-clause-joined : goal.close-requires-clause-joined
close-requires-clause-joined g c =
    four_named _ _ _ _ _ _ _ _ _ _ _ _ _ _ (ap (λ p. p.joined) c.join.ensures.joined) (ap (λ p. p.joined) c.join-2.ensures.joined) (ap (λ p. p.joined) c.join-3.ensures.joined) (ap (λ p. p.joined) c.join-4.ensures.joined) (search rules) (search rules) (search rules) (search rules) (search rules) (search rules) (search rules) (search rules) (search rules) (search rules)
