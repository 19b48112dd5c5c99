use Rattle.ffv1_range.proofs.transition.Transition.next.Goals as goal

pub returns-clause-kept : goal.returns-clause-kept
returns-clause-kept c = rw (c.states_after.ensures.next c.args.state c.requires) (c.states_after.ensures.sound.keeps_next c.args.state c.args.bit c.requires)
