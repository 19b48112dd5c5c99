use Rattle.ffv1_range.proofs.Tables.{kept-pos}
use Rattle.ffv1_range.proofs.transition.Transition.kept.Goals as goal

pub returns-clause-positive : goal.returns-clause-positive
returns-clause-positive c = kept-pos c.args.self.now c.args.state c.states_after-states.ensures.sound c.requires
