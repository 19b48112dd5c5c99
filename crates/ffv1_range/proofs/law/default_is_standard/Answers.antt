use Rattle.std.proofs.Common.{refl}
use Rattle.ffv1_range.specs.DefaultTransition.{default_state_transition}
use Rattle.ffv1_range.proofs.law.default_is_standard.Goals as goal

pub returns : goal.returns
unfolding default_state_transition
returns c = refl
