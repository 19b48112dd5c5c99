use Rattle.ffv1_rice.proofs.StateLemmas.{parameter_is_least}
use Rattle.ffv1_rice.proofs.law.parameter_is_least.Goals as goal

pub returns : goal.returns
returns c = parameter_is_least
