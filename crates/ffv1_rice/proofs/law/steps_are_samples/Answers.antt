use Rattle.ffv1_rice.proofs.LineLemmas.{zeros-step, difference-step, after-step}
use Rattle.ffv1_rice.proofs.law.steps_are_samples.Goals as goal

pub returns : goal.returns
returns c = record { zeros = zeros-step; difference = difference-step; after_run = after-step }
