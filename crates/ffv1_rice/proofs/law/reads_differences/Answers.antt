use Rattle.ffv1_rice.proofs.Back.{reads_differences}
use Rattle.ffv1_rice.proofs.law.reads_differences.Goals as goal

pub returns : goal.returns
returns c = reads_differences
