use Rattle.ffv1_rice.proofs.LineBack.{reads_lines}
use Rattle.ffv1_rice.proofs.law.reads_lines.Goals as goal

pub returns : goal.returns
returns c = reads_lines
