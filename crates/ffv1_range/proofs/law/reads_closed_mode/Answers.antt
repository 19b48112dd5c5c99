use Rattle.ffv1_range.proofs.Part.{closed_read}
use Rattle.ffv1_range.proofs.law.reads_closed_mode.Goals as goal

pub returns : goal.returns
returns c = closed_read
