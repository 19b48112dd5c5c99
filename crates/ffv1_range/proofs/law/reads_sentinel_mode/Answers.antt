use Rattle.ffv1_range.proofs.Part.{sentinel_read}
use Rattle.ffv1_range.proofs.law.reads_sentinel_mode.Goals as goal

pub returns : goal.returns
returns c = sentinel_read
