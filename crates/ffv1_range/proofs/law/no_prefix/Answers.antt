use Rattle.ffv1_range.proofs.Symbols.{no_prefix}
use Rattle.ffv1_range.proofs.law.no_prefix.Goals as goal

pub returns : goal.returns
returns c = no_prefix
