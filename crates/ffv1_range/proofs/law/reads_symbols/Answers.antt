use Rattle.ffv1_range.proofs.Symbols.{reads_symbols}
use Rattle.ffv1_range.proofs.law.reads_symbols.Goals as goal

pub returns : goal.returns
returns c = reads_symbols
