use Rattle.std.proofs.Common.{arith}
use Rattle.ffv1_range.proofs.Steps.{magnitude_at_bit}
use Rattle.ffv1_range.proofs.read_symbol.bit_below.Goals as goal

pub returns-clause-magnitude : goal.returns-clause-magnitude
returns-clause-magnitude c = grind (arith, magnitude_at_bit)
