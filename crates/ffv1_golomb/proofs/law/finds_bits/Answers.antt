use Rattle.ffv1_golomb.proofs.WrittenBits.{finds_bits}
use Rattle.ffv1_golomb.proofs.law.finds_bits.Goals as goal

pub returns : goal.returns
returns c = finds_bits
