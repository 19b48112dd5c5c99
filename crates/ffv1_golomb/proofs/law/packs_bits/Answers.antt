use Rattle.ffv1_golomb.proofs.Packing.{packs_bits}
use Rattle.ffv1_golomb.proofs.law.packs_bits.Goals as goal

pub returns : goal.returns
returns c = packs_bits
