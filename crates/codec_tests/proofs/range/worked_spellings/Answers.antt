use Rattle.std.proofs.Common.{refl}
use Rattle.ffv1_range.specs.Symbol.{spelling, magnitude_bits, ones, low_bits}
use Rattle.codec_tests.proofs.range.worked_spellings.Goals as goal

pub returns-clause-minus_five : goal.returns-clause-minus_five
unfolding spelling magnitude_bits ones low_bits lib.Count.count_leading_zeros
returns-clause-minus_five c = refl

pub returns-clause-zero : goal.returns-clause-zero
unfolding spelling
returns-clause-zero c = refl
