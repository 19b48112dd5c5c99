use Rattle.std.proofs.Common.{arith}
use Rattle.ffv1_range.proofs.Steps.{exponent_at-ones, exponent_at-zero, exponent_at-end}
use Rattle.ffv1_range.proofs.read_symbol.long_exponent.Goals as goal

pub returns-then-not-bit_at-clause-exponent : goal.returns-then-not-bit_at-clause-exponent
returns-then-not-bit_at-clause-exponent c = grind (arith, exponent_at-zero)

pub loop-i-preserved : goal.loop-i-preserved
loop-i-preserved c = record {
  left = grind (arith, exponent_at-ones);
  sound = c.bit_at.ensures.sound;
  kept = c.bit_at.ensures.kept;
}

pub returns-clause-exponent : goal.returns-clause-exponent
returns-clause-exponent c = grind (arith, exponent_at-end)
