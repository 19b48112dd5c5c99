use Rattle.std.proofs.Common.{◌≡◌, ◌+◌, ◌-◌, suc, arith}
use Rattle.std.proofs.Math.Nat.{pow-succ'}
use Rattle.ffv1_range.proofs.Steps.{magnitude_at-next, magnitude_at-end}
use Rattle.ffv1_range.proofs.read_symbol.magnitude_from.Goals as goal

pub loop-i-preserved : goal.loop-i-preserved
loop-i-preserved c =
    let e : c.args.exponent + 1 - (c.loop-i.i - 1) ≡ suc (c.args.exponent + 1 - c.loop-i.i) = omega arith in
    record {
      left = grind (arith, magnitude_at-next);
      small = rw (e, pow-succ' 2 (c.args.exponent + 1 - c.loop-i.i)) (grind arith);
      sound = c.bit_at-bit.ensures.sound;
      kept = c.bit_at-bit.ensures.kept;
    }

pub returns-clause-magnitude : goal.returns-clause-magnitude
returns-clause-magnitude c = grind (arith, magnitude_at-end)
