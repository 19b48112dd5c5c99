use Rattle.std.proofs.Common.{◌≡◌, ℕ, ◌-◌, ◌+◌, ◌/◌, ◌*◌, ◌^◌, ◌<◌, ◌≤◌, subst, arith}
use Rattle.std.proofs.lemmas.Nat.{shr_below}
use Rattle.std.proofs.Math.Nat.{pow-le-pow_right}
use Rattle.ffv1_rice.proofs.code.leading.Goals as goal

below : (word count : ℕ) → word < 2 ^ 64 → count ≤ 32 → word / 2 ^ (64 - count) < 2 ^ count
below word count fits few =
    let e : 64 ≡ count + (64 - count) = omega arith in
    shr_below word count (64 - count) (subst (λ (k : ℕ). word < 2 ^ k) e fits)

pub overflow_cast-result-2 : goal.overflow_cast-result-2
overflow_cast-result-2 c =
    let power = pow-le-pow_right {n = 2} (omega arith) {i = c.args.count} {j = 32} c.requires.few in
    record { fits = omega (arith, power, below c.args.word c.args.count c.ranges.word.fits c.requires.few) }

pub returns-clause-fits : goal.returns-clause-fits
returns-clause-fits c = below c.args.word c.args.count c.ranges.word.fits c.requires.few
