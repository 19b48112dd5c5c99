-- How large a number of a few digits is.
use Rattle.std.proofs.Common.{ℕ, ◌+◌, ◌*◌, ◌^◌, ◌<◌, ◌≤◌, arith, lit<}
use Rattle.std.proofs.Math.Nat.{pow-le-pow_right}
use Rattle.std.proofs.lemmas.Grind.{pow_more}

-- the next value is as small
pub next_small : (value digit k : ℕ) → value < 10 ^ k → digit ≤ 9 → 10 * value + digit < 10 ^ (k + 1)
next_small value digit k small digit_small = omega (arith, pow_more 10 k)

-- a number of up to nine digits fits
pub fits_next : (value k : ℕ) → value < 10 ^ k → k < 9 → 10 * value + 255 < 2 ^ 32
fits_next value k small short =
    let eight : k ≤ 8 = omega arith in
    let below : 10 ^ k ≤ 10 ^ 8 = pow-le-pow_right (lit< tt) eight in
    omega arith
