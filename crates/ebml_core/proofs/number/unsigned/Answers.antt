use Rattle.std.proofs.Common.{ℕ, ◌^◌, ◌<◌, ◌≤◌, arith}
use Rattle.std.proofs.Math.Nat.{pow-le-pow_right}
use Rattle.ebml_core.proofs.number.unsigned.Goals as goal

-- fewer than 8 octets stand for less than 2 ^ 56
few : (number count : ℕ) → number < 256 ^ count → count ≤ 7 → number < 256 ^ 7
few number count below most =
    let weights : 256 ^ count ≤ 256 ^ 7 = pow-le-pow_right {n = 256} (omega arith) {i = count} {j = 7} most in
    omega (arith, weights)

pub overflow_mul-number : goal.overflow_mul-number
overflow_mul-number c = omega (arith, few c.loop-octet.number c.loop-octet.octet-index c.loop-octet.invariant.1 (omega arith))

pub overflow_add-number : goal.overflow_add-number
overflow_add-number c = omega (arith, few c.loop-octet.number c.loop-octet.octet-index c.loop-octet.invariant.1 (omega arith))
