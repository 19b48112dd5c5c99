-- The lowest octets of a number, cut from all of them.
use Rattle.std.proofs.Common.{◌≡◌, ℕ, zero, suc, ◌-◌, ◌≤◌, length, take, drop, refl, arith, inl, inr}
use Rattle.std.proofs.lemmas.Bool.{cases_lt}
use Rattle.std.proofs.lemmas.List.{take_all}
use Rattle.std.specs.Int.{bytes_high_first}

pub length-bytes_high_first : (n x : ℕ) → length (bytes_high_first n x) ≡ n
length-bytes_high_first zero x = refl
length-bytes_high_first (suc n) x = let e = length-bytes_high_first n x in omega (arith, e)

drop-bytes_high_first : (k n x : ℕ) → n ≤ k → drop (k - n) (bytes_high_first k x) ≡ bytes_high_first n x
drop-bytes_high_first zero n x h = let e : n ≡ 0 = omega arith in rw e refl
drop-bytes_high_first (suc k) n x h = elim (cases_lt k n) [
  | inl top ↦
      let e : n ≡ suc k = omega arith in
      let z : suc k - n ≡ 0 = omega arith in
      rw (z, e) refl
  | inr lower ↦
      let e : suc k - n ≡ suc (k - n) = omega arith in
      rw e (drop-bytes_high_first k n x lower)
]

-- the range of the last n
pub range-bytes_high_first : (k n x : ℕ) → n ≤ k → take (k - (k - n)) (drop (k - n) (bytes_high_first k x)) ≡ bytes_high_first n x
range-bytes_high_first k n x h =
    let len : k - (k - n) ≡ n = omega arith in
    rw (len, drop-bytes_high_first k n x h) (take_all n (bytes_high_first n x) (omega (arith, length-bytes_high_first n x)))
