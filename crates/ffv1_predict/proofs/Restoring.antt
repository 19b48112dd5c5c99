-- The coded difference gives the sample back.
use Rattle.std.proofs.Common.{◌≡◌, ℕ, ◌+◌, ◌-◌, ◌%◌, ◌<◌, ℤ, pos, negsuc, neg_ℤ, ◌≤ℤ◌, ◌+ℤ◌, ◌-ℤ◌, refl, sym, ◌∙◌, ap, subst, arith, lit<}
use Rattle.std.specs.Int.{int_rem_euclid, int_min, int_max}
use Rattle.std.proofs.lemmas.Int.{ints, int_rem_euclid_is}
use Rattle.tl_base.specs.Arithmetic.{folded, IsBetween}
use Rattle.tl_base.proofs.Medians.{is_middle}
use Rattle.ffv1_predict.specs.declared.near.Near.{Near}
use Rattle.ffv1_predict.specs.Near.{predicted, turned, coded, IsRestored, IsNear}

folded_is : (z : ℤ) (m : ℕ) → z +ℤ pos 128 +ℤ pos 256 ≡ pos m → folded z ≡ pos (m % 256) -ℤ pos 128
folded_is z m e = ap (λ r. r -ℤ pos 128) (int_rem_euclid_is (z +ℤ pos 128) (pos 256) 256 1 m (lit< tt) refl e)

-- at a prediction q
restored_at : (c : ℤ) (q s : ℕ) → q < 256 → s < 256 → pos s ≡ int_rem_euclid (pos q +ℤ turned c (folded (turned c (pos s -ℤ pos q)))) (pos 256)
restored_at (pos k) q s small below =
    let m : ℕ = s + 384 - q in
    let f : folded (pos s -ℤ pos q) ≡ pos (m % 256) -ℤ pos 128 = folded_is (pos s -ℤ pos q) m (omega (arith, ints)) in
    let z : ℤ = pos q +ℤ (pos (m % 256) -ℤ pos 128) in
    let n : ℕ = q + m % 256 + 128 in
    let back : n % 256 ≡ s = omega arith in
    rw f (sym (int_rem_euclid_is z (pos 256) 256 1 n (lit< tt) refl (omega (arith, ints)) ∙ ap pos back))
restored_at (negsuc k) q s small below =
    let m : ℕ = q + 384 - s in
    let f : folded (neg_ℤ (pos s -ℤ pos q)) ≡ pos (m % 256) -ℤ pos 128 = folded_is (neg_ℤ (pos s -ℤ pos q)) m (omega (arith, ints)) in
    let z : ℤ = pos q +ℤ neg_ℤ (pos (m % 256) -ℤ pos 128) in
    let n : ℕ = q + 384 - m % 256 in
    let back : n % 256 ≡ s = omega arith in
    rw f (sym (int_rem_euclid_is z (pos 256) 256 1 n (lit< tt) refl (omega (arith, ints)) ∙ ap pos back))

natural : (z : ℤ) → pos 0 ≤ℤ z → z ≤ℤ pos 255 → (q : ℕ) × (z ≡ pos q) × (q < 256)
natural (pos q) least most = (q, refl, omega (arith, ints))
natural (negsuc a) least most = absurd (omega (arith, ints))

least : (a b m : ℤ) → pos 0 ≤ℤ a → pos 0 ≤ℤ b → int_min a b ≤ℤ m → pos 0 ≤ℤ m
least a b m first second above = grind (arith, ints)

most : (l t : ℕ) (m : ℤ) → l < 256 → t < 256 → m ≤ℤ int_max (pos l) (pos t) → m ≤ℤ pos 255
most l t m small smaller below = grind (arith, ints)

-- a prediction from samples is a sample
predicted_sample : (n : Near) → IsNear n → (q : ℕ) × (predicted n ≡ pos q) × (q < 256)
predicted_sample n is =
    let between : IsBetween (pos n.l) (pos n.t) (predicted n) = (is_middle (pos n.l) (pos n.t) (pos n.l +ℤ pos n.t -ℤ pos n.tl)).first in
    natural (predicted n) (least (pos n.l) (pos n.t) (predicted n) (omega (arith, ints)) (omega (arith, ints)) between.0) (most n.l n.t (predicted n) is.l is.t between.1)

pub restored_back : (c : ℤ) (n : Near) (s : ℕ) → IsNear n → s < 256 → IsRestored c n (coded c n s) s
restored_back c n s is below =
    let p = predicted_sample n is in
    let P : ℤ → Type 0 = λ v. pos s ≡ int_rem_euclid (v +ℤ turned c (folded (turned c (pos s -ℤ v)))) (pos 256) in
    subst P (sym p.1) (restored_at c p.0 s p.2 below)
