-- The bits of lanes that differ.
use Rattle.std.proofs.Common.{◌≡◌, ℕ, ◌+◌, ◌*◌, ◌%◌, ◌^◌, List, [], ◌∷◌, length, map, refl, sym, ap, ◌∙◌, arith, eqb, eq-eqb, cond, Bool, true, false, w8}
use Rattle.std.proofs.lemmas.Simd.{tops_compared, mask_l-mod, length-zip2}
use Rattle.std.proofs.lemmas.Bool.{eqb-true, not-false}
use Rattle.std.specs.Simd.Lanes.{zip2}
use mathlib.Core.Bool.{not}
use lib.Lanes.{mask_l, top}

abbrev pub differ : ℕ → ℕ → Bool
differ x y = not (eqb x y)

no_bit : (b : Bool) (m : ℕ) → cond b 1 0 + 2 * m ≡ 0 → (b ≡ false) × (m ≡ 0)
no_bit true m h = absurd (omega arith)
no_bit false m h = (refl, omega arith)

-- no lane differs
pub none_differ : (xs ys : List ℕ) → length xs ≡ length ys → mask_l (zip2 differ xs ys) ≡ 0 → xs ≡ ys
none_differ [] [] long none = refl
none_differ [] (y ∷ ys) long none = absurd (omega arith)
none_differ (x ∷ xs) [] long none = absurd (omega arith)
none_differ (x ∷ xs) (y ∷ ys) long none =
    let both = no_bit (differ x y) (mask_l (zip2 differ xs ys)) none in
    let first : x ≡ y = eqb-true x y (not-false (eqb x y) both.0) in
    let rest : xs ≡ ys = none_differ xs ys (omega arith) both.1 in
    cc

pub differ-same : (xs : List ℕ) → mask_l (zip2 differ xs xs) ≡ 0
differ-same [] = refl
differ-same (x ∷ xs) =
    let here : eqb x x ≡ true = eq-eqb x x refl in
    rw here (ap (λ (m : ℕ). 0 + 2 * m) (differ-same xs))

-- the mask of thirty-two lanes
pub mask-differ : (xs ys : List ℕ) → length xs ≡ 32 → length ys ≡ 32 → mask_l (map (top 7) (zip2 (λ a b. cond (differ a b) 255 0) xs ys)) % 2 ^ 64 ≡ mask_l (zip2 differ xs ys)
mask-differ xs ys long wide =
    ap (λ (ms : List Bool). mask_l ms % 2 ^ 64) (tops_compared w8 differ xs ys) ∙ mask_l-mod (zip2 differ xs ys) 64 (omega (arith, length-zip2 differ xs ys (long ∙ sym wide)))
