-- Sixteen lanes, lane by lane.
use Rattle.std.proofs.Common.{◌≡◌, ℕ, ◌+◌, ◌-◌, ◌*◌, ◌/◌, ◌%◌, ◌<◌, ◌≤◌, List, length, map, get_or, replicate, inl, inr, sym, ap, ◌∙◌, arith}
use Rattle.std.proofs.lemmas.List.{length-map, get_or-map}
use Rattle.std.proofs.lemmas.Simd.{get_or-zip2, length-zip2, get_or-replicate, get_or-chunk, length-chunk, get_or-put_chunk_below, get_or-put_chunk_at}
use Rattle.std.proofs.lemmas.Bool.{cases_lt}
use Rattle.std.specs.Simd.Lanes.{zip2}
use Rattle.std.proofs.Math.Nat.{mod-eq_of_lt, mul-le-mul_right}
use lib.Lanes.{chunk, put_chunk}
use Rattle.ffv1_lanes.specs.Blend.{blended}
use Rattle.ffv1_lanes.specs.Lanes.{HasLanes}

-- lane by lane with a number
pub HasLanes-splat : (op : ℕ → ℕ → ℕ) (v : List ℕ) (y : ℕ) (f : ℕ → ℕ) → length v ≡ 16 → ((k : ℕ) → k < 16 → op (get_or v k 0) y ≡ f k) → HasLanes (zip2 op v (replicate 16 y)) f
HasLanes-splat op v y f long each = record {
  long = length-zip2 op v (replicate 16 y) long ∙ long;
  each = λ k l. get_or-zip2 op v (replicate 16 y) k 0 0 0 (omega arith) l ∙ ap (op (get_or v k 0)) (get_or-replicate 16 k y 0 l) ∙ each k l;
}

-- lane by lane with other lanes
pub HasLanes-zip2 : (op : ℕ → ℕ → ℕ) (v w : List ℕ) (f : ℕ → ℕ) → length v ≡ 16 → length w ≡ 16 → ((k : ℕ) → k < 16 → op (get_or v k 0) (get_or w k 0) ≡ f k) → HasLanes (zip2 op v w) f
HasLanes-zip2 op v w f long wide each = record {
  long = length-zip2 op v w (long ∙ sym wide) ∙ long;
  each = λ k l. get_or-zip2 op v w k 0 0 0 (omega arith) (omega arith) ∙ each k l;
}

pub HasLanes-chunk : (i : ℕ) (xs : List ℕ) → i + 16 ≤ length xs → HasLanes (chunk i 16 xs) (λ k. get_or xs (i + k) 0)
HasLanes-chunk i xs room = record { long = length-chunk i 16 xs room; each = λ k l. get_or-chunk i 16 xs k 0 l }

-- each lane by itself
pub HasLanes-map : (h : ℕ → ℕ) (v : List ℕ) (f g : ℕ → ℕ) → HasLanes v f → ((k : ℕ) → k < 16 → h (f k) ≡ g k) → HasLanes (map h v) g
HasLanes-map h v f g lanes each = record {
  long = length-map v h ∙ lanes.long;
  each = λ k l. get_or-map h v k 0 0 (omega (arith, lanes.long)) ∙ ap h (lanes.each k l) ∙ each k l;
}

-- the same lanes, said otherwise
pub HasLanes-same : (v : List ℕ) (f g : ℕ → ℕ) → HasLanes v f → ((k : ℕ) → k < 16 → f k ≡ g k) → HasLanes v g
HasLanes-same v f g lanes each = record { long = lanes.long; each = λ k l. lanes.each k l ∙ each k l }

-- ---- sixteen bits suffice

product-bound : (x w : ℕ) → x < 256 → x * w ≤ 255 * w
product-bound x w small = mul-le-mul_right {m = x} {n = 255} w (omega arith)

pub product-fits : (x w : ℕ) → x < 256 → w ≤ 256 → (x * w) % 65536 ≡ x * w
product-fits x w small weight = mod-eq_of_lt (omega (arith, product-bound x w small))

-- Two weighted samples whose weights make up 256.
pub weighted-fit : (a b w : ℕ) → a < 256 → b < 256 → w < 256 → a * (256 - w) + b * w < 65408
weighted-fit a b w first second weight = omega (arith, product-bound a (256 - w) first, product-bound b w second)

pub sum-fits : (x y : ℕ) → x + y < 65408 → ((x + y) % 65536 + 128) % 65536 ≡ x + y + 128
sum-fits x y fits =
    let inner : (x + y) % 65536 ≡ x + y = mod-eq_of_lt (omega arith) in
    ap (λ (n : ℕ). (n + 128) % 65536) inner ∙ mod-eq_of_lt (omega arith)

-- Weighted, added, rounded and divided.
pub HasLanes-blended : (w weight : ℕ) (a b p q s r : List ℕ) → weight ≡ w → HasLanes p (λ k. get_or a k 0 * (256 - weight)) → HasLanes q (λ k. get_or b k 0 * weight)
    → HasLanes s (λ k. get_or p k 0 + get_or q k 0 + 128) → HasLanes r (λ k. get_or s k 0 / 256) → HasLanes r (λ k. blended w (get_or a k 0) (get_or b k 0))
HasLanes-blended w weight a b p q s r same first second sum whole = record {
  long = whole.long;
  each = λ k l.
      whole.each k l
      ∙ ap (λ (x : ℕ). x / 256) (sum.each k l ∙ ap (λ (x : ℕ). x + get_or q k 0 + 128) (first.each k l) ∙ ap (λ (y : ℕ). get_or a k 0 * (256 - weight) + y + 128) (second.each k l))
      ∙ ap (λ (x : ℕ). blended x (get_or a k 0) (get_or b k 0)) same;
}

-- Sixteen blended samples stored behind those before them.
pub stored : (w i : ℕ) (a b into la lb r : List ℕ) → i + 16 ≤ length into → HasLanes la (λ k. get_or a (i + k) 0) → HasLanes lb (λ k. get_or b (i + k) 0)
    → HasLanes r (λ k. blended w (get_or la k 0) (get_or lb k 0)) → ((x : ℕ) → x < i → get_or into x 0 ≡ blended w (get_or a x 0) (get_or b x 0))
    → (x : ℕ) → x < i + 16 → get_or (put_chunk i into r) x 0 ≡ blended w (get_or a x 0) (get_or b x 0)
stored w i a b into la lb r room first second lanes done x below = elim (cases_lt x i) [
  | inl before ↦ get_or-put_chunk_below i into r x 0 before ∙ done x before
  | inr from ↦
      let k : ℕ = x - i in
      let at : i + k ≡ x = omega arith in
      let l : k < 16 = omega arith in
      ap (λ (n : ℕ). get_or (put_chunk i into r) n 0) (sym at) ∙ get_or-put_chunk_at i into r k 0 (omega (arith, lanes.long)) (omega (arith, lanes.long)) ∙ lanes.each k l
      ∙ ap (λ (y : ℕ). blended w y (get_or lb k 0)) (first.each k l) ∙ ap (λ (y : ℕ). blended w (get_or a (i + k) 0) y) (second.each k l)
      ∙ ap (λ (n : ℕ). blended w (get_or a n 0) (get_or b n 0)) at
]
