-- Remainders over GF(2), as whole numbers.
use Rattle.std.proofs.Common.{◌≡◌, ℕ, zero, suc, ◌+◌, ◌-◌, ◌*◌, ◌/◌, ◌%◌, ◌^◌, ◌<◌, ◌≤◌, cond, ltb, List, [], ◌∷◌, ◌++◌, replicate, refl, sym, ap, ◌∙◌, subst, add-zero, zero-add, zero-mul, lit<, arith, inl, inr}
use Rattle.std.specs.Prelude.{bit_xor}
use Rattle.std.specs.Int.{bit_at}
use Rattle.std.specs.Int.Bits.{xor_assoc, xor_self, xor_zero_l, xor_zero_r}
use Rattle.std.specs.List.{fold, AllByRecursion}
use Rattle.std.proofs.lemmas.Nat.{xor_lt, xor_block, xor_comm, pow_pos, mod-pow-add, mod_below, mul-le, pow_below}
use Rattle.std.proofs.lemmas.Grind.{flat_map-append}
use Rattle.std.proofs.lemmas.Nat.Bits.{bit_at-lt}
use Rattle.std.proofs.lemmas.Bool.{cases_lt, lt-ltb, le-ltb}
use Rattle.std.proofs.lemmas.List.Sums.{fold-append}
use Rattle.std.proofs.Math.Nat.{pow-succ', le-mul_of_pos_right}
use Rattle.tl_base.specs.Parity.{generator, bits_of, coefficients, reduced, parity, times, IsRemainder}

-- a remainder times x
unfoldable pub shifted : ℕ → ℕ
shifted r = reduced r 0

-- xor of numbers with one more bit
double : (a b c : ℕ) → c < 2 → bit_xor (2 * a) (2 * b + c) ≡ 2 * bit_xor a b + c
double a b c h =
    let e = xor_block 1 a b 0 c (omega arith) (omega arith) in
    let left : bit_xor (a * 2 ^ 1 + 0) (b * 2 ^ 1 + c) ≡ bit_xor (2 * a) (2 * b + c) = ap (λ x. bit_xor x (b * 2 ^ 1 + c)) (omega arith) ∙ ap (λ x. bit_xor (2 * a) x) (omega arith) in
    sym left ∙ e ∙ rw xor_zero_l (omega arith)

-- a number of 33 bits less its highest
high : (s : ℕ) → 2 ^ 32 ≤ s → s < 2 ^ 33 → bit_xor s generator ≡ bit_xor (s - 2 ^ 32) 0x04C11DB7
high s low top =
    let e : s ≡ 1 * 2 ^ 32 + (s - 2 ^ 32) = omega arith in
    ap (λ x. bit_xor x generator) e ∙ xor_block 32 1 1 (s - 2 ^ 32) 0x04C11DB7 (omega arith) (lit< tt) ∙ omega arith

pub reduced-lt : (r b : ℕ) → r < 2 ^ 32 → b < 2 → reduced r b < 2 ^ 32
unfolding reduced
reduced-lt r b h k =
    elim (cases_lt (2 * r + b) (2 ^ 32)) [
      | inl less ↦ rw (lt-ltb _ _ less) less
      | inr more ↦ rw (le-ltb _ _ more, high (2 * r + b) more (omega arith)) (xor_lt 32 (2 * r + b - 2 ^ 32) 0x04C11DB7 (omega arith) (lit< tt))
    ]

xor_swap : (a g b : ℕ) → bit_xor (bit_xor a g) b ≡ bit_xor (bit_xor a b) g
xor_swap a g b = xor_assoc a g b ∙ ap (λ x. bit_xor a x) (xor_comm g b) ∙ sym (xor_assoc a b g)

xor_twice : (a b g : ℕ) → bit_xor (bit_xor a g) (bit_xor b g) ≡ bit_xor a b
xor_twice a b g =
    sym (xor_assoc (bit_xor a g) b g) ∙ ap (λ x. bit_xor x g) (xor_swap a g b) ∙ xor_assoc (bit_xor a b) g g
    ∙ ap (λ x. bit_xor (bit_xor a b) x) (xor_self g) ∙ xor_zero_r (bit_xor a b)

-- one more coefficient is a xor
pub reduced-bit : (r b : ℕ) → r < 2 ^ 32 → b < 2 → reduced r b ≡ bit_xor (shifted r) b
unfolding reduced shifted
reduced-bit r b h k =
    let none : bit_xor r 0 ≡ r = xor_zero_r r in
    let plus : bit_xor (2 * r + 0) b ≡ 2 * r + b = ap (λ x. bit_xor x b) (omega arith) ∙ ap (λ x. bit_xor (2 * r) x) (omega arith) ∙ double r 0 b k ∙ omega (arith, none) in
    elim (cases_lt (2 * r + 0) (2 ^ 32)) [
      | inl less ↦ let also : 2 * r + b < 2 ^ 32 = omega arith in rw (lt-ltb _ _ less, lt-ltb _ _ also) (sym plus)
      | inr more ↦
          let also : 2 ^ 32 ≤ 2 * r + b = omega arith in
          rw (le-ltb _ _ more, le-ltb _ _ also) (ap (λ x. bit_xor x generator) (sym plus) ∙ xor_swap (2 * r + 0) b generator)
    ]

-- a number of 33 bits
over : (s : ℕ) → 2 ^ 32 ≤ s → s ≡ 1 * 2 ^ 32 + (s - 2 ^ 32)
over s h = omega arith

xor_over : (a b : ℕ) → 2 ^ 32 ≤ a → a < 2 ^ 33 → b < 2 ^ 32 → 2 ^ 32 ≤ bit_xor a b
xor_over a b h k l =
    let e : bit_xor a b ≡ 1 * 2 ^ 32 + bit_xor (a - 2 ^ 32) b = ap (λ x. bit_xor x b) (over a h) ∙ ap (λ x. bit_xor (1 * 2 ^ 32 + (a - 2 ^ 32)) x) (omega arith) ∙ xor_block 32 1 0 (a - 2 ^ 32) b (omega arith) l in
    omega (arith, e)

xor_both_over : (a b : ℕ) → 2 ^ 32 ≤ a → a < 2 ^ 33 → 2 ^ 32 ≤ b → b < 2 ^ 33 → bit_xor a b < 2 ^ 32
xor_both_over a b h k l m =
    let e : bit_xor a b ≡ 0 * 2 ^ 32 + bit_xor (a - 2 ^ 32) (b - 2 ^ 32) = ap (λ x. bit_xor x b) (over a h) ∙ ap (λ x. bit_xor (1 * 2 ^ 32 + (a - 2 ^ 32)) x) (over b l) ∙ xor_block 32 1 1 (a - 2 ^ 32) (b - 2 ^ 32) (omega arith) (omega arith) in
    omega (arith, e, xor_lt 32 (a - 2 ^ 32) (b - 2 ^ 32) (omega arith) (omega arith))

-- what is above 32 bits is taken off by the generator
folds : ℕ → ℕ
folds s = cond (ltb s (2 ^ 32)) s (bit_xor s generator)

folds-xor : (a b : ℕ) → a < 2 ^ 33 → b < 2 ^ 33 → folds (bit_xor a b) ≡ bit_xor (folds a) (folds b)
unfolding folds
folds-xor a b h k =
    elim (cases_lt a (2 ^ 32)) [
      | inl a_less ↦ elim (cases_lt b (2 ^ 32)) [
        | inl b_less ↦ rw (lt-ltb _ _ a_less, lt-ltb _ _ b_less, lt-ltb _ _ (xor_lt 32 a b a_less b_less)) refl
        | inr b_more ↦
            let both : 2 ^ 32 ≤ bit_xor a b = subst (λ (n : ℕ). 2 ^ 32 ≤ n) (xor_comm b a) (xor_over b a b_more k a_less) in
            rw (lt-ltb _ _ a_less, le-ltb _ _ b_more, le-ltb _ _ both) (xor_assoc a b generator)
      ]
      | inr a_more ↦ elim (cases_lt b (2 ^ 32)) [
        | inl b_less ↦ rw (le-ltb _ _ a_more, lt-ltb _ _ b_less, le-ltb _ _ (xor_over a b a_more h b_less)) (xor_swap a b generator)
        | inr b_more ↦ rw (le-ltb _ _ a_more, le-ltb _ _ b_more, lt-ltb _ _ (xor_both_over a b a_more h b_more k)) (sym (xor_twice a b generator))
      ]
    ]

shifted-folds : (r : ℕ) → shifted r ≡ folds (2 * r)
unfolding shifted reduced folds
shifted-folds r = let e : 2 * r + 0 ≡ 2 * r = omega arith in rw e refl

pub shifted-xor : (r s : ℕ) → r < 2 ^ 32 → s < 2 ^ 32 → shifted (bit_xor r s) ≡ bit_xor (shifted r) (shifted s)
shifted-xor r s h k =
    let twice : 2 * bit_xor r s ≡ bit_xor (2 * r) (2 * s) = omega arith ∙ sym (double r s 0 (omega arith)) ∙ ap (λ x. bit_xor (2 * r) x) (omega arith) in
    shifted-folds (bit_xor r s) ∙ ap folds twice ∙ folds-xor (2 * r) (2 * s) (omega arith) (omega arith) ∙ ap (λ x. bit_xor x (folds (2 * s))) (sym (shifted-folds r)) ∙ ap (λ x. bit_xor (shifted r) x) (sym (shifted-folds s))

pub shifted-lt : (r : ℕ) → r < 2 ^ 32 → shifted r < 2 ^ 32
unfolding shifted
shifted-lt r h = reduced-lt r 0 h (omega arith)

unfolded_small : (v : ℕ) → 2 * v < 2 ^ 32 → shifted v ≡ 2 * v
unfolding shifted reduced
unfolded_small v fits = let e : 2 * v + 0 < 2 ^ 32 = omega arith in rw (lt-ltb _ _ e) (omega arith)

-- ---- a remainder times x ^ n
pub times-lt : (n r : ℕ) → r < 2 ^ 32 → times n r < 2 ^ 32
unfolding times shifted
times-lt zero r h = h
times-lt (suc n) r h = times-lt n (shifted r) (shifted-lt r h)

pub times-xor : (n r s : ℕ) → r < 2 ^ 32 → s < 2 ^ 32 → times n (bit_xor r s) ≡ bit_xor (times n r) (times n s)
unfolding times shifted
times-xor zero r s h k = refl
times-xor (suc n) r s h k = ap (times n) (shifted-xor r s h k) ∙ times-xor n (shifted r) (shifted s) (shifted-lt r h) (shifted-lt s k)

times-add : (m n r : ℕ) → times (m + n) r ≡ times n (times m r)
unfolding times shifted
times-add zero n r = let e : 0 + n ≡ n = omega arith in ap (λ k. times k r) e
times-add (suc m) n r = let e : suc m + n ≡ suc (m + n) = omega arith in ap (λ k. times k r) e ∙ times-add m n (shifted r)

times-small : (n v : ℕ) → v * 2 ^ n < 2 ^ 32 → times n v ≡ v * 2 ^ n
unfolding times shifted
times-small zero v h = omega arith
times-small (suc n) v h =
    let power = pow-succ' 2 n in
    let one = pow_pos n in
    let product : v * 2 ^ suc n ≡ (2 * v) * 2 ^ n = rw power (omega arith) in
    let fits : 2 * v < 2 ^ 32 = omega (arith, le-mul_of_pos_right (2 * v) one, product, h) in
    let step : shifted v ≡ 2 * v = unfolded_small v fits in
    ap (times n) step ∙ times-small n (2 * v) (omega (arith, product, h)) ∙ sym product

-- ---- coefficients that follow
abbrev pub AreBits : List ℕ → Type 0
AreBits bits = AllByRecursion (λ c. c < 2) bits

fold-lt : (bits : List ℕ) (r : ℕ) → AreBits bits → r < 2 ^ 32 → fold reduced r bits < 2 ^ 32
fold-lt [] r small h = h
fold-lt (c ∷ bits) r small h = fold-lt bits (reduced r c) small.1 (reduced-lt r c h small.0)

are-bits : (n v : ℕ) → AreBits (bits_of n v)
are-bits zero v = tt
are-bits (suc n) v = (bit_at-lt v n, are-bits n v)

bits-append : (xs ys : List ℕ) → AreBits xs → AreBits ys → AreBits (xs ++ ys)
bits-append [] ys h k = k
bits-append (x ∷ xs) ys h k = (h.0, bits-append xs ys h.1 k)

pub coefficients-bits : (bytes : List ℕ) → AreBits (coefficients bytes)
coefficients-bits [] = tt
coefficients-bits (b ∷ bytes) = bits-append (bits_of 8 b) (coefficients bytes) (are-bits 8 b) (coefficients-bits bytes)

pub zeros-bits : (n : ℕ) → AreBits (replicate n 0)
zeros-bits zero = tt
zeros-bits (suc n) = (omega arith, zeros-bits n)

fold-zeros : (n r : ℕ) → fold reduced r (replicate n 0) ≡ times n r
unfolding times shifted
fold-zeros zero r = refl
fold-zeros (suc n) r = fold-zeros n (reduced r 0)

-- the lowest bits of a number
low_bits-next : (n v : ℕ) → bit_xor (bit_at v n * 2 ^ n) (v % 2 ^ n) ≡ v % 2 ^ suc n
low_bits-next n v =
    let split = mod-pow-add v 1 n in
    let e : 1 + n ≡ suc n = omega arith in
    let whole : bit_xor (bit_at v n * 2 ^ n + 0) (0 * 2 ^ n + v % 2 ^ n) ≡ bit_xor (bit_at v n) 0 * 2 ^ n + bit_xor 0 (v % 2 ^ n) = xor_block n (bit_at v n) 0 0 (v % 2 ^ n) (pow_pos n) (mod_below v (2 ^ n) (pow_pos n)) in
    let left : bit_xor (bit_at v n * 2 ^ n + 0) (0 * 2 ^ n + v % 2 ^ n) ≡ bit_xor (bit_at v n * 2 ^ n) (v % 2 ^ n) = rw (add-zero, zero-mul, zero-add) refl in
    sym left ∙ whole ∙ rw (xor_zero_r (bit_at v n), xor_zero_l (v % 2 ^ n)) (sym split) ∙ ap (λ k. v % 2 ^ k) e

fold-bits : (n r v : ℕ) → r < 2 ^ 32 → n ≤ 32 → fold reduced r (bits_of n v) ≡ bit_xor (times n r) (v % 2 ^ n)
unfolding times shifted
fold-bits zero r v h k = let e : v % 2 ^ 0 ≡ 0 = omega arith in sym (ap (λ x. bit_xor r x) e ∙ xor_zero_r r)
fold-bits (suc n) r v h k =
    let c = bit_at v n in
    let small = bit_at-lt v n in
    let fits : c * 2 ^ n < 2 ^ 32 = omega (arith, mul-le c (2 ^ n) 1 (2 ^ n) (omega arith) (omega arith), pow_below n 32 (omega arith)) in
    fold-bits n (reduced r c) v (reduced-lt r c h small) (omega arith)
    ∙ ap (λ x. bit_xor (times n x) (v % 2 ^ n)) (reduced-bit r c h small)
    ∙ ap (λ x. bit_xor x (v % 2 ^ n)) (times-xor n (shifted r) c (shifted-lt r h) (omega arith) ∙ ap (λ x. bit_xor (times n (shifted r)) x) (times-small n c fits))
    ∙ xor_assoc (times n (shifted r)) (c * 2 ^ n) (v % 2 ^ n)
    ∙ ap (λ x. bit_xor (times n (shifted r)) x) (low_bits-next n v)

-- ---- one more byte
parity-times : (bytes : List ℕ) → parity bytes ≡ times 32 (fold reduced 0 (coefficients bytes))
unfolding parity
parity-times bytes = fold-append reduced 0 (coefficients bytes) (replicate 32 0) ∙ fold-zeros 32 (fold reduced 0 (coefficients bytes))

pub parity-lt : (bytes : List ℕ) → parity bytes < 2 ^ 32
unfolding parity
parity-lt bytes = fold-lt (coefficients bytes ++ replicate 32 0) 0 (bits-append (coefficients bytes) (replicate 32 0) (coefficients-bits bytes) (zeros-bits 32)) (omega arith)

pub parity-next : (bytes : List ℕ) (b : ℕ) → b < 256 → parity (bytes ++ b ∷ []) ≡ bit_xor (times 8 (parity bytes)) (times 32 b)
parity-next bytes b h =
    let m = coefficients bytes in
    let a = fold reduced 0 m in
    let below : a < 2 ^ 32 = fold-lt m 0 (coefficients-bits bytes) (omega arith) in
    let all : fold reduced 0 (coefficients (bytes ++ b ∷ [])) ≡ fold reduced a (bits_of 8 b) = ap (λ (c : List ℕ). fold reduced 0 c) (flat_map-append (bits_of 8) bytes (b ∷ [])) ∙ fold-append reduced 0 m (bits_of 8 b ++ []) in
    let byte : b % 2 ^ 8 ≡ b = omega (arith, h) in
    let turn : times 32 (times 8 a) ≡ times 8 (times 32 a) = sym (times-add 8 32 a) ∙ times-add 32 8 a in
    parity-times (bytes ++ b ∷ [])
    ∙ ap (times 32) (all ∙ fold-bits 8 a b below (omega arith) ∙ ap (λ x. bit_xor (times 8 a) x) byte)
    ∙ times-xor 32 (times 8 a) b (times-lt 8 a below) (omega arith)
    ∙ ap (λ x. bit_xor x (times 32 b)) (turn ∙ ap (times 8) (sym (parity-times bytes)))

-- the step over a table of the parities of bytes
pub byte_step : (r b : ℕ) → r < 2 ^ 32 → b < 256 → bit_xor (r * 256 % 2 ^ 32) (times 32 (bit_xor (r / 2 ^ 24) b)) ≡ bit_xor (times 8 r) (times 32 b)
byte_step r b h k =
    let high = r / 2 ^ 24 in
    let low = r % 2 ^ 24 in
    let small : high < 256 = omega arith in
    let whole : bit_xor (high * 2 ^ 24 + 0) (0 * 2 ^ 24 + low) ≡ bit_xor high 0 * 2 ^ 24 + bit_xor 0 low = xor_block 24 high 0 0 low (omega arith) (omega arith) in
    let parts : r ≡ bit_xor (high * 2 ^ 24) low = omega (arith, xor_zero_r high, xor_zero_l low) ∙ sym whole ∙ rw (add-zero, zero-mul, zero-add) refl in
    let above : times 8 (high * 2 ^ 24) ≡ times 32 high = ap (times 8) (sym (times-small 24 high (omega arith))) ∙ sym (times-add 24 8 high) in
    let below : times 8 low ≡ low * 256 = times-small 8 low (omega arith) in
    let step : times 8 r ≡ bit_xor (times 32 high) (low * 256) = ap (times 8) parts ∙ times-xor 8 (high * 2 ^ 24) low (omega arith) (omega arith) ∙ ap (λ x. bit_xor x (times 8 low)) above ∙ ap (λ x. bit_xor (times 32 high) x) below in
    let shift : r * 256 % 2 ^ 32 ≡ low * 256 = omega arith in
    let both : times 32 (bit_xor high b) ≡ bit_xor (times 32 high) (times 32 b) = times-xor 32 high b (omega arith) (omega arith) in
    ap (λ x. bit_xor x (times 32 (bit_xor high b))) shift ∙ ap (λ x. bit_xor (low * 256) x) both ∙ sym (xor_assoc (low * 256) (times 32 high) (times 32 b))
    ∙ ap (λ x. bit_xor x (times 32 b)) (xor_comm (low * 256) (times 32 high) ∙ sym step)

pub with_byte : (bytes : List ℕ) (r b p : ℕ) → b < 256 → r ≡ parity bytes → p ≡ times 32 (bit_xor (r / 2 ^ 24) b) → bit_xor (r * 256 % 2 ^ 32) p ≡ parity (bytes ++ b ∷ [])
with_byte bytes r b p h e f =
    ap (λ x. bit_xor (r * 256 % 2 ^ 32) x) f ∙ byte_step r b (subst (λ (n : ℕ). n < 2 ^ 32) (sym e) (parity-lt bytes)) h ∙ ap (λ x. bit_xor (times 8 x) (times 32 b)) e ∙ sym (parity-next bytes b h)

reduced_small : (r c : ℕ) → 2 * r + c < 2 ^ 32 → reduced r c ≡ 2 * r + c
unfolding reduced
reduced_small r c h = rw (lt-ltb _ _ h) refl

reduced_large : (r c : ℕ) → 2 ^ 32 ≤ 2 * r + c → reduced r c ≡ bit_xor (2 * r + c) generator
unfolding reduced
reduced_large r c h = rw (le-ltb _ _ h) refl

-- ---- four more bytes
times-none : (r : ℕ) → r ≡ times 0 r
unfolding times
times-none r = refl

four : (bytes : List ℕ) (a b c d : ℕ) → bytes ++ a ∷ b ∷ c ∷ d ∷ [] ≡ (((bytes ++ a ∷ []) ++ b ∷ []) ++ c ∷ []) ++ d ∷ []
four [] a b c d = refl
four (x ∷ bytes) a b c d = ap (λ (l : List ℕ). x ∷ l) (four bytes a b c d)

-- one more byte, where the parity so far is a number times x ^ k
byte_at_place : (bytes : List ℕ) (b k y place : ℕ) → b < 256 → y < 2 ^ 32 → place * 2 ^ k ≡ b * 2 ^ 24 → place < 2 ^ 32 → parity bytes ≡ times k y → parity (bytes ++ b ∷ []) ≡ times (k + 8) (bit_xor y place)
byte_at_place bytes b k y place h below e fits before =
    let low : times k place ≡ b * 2 ^ 24 = times-small k place (omega (arith, e)) ∙ e in
    let high : times 32 b ≡ times 8 (times k place) = times-add 24 8 b ∙ ap (times 8) (times-small 24 b (omega arith) ∙ sym low) in
    parity-next bytes b h
    ∙ ap (λ x. bit_xor (times 8 x) (times 32 b)) before
    ∙ ap (λ x. bit_xor (times 8 (times k y)) x) high
    ∙ sym (times-xor 8 (times k y) (times k place) (times-lt k y below) (times-lt k place fits))
    ∙ ap (times 8) (sym (times-xor k y place below fits))
    ∙ sym (times-add k 8 (bit_xor y place))

pub parity-word : (bytes : List ℕ) (a b c d : ℕ) → a < 256 → b < 256 → c < 256 → d < 256
    → parity (bytes ++ a ∷ b ∷ c ∷ d ∷ []) ≡ times 32 (bit_xor (bit_xor (bit_xor (bit_xor (parity bytes) (a * 2 ^ 24)) (b * 2 ^ 16)) (c * 2 ^ 8)) d)
parity-word bytes a b c d ha hb hc hd =
    let p = parity bytes in
    let y₁ = bit_xor p (a * 2 ^ 24) in
    let y₂ = bit_xor y₁ (b * 2 ^ 16) in
    let y₃ = bit_xor y₂ (c * 2 ^ 8) in
    let l₀ = parity-lt bytes in
    let l₁ = xor_lt 32 p (a * 2 ^ 24) l₀ (omega arith) in
    let l₂ = xor_lt 32 y₁ (b * 2 ^ 16) l₁ (omega arith) in
    let l₃ = xor_lt 32 y₂ (c * 2 ^ 8) l₂ (omega arith) in
    let e₁ = byte_at_place bytes a 0 p (a * 2 ^ 24) ha l₀ (omega arith) (omega arith) (times-none p) in
    let e₂ = byte_at_place (bytes ++ a ∷ []) b 8 y₁ (b * 2 ^ 16) hb l₁ (omega arith) (omega arith) e₁ in
    let e₃ = byte_at_place ((bytes ++ a ∷ []) ++ b ∷ []) c 16 y₂ (c * 2 ^ 8) hc l₂ (omega arith) (omega arith) e₂ in
    let e₄ = byte_at_place (((bytes ++ a ∷ []) ++ b ∷ []) ++ c ∷ []) d 24 y₃ d hd l₃ (omega arith) (omega arith) e₃ in
    ap parity (four bytes a b c d) ∙ e₄

-- the same, as a word is put together
pub with_word : (bytes : List ℕ) (r a b c d a' b' c' d' result : ℕ) → r ≡ parity bytes → a' ≡ a → b' ≡ b → c' ≡ c → d' ≡ d → a < 256 → b < 256 → c < 256 → d < 256
    → result ≡ times 32 (bit_xor (bit_xor r (bit_xor (a' * 2 ^ 24 % 2 ^ 32) (b' * 2 ^ 16 % 2 ^ 32))) (bit_xor (c' * 2 ^ 8 % 2 ^ 32) d'))
    → result ≡ parity (bytes ++ a ∷ b ∷ c ∷ d ∷ [])
with_word bytes r a b c d a' b' c' d' result before ea eb ec ed ha hb hc hd e =
    let first : a' * 2 ^ 24 % 2 ^ 32 ≡ a * 2 ^ 24 = omega arith in
    let second : b' * 2 ^ 16 % 2 ^ 32 ≡ b * 2 ^ 16 = omega arith in
    let third : c' * 2 ^ 8 % 2 ^ 32 ≡ c * 2 ^ 8 = omega arith in
    let p = parity bytes in
    e ∙ ap (times 32) (rw (first, second, third, ed, before) refl
    ∙ ap (λ x. bit_xor x (bit_xor (c * 2 ^ 8) d)) (sym (xor_assoc p (a * 2 ^ 24) (b * 2 ^ 16)))
    ∙ sym (xor_assoc (bit_xor (bit_xor p (a * 2 ^ 24)) (b * 2 ^ 16)) (c * 2 ^ 8) d))
    ∙ sym (parity-word bytes a b c d ha hb hc hd)

-- a number's lowest byte apart from the others
times-split : (n x : ℕ) → x < 2 ^ 32 → times n x ≡ bit_xor (times (8 + n) (x / 256)) (times n (x % 256))
times-split n x h =
    let high = x / 256 in
    let low = x % 256 in
    let whole : bit_xor (high * 2 ^ 8 + 0) (0 * 2 ^ 8 + low) ≡ bit_xor high 0 * 2 ^ 8 + bit_xor 0 low = xor_block 8 high 0 0 low (omega arith) (omega arith) in
    let parts : x ≡ bit_xor (high * 2 ^ 8) low = omega (arith, xor_zero_r high, xor_zero_l low) ∙ sym whole ∙ rw (add-zero, zero-mul, zero-add) refl in
    ap (times n) parts ∙ times-xor n (high * 2 ^ 8) low (omega arith) (omega arith)
    ∙ ap (λ y. bit_xor (times n y) (times n low)) (sym (times-small 8 high (omega arith)))
    ∙ ap (λ y. bit_xor y (times n low)) (sym (times-add 8 n high))

-- a number of 32 bits times x ^ 32, by its bytes
pub times-bytes : (x : ℕ) → x < 2 ^ 32 → times 32 x ≡ bit_xor (bit_xor (bit_xor (times 56 (x / 2 ^ 24)) (times 48 (x / 2 ^ 16 % 256))) (times 40 (x / 2 ^ 8 % 256))) (times 32 (x % 256))
times-bytes x h =
    let second : x / 256 / 256 ≡ x / 2 ^ 16 = omega arith in
    let third : x / 2 ^ 16 / 256 ≡ x / 2 ^ 24 = omega arith in
    times-split 32 x h
    ∙ ap (λ y. bit_xor y (times 32 (x % 256))) (times-split 40 (x / 256) (omega arith)
    ∙ ap (λ y. bit_xor (times 48 y) (times 40 (x / 256 % 256))) second
    ∙ ap (λ y. bit_xor y (times 40 (x / 256 % 256))) (times-split 48 (x / 2 ^ 16) (omega arith)
    ∙ ap (λ y. bit_xor (times 56 y) (times 48 (x / 2 ^ 16 % 256))) third))

-- ---- long division leaves the remainder
quotient_from : (dividend : List ℕ) (n r : ℕ) → AreBits dividend → r < 2 ^ 32
    → (quotient : List ℕ) × (fold (λ m c. 2 * m + c) (bit_xor n r) dividend ≡ bit_xor (fold (λ m c. bit_xor (2 * m) (c * generator)) n quotient) (fold reduced r dividend))
quotient_from [] n r bits h = ([], refl)
quotient_from (c ∷ dividend) n r bits h =
    elim (cases_lt (2 * r + c) (2 ^ 32)) [
      | inl less ↦
          let step : reduced r c ≡ 2 * r + c = reduced_small r c less in
          let rest = quotient_from dividend (bit_xor (2 * n) (0 * generator)) (reduced r c) bits.1 (reduced-lt r c h bits.0) in
          let e : 2 * bit_xor n r + c ≡ bit_xor (bit_xor (2 * n) (0 * generator)) (reduced r c) = sym (double n r c bits.0) ∙ ap (λ x. bit_xor x (2 * r + c)) (sym (xor_zero_r (2 * n))) ∙ ap (λ x. bit_xor (bit_xor (2 * n) (0 * generator)) x) (sym step) in
          (0 ∷ rest.0, ap (λ x. fold (λ m c. 2 * m + c) x dividend) e ∙ rest.1)
      | inr more ↦
          let step : reduced r c ≡ bit_xor (2 * r + c) generator = reduced_large r c more in
          let rest = quotient_from dividend (bit_xor (2 * n) (1 * generator)) (reduced r c) bits.1 (reduced-lt r c h bits.0) in
          let e : 2 * bit_xor n r + c ≡ bit_xor (bit_xor (2 * n) (1 * generator)) (reduced r c) = sym (double n r c bits.0) ∙ sym (xor_twice (2 * n) (2 * r + c) generator) ∙ ap (λ x. bit_xor (bit_xor (2 * n) (1 * generator)) x) (sym step) in
          (1 ∷ rest.0, ap (λ x. fold (λ m c. 2 * m + c) x dividend) e ∙ rest.1)
    ]

pub is_remainder : (bytes : List ℕ) → IsRemainder (coefficients bytes ++ replicate 32 0) (parity bytes)
unfolding parity
is_remainder bytes =
    let found = quotient_from (coefficients bytes ++ replicate 32 0) 0 0 (bits-append (coefficients bytes) (replicate 32 0) (coefficients-bits bytes) (zeros-bits 32)) (omega arith) in
    record { quotient = found.0; below = parity-lt bytes; divides = found.1 }
