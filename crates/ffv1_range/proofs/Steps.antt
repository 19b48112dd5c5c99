-- One step of a reader's or a writer's loop.
use Rattle.std.proofs.Common.{◌≡◌, ℕ, zero, suc, ◌+◌, ◌-◌, ◌*◌, ◌^◌, ◌<◌, ◌≤◌, min, Bool, true, false, eqb, ℤ, nat_abs, append_assoc, List, [], ◌∷◌, ◌++◌, Some, None, refl, sym, ◌∙◌, subst, arith, inl, inr}
use Rattle.std.specs.Int.{bit_at}
use Rattle.std.specs.Prelude.{if◌then◌else◌, slice_index}
use Rattle.std.proofs.lemmas.Nat.{leading_top, pow_pos}
use Rattle.std.proofs.lemmas.Bool.{cases_order, ne_eqb, eq-eqb}
use Rattle.std.proofs.Math.Nat.{pow-succ', pow-le-pow_right}
use Rattle.ffv1_range.specs.Transition.{moved}
use Rattle.ffv1_range.specs.Writing.{Writing, put, put_all}
use Rattle.ffv1_range.specs.Symbol.{Source, bit_at_place, after_place, ones, low_bits, exponent_at, magnitude_at, exponent_of, with_states, set_after, magnitude_bits, sign_bits, spelling, is_negative}

-- an exponent from its bit i on, of at most n
pub exponent_at-ones : (n i : ℕ) (s : Source) → i < n → bit_at_place s (1 + min i 9) ≡ true → exponent_at (n - i) i s ≡ exponent_at (n - (i + 1)) (i + 1) (after_place s (1 + min i 9))
unfolding exponent_at
exponent_at-ones n i s h e = let left : n - i ≡ suc (n - (i + 1)) = omega arith in rw (left, e) refl

pub exponent_at-zero : (n i : ℕ) (s : Source) → i < n → bit_at_place s (1 + min i 9) ≡ false → exponent_at (n - i) i s ≡ (Some i, after_place s (1 + min i 9))
unfolding exponent_at
exponent_at-zero n i s h e = let left : n - i ≡ suc (n - (i + 1)) = omega arith in rw (left, e) refl

pub exponent_at-end : (n i : ℕ) (s : Source) → n ≤ i → exponent_at (n - i) i s ≡ (None, s)
unfolding exponent_at
exponent_at-end n i s h = let left : n - i ≡ 0 = omega arith in rw left refl

-- the same of one of the first bits, whose place is told
pub exponent_at_one : (i : ℕ) (s : Source) → i < 9 → bit_at_place s (1 + i) ≡ true → exponent_at (32 - i) i s ≡ exponent_at (32 - (i + 1)) (i + 1) (after_place s (1 + i))
exponent_at_one i s h e = let place : min i 9 ≡ i = omega arith in subst (λ k. bit_at_place s (1 + k) ≡ true → exponent_at (32 - i) i s ≡ exponent_at (32 - (i + 1)) (i + 1) (after_place s (1 + k))) place (exponent_at-ones 32 i s (omega arith)) e

pub exponent_at_zero : (i : ℕ) (s : Source) → i < 9 → bit_at_place s (1 + i) ≡ false → exponent_at (32 - i) i s ≡ (Some i, after_place s (1 + i))
exponent_at_zero i s h e = let place : min i 9 ≡ i = omega arith in subst (λ k. bit_at_place s (1 + k) ≡ false → exponent_at (32 - i) i s ≡ (Some i, after_place s (1 + k))) place (exponent_at-zero 32 i s (omega arith)) e

-- a magnitude down to its bit i
pub magnitude_at-next : (i a : ℕ) (s : Source) → 0 < i → magnitude_at i a s ≡ magnitude_at (i - 1) (2 * a + (if bit_at_place s (22 + min (i - 1) 9) then 1 else 0)) (after_place s (22 + min (i - 1) 9))
unfolding magnitude_at
magnitude_at-next zero a s h = absurd (omega arith)
magnitude_at-next (suc i) a s h = let e : suc i - 1 ≡ i = omega arith in rw e refl

pub magnitude_at-end : (i a : ℕ) (s : Source) → i ≡ 0 → magnitude_at i a s ≡ (a, s)
unfolding magnitude_at
magnitude_at-end i a s e = rw e refl

-- the same of one of the last bits, whose place is told, where the exponent is above it
pub magnitude_at_bit : (e i a : ℕ) (s : Source) → i < e → i < 10 → magnitude_at (min e (i + 1)) a s ≡ magnitude_at (min e i) (2 * a + (if bit_at_place s (22 + i) then 1 else 0)) (after_place s (22 + i))
unfolding magnitude_at
magnitude_at_bit e i a s above few =
    let here : min e (i + 1) ≡ suc i = omega arith in
    let left : min e i ≡ i = omega arith in
    let place : min i 9 ≡ i = omega arith in
    rw (here, left) (subst (λ k. magnitude_at (suc i) a s ≡ magnitude_at i (2 * a + (if bit_at_place s (22 + k) then 1 else 0)) (after_place s (22 + k))) place refl)

-- ---- the same of what is written
pub ones-next : (n i : ℕ) → i < n → ones i (n - i) ≡ (1 + min i 9, true) ∷ ones (i + 1) (n - (i + 1))
unfolding ones
ones-next n i h = let left : n - i ≡ suc (n - (i + 1)) = omega arith in rw left refl

pub ones-end : (n i : ℕ) → n ≤ i → ones i (n - i) ≡ []
unfolding ones
ones-end n i h = let left : n - i ≡ 0 = omega arith in rw left refl

pub low_bits-next : (i m : ℕ) → 0 < i → low_bits i m ≡ (22 + min (i - 1) 9, eqb (bit_at m (i - 1)) 1) ∷ low_bits (i - 1) m
unfolding low_bits
low_bits-next zero m h = absurd (omega arith)
low_bits-next (suc i) m h = let e : suc i - 1 ≡ i = omega arith in rw e refl

pub low_bits-end : (i m : ℕ) → i ≡ 0 → low_bits i m ≡ []
unfolding low_bits
low_bits-end i m e = rw e refl

pub coded-append : (table set : List ℕ) (w : Writing) (a b : List (ℕ × Bool)) → put_all w (with_states table set (a ++ b)) ≡ put_all (put_all w (with_states table set a)) (with_states table (set_after table set a) b)
coded-append table set w [] b = refl
coded-append table set w (x ∷ a) b = coded-append table (moved table set x.0 x.1) (put w (slice_index set x.0) x.1) a b

pub set_after-append : (table set : List ℕ) (a b : List (ℕ × Bool)) → set_after table set (a ++ b) ≡ set_after table (set_after table set a) b
set_after-append table set [] b = refl
set_after-append table set (x ∷ a) b = set_after-append table (moved table set x.0 x.1) a b

-- ---- the place of the highest 1
pub exponent_of-bounds : (m : ℕ) → 0 < m → m < 2 ^ 32 → (exponent_of m < 32) × (2 ^ exponent_of m ≤ m) × (m < 2 ^ suc (exponent_of m))
exponent_of-bounds m some small =
    let top = leading_top 32 m some small in
    let e : exponent_of m ≡ top.0 = omega (arith, top.1) in
    subst (λ (j : ℕ). (j < 32) × (2 ^ j ≤ m) × (m < 2 ^ suc j)) (sym e) (omega (arith, top.1), top.2, top.3)

pub exponent_of-is : (m r : ℕ) → m < 2 ^ 32 → 2 ^ r ≤ m → m < 2 * 2 ^ r → exponent_of m ≡ r
exponent_of-is m r small from below =
    let bounds = exponent_of-bounds m (omega (arith, pow_pos r)) small in
    elim (cases_order (exponent_of m) r) [
      | inl same ↦ same
      | inr (inl less) ↦ absurd (omega (arith, bounds.2, pow-le-pow_right {n = 2} (omega arith) {i = suc (exponent_of m)} {j = r} (omega arith)))
      | inr (inr more) ↦ absurd (omega (arith, bounds.1, pow-le-pow_right {n = 2} (omega arith) {i = suc r} {j = exponent_of m} (omega arith), pow-succ' 2 r))
    ]

-- ---- one bit and then the rest, and one part and then another
pub coded-next : (table set : List ℕ) (w : Writing) (p place : ℕ) (bit : Bool) (all rest : List (ℕ × Bool)) (w' : Writing) (set' : List ℕ) → p ≡ place → all ≡ (place, bit) ∷ rest → w' ≡ put w (slice_index set p) bit → set' ≡ moved table set p bit
    → (put_all w' (with_states table set' rest) ≡ put_all w (with_states table set all)) × (set_after table set' rest ≡ set_after table set all)
coded-next table set w p place bit all rest w' set' e f g h = rw (f, g, h, e) (refl, refl)

pub coded-parts : (table set : List ℕ) (w : Writing) (a b : List (ℕ × Bool)) (w' w'' : Writing) (set' set'' : List ℕ) → w' ≡ put_all w (with_states table set a) → set' ≡ set_after table set a → w'' ≡ put_all w' (with_states table set' b) → set'' ≡ set_after table set' b
    → (w'' ≡ put_all w (with_states table set (a ++ b))) × (set'' ≡ set_after table set (a ++ b))
coded-parts table set w a b w' w'' set' set'' e f g h = (rw (g, e, f) (sym (coded-append table set w a b)), rw (h, f) (sym (set_after-append table set a b)))

-- a first bit, a magnitude and a sign
pub coded-symbol : (table set : List ℕ) (w : Writing) (bit : Bool) (magnitude sign : List (ℕ × Bool)) (w₁ w₂ w₃ : Writing) (set₁ set₂ set₃ : List ℕ) → w₁ ≡ put w (slice_index set 0) bit → set₁ ≡ moved table set 0 bit
    → w₂ ≡ put_all w₁ (with_states table set₁ magnitude) → set₂ ≡ set_after table set₁ magnitude → w₃ ≡ put_all w₂ (with_states table set₂ sign) → set₃ ≡ set_after table set₂ sign
    → (w₃ ≡ put_all w (with_states table set ((0, bit) ∷ (magnitude ++ sign)))) × (set₃ ≡ set_after table set ((0, bit) ∷ (magnitude ++ sign)))
coded-symbol table set w bit magnitude sign w₁ w₂ w₃ set₁ set₂ set₃ a b c d e f =
    let parts = coded-parts table set₁ w₁ magnitude sign w₂ w₃ set₂ set₃ c d e f in
    (parts.0 ∙ rw (a, b) refl, parts.1 ∙ rw b refl)

pub spelling-zero : (value : ℤ) (signed : Bool) → nat_abs value ≡ 0 → spelling value signed ≡ (0, true) ∷ []
unfolding spelling
spelling-zero value signed e = rw e refl

pub spelling-some : (value : ℤ) (signed : Bool) → 0 < nat_abs value → spelling value signed ≡ (0, false) ∷ (magnitude_bits (nat_abs value) ++ sign_bits signed (exponent_of (nat_abs value)) (is_negative value))
unfolding spelling
spelling-some value signed h =
    let some : eqb (nat_abs value) 0 ≡ false = ne_eqb (nat_abs value) 0 (λ e. omega arith) in
    rw some refl

pub magnitude_bits-is : (m e : ℕ) → e ≡ exponent_of m → magnitude_bits m ≡ (ones 0 e ++ (1 + min e 9, false) ∷ []) ++ low_bits e m
unfolding magnitude_bits
magnitude_bits-is m e h = rw h (sym (append_assoc (ones 0 (exponent_of m)) ((1 + min (exponent_of m) 9, false) ∷ []) (low_bits (exponent_of m) m)))

-- ---- a symbol in its parts
abbrev pub Spelled : (table set : List ℕ) (w : Writing) (value : ℤ) (signed : Bool) (w' : Writing) (set' : List ℕ) → Type 0
Spelled table set w value signed w' set' = (w' ≡ put_all w (with_states table set (spelling value signed))) × (set' ≡ set_after table set (spelling value signed))

pub symbol-zero : (table set : List ℕ) (w : Writing) (value : ℤ) (signed : Bool) (magnitude : ℕ) (w₁ : Writing) (set₁ : List ℕ) → magnitude ≡ nat_abs value → magnitude ≤ 0
    → w₁ ≡ put w (slice_index set 0) (eqb magnitude 0) → set₁ ≡ moved table set 0 (eqb magnitude 0) → Spelled table set w value signed w₁ set₁
symbol-zero table set w value signed magnitude w₁ set₁ m none a b =
    let zero_bit : eqb magnitude 0 ≡ true = eq-eqb magnitude 0 (omega arith) in
    rw (spelling-zero value signed (omega arith), a, b, zero_bit) (refl, refl)

-- a magnitude with the sign bits that it has
pub symbol-some : (table set : List ℕ) (w : Writing) (value : ℤ) (signed : Bool) (magnitude : ℕ) (w₁ w₂ w₃ : Writing) (set₁ set₂ set₃ : List ℕ) → magnitude ≡ nat_abs value → 0 < magnitude
    → w₁ ≡ put w (slice_index set 0) (eqb magnitude 0) → set₁ ≡ moved table set 0 (eqb magnitude 0)
    → w₂ ≡ put_all w₁ (with_states table set₁ (magnitude_bits magnitude)) → set₂ ≡ set_after table set₁ (magnitude_bits magnitude)
    → w₃ ≡ put_all w₂ (with_states table set₂ (sign_bits signed (exponent_of magnitude) (is_negative value))) → set₃ ≡ set_after table set₂ (sign_bits signed (exponent_of magnitude) (is_negative value))
    → Spelled table set w value signed w₃ set₃
symbol-some table set w value signed magnitude w₁ w₂ w₃ set₁ set₂ set₃ m some a b c d e f =
    let one_bit : eqb magnitude 0 ≡ false = ne_eqb magnitude 0 (λ e. omega arith) in
    let sign = sign_bits signed (exponent_of magnitude) (is_negative value) in
    let bits : spelling value signed ≡ (0, false) ∷ (magnitude_bits magnitude ++ sign) = rw m (spelling-some value signed (omega arith)) in
    let first = subst (λ (b : Bool). w₁ ≡ put w (slice_index set 0) b) one_bit a in
    let moves = subst (λ (b : Bool). set₁ ≡ moved table set 0 b) one_bit b in
    rw bits (coded-symbol table set w false (magnitude_bits magnitude) sign w₁ w₂ w₃ set₁ set₂ set₃ first moves c d e f)

pub symbol-signed : (table set : List ℕ) (w : Writing) (value : ℤ) (signed : Bool) (magnitude exponent place : ℕ) (negative : Bool) (w₁ w₂ w₃ : Writing) (set₁ set₂ set₃ : List ℕ) → magnitude ≡ nat_abs value → 0 < magnitude
    → exponent ≡ exponent_of magnitude → signed ≡ true → place ≡ 11 + min exponent 10 → negative ≡ is_negative value
    → w₁ ≡ put w (slice_index set 0) (eqb magnitude 0) → set₁ ≡ moved table set 0 (eqb magnitude 0)
    → w₂ ≡ put_all w₁ (with_states table set₁ (magnitude_bits magnitude)) → set₂ ≡ set_after table set₁ (magnitude_bits magnitude)
    → w₃ ≡ put w₂ (slice_index set₂ place) negative → set₃ ≡ moved table set₂ place negative
    → Spelled table set w value signed w₃ set₃
symbol-signed table set w value signed magnitude exponent place negative w₁ w₂ w₃ set₁ set₂ set₃ m some x s p n a b c d e f =
    symbol-some table set w value signed magnitude w₁ w₂ w₃ set₁ set₂ set₃ m some a b c d (rw (s, ← x, ← p, ← n) e) (rw (s, ← x, ← p, ← n) f)

pub symbol-unsigned : (table set : List ℕ) (w : Writing) (value : ℤ) (signed : Bool) (magnitude : ℕ) (w₁ w₂ : Writing) (set₁ set₂ : List ℕ) → magnitude ≡ nat_abs value → 0 < magnitude → signed ≡ false
    → w₁ ≡ put w (slice_index set 0) (eqb magnitude 0) → set₁ ≡ moved table set 0 (eqb magnitude 0)
    → w₂ ≡ put_all w₁ (with_states table set₁ (magnitude_bits magnitude)) → set₂ ≡ set_after table set₁ (magnitude_bits magnitude)
    → Spelled table set w value signed w₂ set₂
symbol-unsigned table set w value signed magnitude w₁ w₂ set₁ set₂ m some s a b c d =
    symbol-some table set w value signed magnitude w₁ w₂ w₂ set₁ set₂ set₂ m some a b c d (rw s refl) (rw s refl)
