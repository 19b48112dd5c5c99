-- A symbol as a computation and as a spelling.
use Rattle.std.proofs.Common.{◌≡◌, ℕ, zero, suc, ◌+◌, ◌*◌, ◌/◌, ◌^◌, ◌<◌, min, Bool, true, false, cond, eqb, ℤ, pos, negsuc, neg_ℤ, nat_abs, List, [], ◌∷◌, ◌++◌, Option, Some, None, refl, sym, ap, ◌∙◌, subst, append_assoc, arith, add-one, inl, inr}
use Rattle.std.specs.Prelude.{slice_index, Result, IfOk, OnErr}
use Rattle.std.specs.Option.{ok_or}
use Rattle.ffv1_range.specs.declared.reader.TooLong.{TooLong}
use Rattle.std.specs.Int.{bit_at}
use Rattle.ffv1_range.specs.Transition.{moved}
use Rattle.ffv1_range.specs.Reading.{Reading, narrowed, renewed, after_bit, bits_read, after_bits}
use Rattle.ffv1_range.specs.Symbol.{Source, source, magnitude_bits, sign_bits, bit_at_place, after_place, Reads, ones, low_bits, spelling, too_long, exponent_of, is_negative, exponent_at, magnitude_at, signed_at, value_at, symbol_at, with_states, set_after}
use Rattle.ffv1_range.specs.Law.{states_of, bits_of, IsSpelled, ReadsSymbols, CodesInTurn, NoPrefix}
use Rattle.std.proofs.lemmas.Bool.{cases_Bool, false≢true, true≢false, ne_eqb, eq-eqb, cases_eq}
use Rattle.std.proofs.lemmas.Bool.Decides.{nat_tests}
use Rattle.std.proofs.lemmas.Nat.{shr-shr, pow_pos, le-div, div_below, mod_below}
use Rattle.ffv1_range.proofs.Steps.{exponent_of-bounds, exponent_of-is, spelling-zero, spelling-some, magnitude_bits-is}
use Rattle.std.proofs.lemmas.Nat.Bits.{bit_at-lt}
use Rattle.std.proofs.Math.Nat.{pow-succ', div-add-mod, pow-le-pow_right}

-- a list of bits without its first, and the first one's bit
abbrev tail : List (ℕ × Bool) → List (ℕ × Bool)
tail [] = []
tail (b ∷ bits) = bits

abbrev head_bit : List (ℕ × Bool) → Bool
head_bit [] = false
head_bit (b ∷ bits) = b.1

-- ---- coded in turn
after_bit-table : (p : Reading) (state : ℕ) → (after_bit p state).table ≡ p.table
unfolding after_bit renewed narrowed
after_bit-table p state = grind arith

in_turn : (table : List ℕ) (p : Reading) (set : List ℕ) (bits : List (ℕ × Bool)) → p.table ≡ table
    → bits_read p (states_of (with_states table set bits)) ≡ bits_of (with_states table set bits)
    → Reads (source p set) bits (source (after_bits p (states_of (with_states table set bits))) (set_after table set bits))
unfolding bit_at_place after_place
in_turn table p set [] e h = refl
in_turn table p set (b ∷ bits) e h =
    let here : bit_at_place (source p set) b.0 ≡ b.1 = cc in
    let rest : bits_read (after_bit p (slice_index set b.0)) (states_of (with_states table (moved table set b.0 b.1) bits)) ≡ bits_of (with_states table (moved table set b.0 b.1) bits) = cc in
    let next : source (after_bit p (slice_index set b.0)) (moved table set b.0 b.1) ≡ after_place (source p set) b.0 = rw (here, e) refl in
    (here, subst (λ (s : Source). Reads s bits (source (after_bits p (states_of (with_states table set (b ∷ bits)))) (set_after table set (b ∷ bits)))) next (in_turn table (after_bit p (slice_index set b.0)) (moved table set b.0 b.1) bits (after_bit-table p (slice_index set b.0) ∙ e) rest))

pub codes_in_turn : CodesInTurn
codes_in_turn p set bits h = in_turn p.table p set bits refl h

-- ---- what is read as a spelling is computed
Reads-append : (old : Source) (a b : List (ℕ × Bool)) (new : Source) → Reads old (a ++ b) new → (mid : Source) × Reads old a mid × Reads mid b new
Reads-append old [] b new h = (old, refl, h)
Reads-append old (x ∷ a) b new h = let rest = Reads-append (after_place old x.0) a b new h.1 in (rest.0, (h.0, rest.1), rest.2)

Reads-join : (old : Source) (a b : List (ℕ × Bool)) (mid new : Source) → Reads old a mid → Reads mid b new → Reads old (a ++ b) new
Reads-join old [] b mid new h k = subst (λ (s : Source). Reads s b new) (sym h) k
Reads-join old (x ∷ a) b mid new h k = (h.0, Reads-join (after_place old x.0) a b mid new h.1 k)

-- ---- a symbol as a spelling is read, and so computed
exponent_reads : (n left i total : ℕ) (s new : Source) → total ≡ i + n → n < left → Reads s (ones i n ++ (1 + min total 9, false) ∷ []) new → exponent_at left i s ≡ (Some total, new)
unfolding ones exponent_at
exponent_reads n zero i total s new e h r = absurd (omega arith)
exponent_reads zero (suc left) i total s new e h r =
    let same : i ≡ total = omega arith in
    rw same (rw r.0 (ap (λ (x : Source). (Some total, x)) r.1))
exponent_reads (suc n) (suc left) i total s new e h r =
    rw r.0 (exponent_reads n left (i + 1) total (after_place s (1 + min i 9)) new (omega arith) (omega arith) r.1)

ones_read : (n i : ℕ) (s new : Source) → Reads s (ones i n) new → exponent_at n i s ≡ (None, new)
unfolding ones exponent_at
ones_read zero i s new r = ap (λ (x : Source). (None, x)) r
ones_read (suc n) i s new r = rw r.0 (ones_read n (i + 1) (after_place s (1 + min i 9)) new r.1)

-- what is below bit i, and bit i itself
halves : (m i : ℕ) → m / 2 ^ i ≡ 2 * (m / 2 ^ suc i) + bit_at m i
halves m i =
    let split = div-add-mod (m / 2 ^ i) 2 in
    let next : m / 2 ^ suc i ≡ m / 2 ^ i / 2 = sym (shr-shr m i 1 ∙ ap (λ n. m / 2 ^ n) (add-one i)) in
    rw next (omega (arith, split))

as_number : (b : ℕ) → b < 2 → cond (eqb b 1) 1 0 ≡ b
as_number b h = grind (arith, nat_tests)

magnitude_reads : (i a m : ℕ) (s new : Source) → a ≡ m / 2 ^ i → Reads s (low_bits i m) new → magnitude_at i a s ≡ (m, new)
unfolding low_bits magnitude_at
magnitude_reads zero a m s new e r =
    let whole : a ≡ m = omega (arith, e) in
    rw whole (ap (λ (x : Source). (m, x)) r)
magnitude_reads (suc i) a m s new e r =
    let bit = as_number (bit_at m i) (bit_at-lt m i) in
    rw r.0 (magnitude_reads i (2 * a + cond (eqb (bit_at m i) 1) 1 0) m (after_place s (22 + min i 9)) new (omega (arith, halves m i, bit, e)) r.1)

last_bit : (m i a : ℕ) (bit : Bool) → m / 2 ^ i ≡ 2 * a + cond bit 1 0 → (m / 2 ^ suc i ≡ a) × (bit ≡ eqb (bit_at m i) 1)
last_bit m i a true e =
    let h = halves m i in
    let small = bit_at-lt m i in
    (omega arith, sym (eq-eqb (bit_at m i) 1 (omega arith)))
last_bit m i a false e =
    let h = halves m i in
    let small = bit_at-lt m i in
    (omega arith, sym (ne_eqb (bit_at m i) 1 (λ one. omega arith)))

-- ---- and the other way: what is computed was read as that spelling
exponent_read : (left i total : ℕ) (s new : Source) → exponent_at left i s ≡ (Some total, new) → (n : ℕ) × (total ≡ i + n) × (n < left) × Reads s (ones i n ++ (1 + min total 9, false) ∷ []) new
unfolding ones exponent_at
exponent_read zero i total s new e = let first = ap (λ (p : Option ℕ × Source). p.0) e in cc
exponent_read (suc left) i total s new e =
    elim (cases_Bool (bit_at_place s (1 + min i 9))) [
      | inl one ↦
          let more : exponent_at left (i + 1) (after_place s (1 + min i 9)) ≡ (Some total, new) = rw one at e in
          let rest = exponent_read left (i + 1) total (after_place s (1 + min i 9)) new more in
          (suc rest.0, omega (arith, rest.1), omega (arith, rest.2), (one, rest.3))
      | inr none_left ↦
          let ends = ap (λ (b : Bool). cond b (exponent_at left (i + 1) (after_place s (1 + min i 9))) (Some i, after_place s (1 + min i 9))) (sym none_left) ∙ e in
          let first : Some i ≡ Some total = ap (λ (p : Option ℕ × Source). p.0) ends in
          let same : i ≡ total = cc in
          let last : after_place s (1 + min i 9) ≡ new = ap (λ (p : Option ℕ × Source). p.1) ends in
          (0, omega arith, omega arith, (rw (← same) none_left, rw (← same) last))
    ]

none_read : (left i : ℕ) (s new : Source) → exponent_at left i s ≡ (None, new) → Reads s (ones i left) new
unfolding ones exponent_at
none_read zero i s new e = ap (λ (p : Option ℕ × Source). p.1) e
none_read (suc left) i s new e =
    elim (cases_Bool (bit_at_place s (1 + min i 9))) [
      | inl one ↦
          let more : exponent_at left (i + 1) (after_place s (1 + min i 9)) ≡ (None, new) = rw one at e in
          (one, none_read left (i + 1) (after_place s (1 + min i 9)) new more)
      | inr none_left ↦
          let ends = ap (λ (b : Bool). cond b (exponent_at left (i + 1) (after_place s (1 + min i 9))) (Some i, after_place s (1 + min i 9))) (sym none_left) ∙ e in
          let first : Some i ≡ None = ap (λ (p : Option ℕ × Source). p.0) ends in
          cc
    ]

-- the magnitude that bits below a give, and that they spell it
magnitude_read : (i a : ℕ) (s : Source) → let read = magnitude_at i a s in (read.0 / 2 ^ i ≡ a) × Reads s (low_bits i read.0) read.1
unfolding low_bits magnitude_at
magnitude_read zero a s = (omega arith, refl)
magnitude_read (suc i) a s =
    let bit = bit_at_place s (22 + min i 9) in
    let next = 2 * a + cond bit 1 0 in
    let after = after_place s (22 + min i 9) in
    let rest = magnitude_read i next after in
    let m = (magnitude_at i next after).0 in
    let parts = last_bit m i a bit rest.0 in
    (parts.0, (parts.1, rest.1))

-- ---- the whole symbol
from_parts : (value : ℤ) (m : ℕ) → m ≡ nat_abs value → cond (is_negative value) (neg_ℤ (pos m)) (pos m) ≡ value
from_parts (pos n) m e = ap pos e
from_parts (negsuc n) m e = rw e refl

positive_from_parts : (value : ℤ) (m : ℕ) → m ≡ nat_abs value → is_negative value ≡ false → pos m ≡ value
positive_from_parts (pos n) m e h = ap pos e
positive_from_parts (negsuc n) m e h = absurd (true≢false h)

none_from_abs : (value : ℤ) → nat_abs value ≡ 0 → pos 0 ≡ value
none_from_abs (pos n) e = ap pos (sym e)
none_from_abs (negsuc n) e = absurd (omega (arith, e))

-- a spelling's sign is read behind its magnitude
sign_reads : (value : ℤ) (signed : Bool) (m e : ℕ) (s new : Source) → m ≡ nat_abs value → (signed ≡ false → is_negative value ≡ false) → Reads s (sign_bits signed e (is_negative value)) new → signed_at signed e (m, s) ≡ (Some value, new)
sign_reads value false m e s new h positive r = let v = positive_from_parts value m h (positive refl) in rw (v, r) refl
sign_reads value true m e s new h positive r = let v = from_parts value m h in rw (r.0, v) (ap (λ (x : Source). (Some value, x)) r.1)

some_reads : (old new : Source) (value : ℤ) (signed : Bool) → IsSpelled value signed → 0 < nat_abs value → Reads old (spelling value signed) new → symbol_at old signed ≡ (Some value, new)
unfolding symbol_at
some_reads old new value signed spelled some r =
    let m = nat_abs value in
    let e = exponent_of m in
    let bounds = exponent_of-bounds m some spelled.0 in
    let bits : Reads old ((0, false) ∷ (magnitude_bits m ++ sign_bits signed e (is_negative value))) new = subst (λ (b : List (ℕ × Bool)). Reads old b new) (spelling-some value signed some) r in
    let tail = Reads-append (after_place old 0) (magnitude_bits m) (sign_bits signed e (is_negative value)) new bits.1 in
    let after_magnitude = tail.0 in
    let parts = Reads-append (after_place old 0) (ones 0 e ++ (1 + min e 9, false) ∷ []) (low_bits e m) after_magnitude (subst (λ (b : List (ℕ × Bool)). Reads (after_place old 0) b after_magnitude) (magnitude_bits-is m e refl) tail.1) in
    let highest : 1 ≡ m / 2 ^ e = omega (arith, le-div 1 m (2 ^ e) (pow_pos e) (omega (arith, bounds.1)), div_below m (2 ^ e) 2 (pow_pos e) (omega (arith, bounds.2, pow-succ' 2 e))) in
    let exponent = exponent_reads e 32 0 e (after_place old 0) parts.0 (omega arith) bounds.0 parts.1 in
    let magnitude = magnitude_reads e 1 m parts.0 after_magnitude highest parts.2 in
    rw (bits.0, exponent, magnitude) (sign_reads value signed m e after_magnitude new refl spelled.1 tail.2)

zero_reads : (old new : Source) (value : ℤ) (signed : Bool) → nat_abs value ≡ 0 → Reads old (spelling value signed) new → symbol_at old signed ≡ (Some value, new)
unfolding symbol_at
zero_reads old new value signed none_left r =
    let bits : Reads old ((0, true) ∷ []) new = subst (λ (b : List (ℕ × Bool)). Reads old b new) (spelling-zero value signed none_left) r in
    rw (bits.0, none_from_abs value none_left) (ap (λ (x : Source). (Some value, x)) bits.1)

pub value_reads : (old new : Source) (value : ℤ) (signed : Bool) → IsSpelled value signed → Reads old (spelling value signed) new → symbol_at old signed ≡ (Some value, new)
value_reads old new value signed spelled r =
    elim (cases_eq (nat_abs value) 0) [
      | inl none_left ↦ zero_reads old new value signed none_left r
      | inr some ↦ some_reads old new value signed spelled (omega arith) r
    ]

pub too_long_reads : (old new : Source) (signed : Bool) → Reads old too_long new → symbol_at old signed ≡ (None, new)
unfolding symbol_at too_long
too_long_reads old new signed r = let exponent = ones_read 32 0 (after_place old 0) new r.1 in rw (r.0, exponent) refl

-- what the end of a symbol gave
ended : (signed : Bool) (x : Option ℕ × Source) (value : ℤ) (new : Source) → value_at signed x ≡ (Some value, new) → (e : ℕ) × (mid : Source) × (x ≡ (Some e, mid)) × (signed_at signed e (magnitude_at e 1 mid) ≡ (Some value, new))
ended signed (None, s) value new h = let first = ap (λ (p : Option ℤ × Source). p.0) h in cc
ended signed (Some e, s) value new h = (e, s, refl, h)

ended_none : (signed : Bool) (x : Option ℕ × Source) (new : Source) → value_at signed x ≡ (None, new) → x ≡ (None, new)
ended_none signed (None, s) new h = ap (λ (x : Source). (None, x)) (ap (λ (p : Option ℤ × Source). p.1) h)
ended_none false (Some e, s) new h = let first = ap (λ (p : Option ℤ × Source). p.0) h in cc
ended_none true (Some e, s) new h = let first = ap (λ (p : Option ℤ × Source). p.0) h in cc

abs_of_sign : (bit : Bool) (m : ℕ) → 0 < m → (nat_abs (cond bit (neg_ℤ (pos m)) (pos m)) ≡ m) × (is_negative (cond bit (neg_ℤ (pos m)) (pos m)) ≡ bit)
abs_of_sign bit zero h = absurd (omega arith)
abs_of_sign true (suc n) h = (refl, refl)
abs_of_sign false (suc n) h = (refl, refl)

-- a magnitude's value has that magnitude, and its sign is the one that was read
sign_read : (signed : Bool) (m e : ℕ) (s : Source) (value : ℤ) (new : Source) → 0 < m → signed_at signed e (m, s) ≡ (Some value, new) → (nat_abs value ≡ m) × (signed ≡ false → is_negative value ≡ false) × Reads s (sign_bits signed e (is_negative value)) new
sign_read false m e s value new some h =
    let first : Some (pos m) ≡ Some value = ap (λ (p : Option ℤ × Source). p.0) h in
    let same : pos m ≡ value = cc in
    (sym (ap nat_abs same), λ e. sym (ap is_negative same), ap (λ (p : Option ℤ × Source). p.1) h)
sign_read true m e s value new some h =
    let bit = bit_at_place s (11 + min e 10) in
    let first : Some (cond bit (neg_ℤ (pos m)) (pos m)) ≡ Some value = ap (λ (p : Option ℤ × Source). p.0) h in
    let same : cond bit (neg_ℤ (pos m)) (pos m) ≡ value = cc in
    let parts = abs_of_sign bit m some in
    (sym (ap nat_abs same) ∙ parts.0, λ e. absurd (true≢false e), (sym parts.1 ∙ ap is_negative same, ap (λ (p : Option ℤ × Source). p.1) h))

some_read : (old new : Source) (value : ℤ) (signed : Bool) → bit_at_place old 0 ≡ false → value_at signed (exponent_at 32 0 (after_place old 0)) ≡ (Some value, new) → IsSpelled value signed × Reads old (spelling value signed) new
some_read old new value signed first h =
    let end = ended signed (exponent_at 32 0 (after_place old 0)) value new h in
    let e = end.0 in
    let mid = end.1 in
    let m = (magnitude_at e 1 mid).0 in
    let after_magnitude = (magnitude_at e 1 mid).1 in
    let exponent = exponent_read 32 0 e (after_place old 0) mid end.2 in
    let magnitude = magnitude_read e 1 mid in
    let split = div-add-mod m (2 ^ e) in
    let below = mod_below m (2 ^ e) (pow_pos e) in
    let one : 2 ^ e * (m / 2 ^ e) ≡ 2 ^ e = ap (λ n. 2 ^ e * n) magnitude.0 ∙ omega arith in
    let top = pow-le-pow_right {n = 2} (omega arith) {i = suc e} {j = 32} (omega (arith, exponent.1, exponent.2)) in
    let small : m < 2 ^ 32 = omega (arith, split, below, one, top, pow-succ' 2 e) in
    let some : 0 < m = omega (arith, split, one, pow_pos e) in
    let sign = sign_read signed m e after_magnitude value new some end.3 in
    let is_exponent : exponent_of m ≡ e = exponent_of-is m e small (omega (arith, split, one)) (omega (arith, split, one, below)) in
    let ones_count : exponent.0 ≡ e = omega (arith, exponent.1) in
    let exponent_bits : Reads (after_place old 0) (ones 0 e ++ (1 + min e 9, false) ∷ []) mid = subst (λ (n : ℕ). Reads (after_place old 0) (ones 0 n ++ (1 + min e 9, false) ∷ []) mid) ones_count exponent.3 in
    let bits = subst (λ (b : List (ℕ × Bool)). Reads (after_place old 0) b after_magnitude) (sym (magnitude_bits-is m e (sym is_exponent))) (Reads-join (after_place old 0) (ones 0 e ++ (1 + min e 9, false) ∷ []) (low_bits e m) mid after_magnitude exponent_bits magnitude.1) in
    let all = Reads-join (after_place old 0) (magnitude_bits m) (sign_bits signed e (is_negative value)) after_magnitude new bits sign.2 in
    let spelled : spelling value signed ≡ (0, false) ∷ (magnitude_bits m ++ sign_bits signed e (is_negative value)) =
    subst (λ (n : ℕ). spelling value signed ≡ (0, false) ∷ (magnitude_bits m ++ sign_bits signed n (is_negative value))) is_exponent
    (subst (λ (n : ℕ). spelling value signed ≡ (0, false) ∷ (magnitude_bits n ++ sign_bits signed (exponent_of n) (is_negative value))) sign.0 (spelling-some value signed (omega (arith, sign.0, some)))) in
    ((omega (arith, sign.0, small), sign.1), subst (λ (b : List (ℕ × Bool)). Reads old b new) (sym spelled) (first, all))

zero_read : (old new : Source) (value : ℤ) (signed : Bool) → bit_at_place old 0 ≡ true → ◌≡◌ {A = Option ℤ × Source} (Some (pos 0), after_place old 0) (Some value, new) → IsSpelled value signed × Reads old (spelling value signed) new
zero_read old new value signed first h =
    let some : Some (pos 0) ≡ Some value = ap (λ (p : Option ℤ × Source). p.0) h in
    let same : pos 0 ≡ value = cc in
    let magnitude : nat_abs value ≡ 0 = sym (ap nat_abs same) in
    ((omega (arith, magnitude), λ e. sym (ap is_negative same)), subst (λ (b : List (ℕ × Bool)). Reads old b new) (sym (spelling-zero value signed magnitude)) (first, ap (λ (p : Option ℤ × Source). p.1) h))

pub value_read : (old new : Source) (value : ℤ) (signed : Bool) → symbol_at old signed ≡ (Some value, new) → IsSpelled value signed × Reads old (spelling value signed) new
unfolding symbol_at
value_read old new value signed h =
    elim (cases_Bool (bit_at_place old 0)) [
      | inl one ↦ zero_read old new value signed one (ap (λ (b : Bool). cond b (Some (pos 0), after_place old 0) (value_at signed (exponent_at 32 0 (after_place old 0)))) (sym one) ∙ h)
      | inr none_left ↦ some_read old new value signed none_left (ap (λ (b : Bool). cond b (Some (pos 0), after_place old 0) (value_at signed (exponent_at 32 0 (after_place old 0)))) (sym none_left) ∙ h)
    ]

pub too_long_read : (old new : Source) (signed : Bool) → symbol_at old signed ≡ (None, new) → Reads old too_long new
unfolding symbol_at too_long
too_long_read old new signed h =
    elim (cases_Bool (bit_at_place old 0)) [
      | inl one ↦
          let ends = ap (λ (b : Bool). cond b (Some (pos 0), after_place old 0) (value_at signed (exponent_at 32 0 (after_place old 0)))) (sym one) ∙ h in
          let first : Some (pos 0) ≡ None = ap (λ (p : Option ℤ × Source). p.0) ends in cc
      | inr none_left ↦
          let ends = ap (λ (b : Bool). cond b (Some (pos 0), after_place old 0) (value_at signed (exponent_at 32 0 (after_place old 0)))) (sym none_left) ∙ h in
          (none_left, none_read 32 0 (after_place old 0) new (ended_none signed (exponent_at 32 0 (after_place old 0)) new ends))
    ]

pub reads_symbols : ReadsSymbols
reads_symbols = record { value = value_reads; spelled = value_read; none = too_long_reads; too_long = too_long_read }

-- ---- the answer of a reader
pub ok_spelled : (old new : Source) (signed : Bool) (read : Option ℤ) (fault : TooLong) (answer : Result ℤ TooLong) → answer ≡ ok_or read fault → symbol_at old signed ≡ (read, new) → IfOk answer (λ value. IsSpelled value signed × Reads old (spelling value signed) new)
ok_spelled old new signed (Some value) fault answer e h = rw e (value_read old new value signed h)
ok_spelled old new signed None fault answer e h = rw e tt

pub err_too_long : (old new : Source) (signed : Bool) (read : Option ℤ) (fault : TooLong) (answer : Result ℤ TooLong) → answer ≡ ok_or read fault → symbol_at old signed ≡ (read, new) → OnErr answer (Reads old too_long new)
err_too_long old new signed (Some value) fault answer e h = rw e tt
err_too_long old new signed None fault answer e h = rw e (too_long_read old new signed h)

-- ---- no spelling begins another
ones_same : (n m i : ℕ) (p q : ℕ) (x y : List (ℕ × Bool)) → ones i n ++ (p, false) ∷ x ≡ ones i m ++ (q, false) ∷ y → (n ≡ m) × (x ≡ y)
unfolding ones
ones_same zero zero i p q x y h = (refl, ap tail h)
ones_same zero (suc m) i p q x y h = absurd (false≢true (ap head_bit h))
ones_same (suc n) zero i p q x y h = absurd (true≢false (ap head_bit h))
ones_same (suc n) (suc m) i p q x y h = let rest = ones_same n m (i + 1) p q x y (ap tail h) in (ap suc rest.0, rest.1)

ones_over : (n m i : ℕ) (p : ℕ) (x y : List (ℕ × Bool)) → n < m → ones i n ++ (p, false) ∷ x ≡ ones i m ++ y → ⊥
unfolding ones
ones_over n zero i p x y less h = omega arith
ones_over zero (suc m) i p x y less h = false≢true (ap head_bit h)
ones_over (suc n) (suc m) i p x y less h = ones_over n m (i + 1) p x y (omega arith) (ap tail h)

same_bit : (a b : ℕ) → a < 2 → b < 2 → eqb a 1 ≡ eqb b 1 → a ≡ b
same_bit a b p q h = grind (arith, nat_tests)

low_bits_same : (n a b : ℕ) (x y : List (ℕ × Bool)) → a / 2 ^ n ≡ b / 2 ^ n → low_bits n a ++ x ≡ low_bits n b ++ y → (a ≡ b) × (x ≡ y)
unfolding low_bits
low_bits_same zero a b x y e h = (omega (arith, e), h)
low_bits_same (suc n) a b x y e h =
    let bit = same_bit (bit_at a n) (bit_at b n) (bit_at-lt a n) (bit_at-lt b n) (ap head_bit h) in
    low_bits_same n a b x y (omega (arith, halves a n, halves b n, bit, e)) (ap tail h)

sign_same : (value other : ℤ) (signed : Bool) (e : ℕ) (x y : List (ℕ × Bool)) → IsSpelled value signed → IsSpelled other signed → sign_bits signed e (is_negative value) ++ x ≡ sign_bits signed e (is_negative other) ++ y → is_negative value ≡ is_negative other
sign_same value other false e x y v w h = v.1 refl ∙ sym (w.1 refl)
sign_same value other true e x y v w h = ap head_bit h

same_value : (value other : ℤ) → nat_abs value ≡ nat_abs other → is_negative value ≡ is_negative other → value ≡ other
same_value value other magnitude sign = sym (from_parts value (nat_abs value) refl) ∙ rw (magnitude, sign) (from_parts other (nat_abs other) refl)

highest_one : (m : ℕ) → 0 < m → m < 2 ^ 32 → m / 2 ^ exponent_of m ≡ 1
highest_one m some small =
    let bounds = exponent_of-bounds m some small in
    let e = exponent_of m in
    omega (arith, le-div 1 m (2 ^ e) (pow_pos e) (omega (arith, bounds.1)), div_below m (2 ^ e) 2 (pow_pos e) (omega (arith, bounds.2, pow-succ' 2 e)))

-- where a magnitude that isn't 0 is told first
some_same : (value other : ℤ) (signed : Bool) (x y : List (ℕ × Bool)) → IsSpelled value signed → IsSpelled other signed → 0 < nat_abs value → 0 < nat_abs other
    → magnitude_bits (nat_abs value) ++ (sign_bits signed (exponent_of (nat_abs value)) (is_negative value) ++ x) ≡ magnitude_bits (nat_abs other) ++ (sign_bits signed (exponent_of (nat_abs other)) (is_negative other) ++ y) → value ≡ other
unfolding magnitude_bits
some_same value other signed x y v w some some' h =
    let m = nat_abs value in
    let n = nat_abs other in
    let flat = sym (append_assoc (ones 0 (exponent_of m)) ((1 + min (exponent_of m) 9, false) ∷ low_bits (exponent_of m) m) (sign_bits signed (exponent_of m) (is_negative value) ++ x)) ∙ h ∙ append_assoc (ones 0 (exponent_of n)) ((1 + min (exponent_of n) 9, false) ∷ low_bits (exponent_of n) n) (sign_bits signed (exponent_of n) (is_negative other) ++ y) in
    let first = ones_same (exponent_of m) (exponent_of n) 0 _ _ _ _ flat in
    let e = exponent_of m in
    let rest : low_bits e m ++ (sign_bits signed e (is_negative value) ++ x) ≡ low_bits e n ++ (sign_bits signed e (is_negative other) ++ y) = rw first.0 (rw first.0 at first.1) in
    let highest : m / 2 ^ e ≡ n / 2 ^ e = highest_one m some v.0 ∙ sym (ap (λ k. n / 2 ^ k) first.0 ∙ highest_one n some' w.0) in
    let magnitude = low_bits_same e m n _ _ highest rest in
    same_value value other magnitude.0 (sign_same value other signed e x y v w magnitude.1)

some_bits : (value : ℤ) (signed : Bool) (more : List (ℕ × Bool)) → 0 < nat_abs value → spelling value signed ++ more ≡ (0, false) ∷ (magnitude_bits (nat_abs value) ++ (sign_bits signed (exponent_of (nat_abs value)) (is_negative value) ++ more))
some_bits value signed more some =
    ap (λ (b : List (ℕ × Bool)). b ++ more) (spelling-some value signed some)
    ∙ ap (λ (b : List (ℕ × Bool)). (0, false) ∷ b) (append_assoc (magnitude_bits (nat_abs value)) (sign_bits signed (exponent_of (nat_abs value)) (is_negative value)) more)

zero_bits : (value : ℤ) (signed : Bool) (more : List (ℕ × Bool)) → nat_abs value ≡ 0 → spelling value signed ++ more ≡ (0, true) ∷ more
zero_bits value signed more e = ap (λ (b : List (ℕ × Bool)). b ++ more) (spelling-zero value signed e)

pub spelled_once : (value other : ℤ) (signed : Bool) (more rest : List (ℕ × Bool)) → IsSpelled value signed → IsSpelled other signed → spelling value signed ++ more ≡ spelling other signed ++ rest → value ≡ other
spelled_once value other signed more rest v w h =
    elim (cases_eq (nat_abs value) 0) [
      | inl none_left ↦ elim (cases_eq (nat_abs other) 0) [
        | inl none_right ↦ sym (none_from_abs value none_left) ∙ none_from_abs other none_right
        | inr some' ↦ absurd (true≢false (ap head_bit (sym (zero_bits value signed more none_left) ∙ h ∙ some_bits other signed rest (omega arith))))
      ]
      | inr some ↦ elim (cases_eq (nat_abs other) 0) [
        | inl none_right ↦ absurd (false≢true (ap head_bit (sym (some_bits value signed more (omega arith)) ∙ h ∙ zero_bits other signed rest none_right)))
        | inr some' ↦ some_same value other signed more rest v w (omega arith) (omega arith) (ap tail (sym (some_bits value signed more (omega arith)) ∙ h ∙ some_bits other signed rest (omega arith)))
      ]
    ]

over_bits : (m : ℕ) (x y : List (ℕ × Bool)) → 0 < m → m < 2 ^ 32 → magnitude_bits m ++ x ≡ ones 0 32 ++ y → ⊥
unfolding magnitude_bits
over_bits m x y some small h =
    ones_over (exponent_of m) 32 0 (1 + min (exponent_of m) 9) (low_bits (exponent_of m) m ++ x) y (exponent_of-bounds m some small).0
    (sym (append_assoc (ones 0 (exponent_of m)) ((1 + min (exponent_of m) 9, false) ∷ low_bits (exponent_of m) m) x) ∙ h)

pub not_too_long : (value : ℤ) (signed : Bool) (more rest : List (ℕ × Bool)) → IsSpelled value signed → spelling value signed ++ more ≡ too_long ++ rest → ⊥
unfolding too_long
not_too_long value signed more rest v h =
    elim (cases_eq (nat_abs value) 0) [
      | inl none_left ↦ true≢false (ap head_bit (sym (zero_bits value signed more none_left) ∙ h))
      | inr some ↦ over_bits (nat_abs value) (sign_bits signed (exponent_of (nat_abs value)) (is_negative value) ++ more) rest (omega arith) v.0 (ap tail (sym (some_bits value signed more (omega arith)) ∙ h))
    ]

pub no_prefix : NoPrefix
no_prefix = record { values = spelled_once; too_long = not_too_long }
