-- The law of the range coder, step by step: a reader that stands within what was written reads the bits that were written.
use Rattle.std.proofs.Common.{◌≡◌, ℕ, zero, suc, ◌+◌, ◌-◌, ◌*◌, ◌^◌, ◌<◌, ◌≤◌, min, Bool, true, false, ltb, leb, List, [], ◌∷◌, get_or-drop, drop, refl, ap, ◌∙◌, arith, add-one, inl, inr}
use Rattle.std.specs.Prelude.{slice_index}
use Rattle.std.proofs.lemmas.Nat.{div_below, le-div}
use Rattle.std.proofs.lemmas.Bool.{cases_lt, lt-ltb, le-ltb, le-leb, lt-leb}
use Rattle.std.proofs.lemmas.Bool.Decides.{nat_tests}
use Rattle.std.proofs.lemmas.List.{drop-drop}
use Rattle.std.proofs.Math.Nat.{mul-le-mul_left}
use Rattle.ffv1_range.specs.Reading.{Reading, one_part, zero_part, opened, bit_of, narrowed, renewed, after_bit, bits_read, after_bits}
use Rattle.ffv1_range.specs.Writing.{Writing, started, chosen, shifted, put, put_all, AreStates}
use Rattle.ffv1_range.specs.Law.{states_of, bits_of}

-- the number of the first k bytes of a list that zeros follow
unfoldable pub first_bytes : ℕ → List ℕ → ℕ
first_bytes zero bytes = 0
first_bytes (suc k) bytes = 256 * first_bytes k bytes + slice_index bytes k

pub first_bytes-next : (k : ℕ) (bytes : List ℕ) → first_bytes (k + 1) bytes ≡ 256 * first_bytes k bytes + slice_index bytes k
unfolding first_bytes
first_bytes-next k bytes = rw add-one refl

-- A reader stands at the place of a writing in these bytes.
pub record Tracks (bytes : List ℕ) (p : Reading) (w : Writing) : Type 0 where
  pub range : p.range ≡ w.range
  pub low : p.low + w.low ≡ first_bytes w.count bytes
  pub rest : p.rest ≡ drop w.count bytes
  pub taken : p.taken ≡ min w.count (2 ^ 64 - 1)

-- The bytes are a number within the range of a writing.
pub record IsWithin (bytes : List ℕ) (w : Writing) : Type 0 where
  pub from : w.low ≤ first_bytes w.count bytes
  pub below : first_bytes w.count bytes < w.low + w.range

abbrev pub IsBytes : List ℕ → Type 0
IsBytes bytes = (k : ℕ) → slice_index bytes k < 256

-- both parts of a range have something
pub one_part_lt : (range state : ℕ) → 256 ≤ range → 0 < state → state < 256 → (0 < one_part range state) × (one_part range state < range)
one_part_lt range state wide some small = (
  le-div 1 (range * state) 256 (omega arith) (omega (arith, mul-le-mul_left range some)),
  div_below (range * state) 256 range (omega arith) (grind arith),
)

pub within_shifted : (bytes : List ℕ) (w : Writing) → IsBytes bytes → IsWithin bytes (shifted w) → IsWithin bytes w
unfolding shifted
within_shifted bytes w fits h =
    let next = first_bytes-next w.count bytes in
    let small = fits w.count in
    record { from = grind (arith, nat_tests); below = grind (arith, nat_tests) }

pub within_chosen : (bytes : List ℕ) (w : Writing) (state : ℕ) (bit : Bool) → 256 ≤ w.range → 0 < state → state < 256 → IsWithin bytes (chosen w state bit) → IsWithin bytes w
unfolding chosen
within_chosen bytes w state true wide some small h =
    let parts = one_part_lt w.range state wide some small in
    record { from = omega (arith, h.from); below = omega (arith, h.below, parts.0, parts.1) }
within_chosen bytes w state false wide some small h =
    let parts = one_part_lt w.range state wide some small in
    record { from = omega (arith, h.from); below = omega (arith, h.below, parts.0, parts.1) }

pub tracks_chosen : (bytes : List ℕ) (p : Reading) (w : Writing) (state : ℕ) (bit : Bool) → Tracks bytes p w → 256 ≤ w.range → 0 < state → state < 256 → IsWithin bytes (chosen w state bit)
    → (bit_of p state ≡ bit) × Tracks bytes (narrowed p state) (chosen w state bit)
unfolding chosen narrowed bit_of
tracks_chosen bytes p w state true h wide some small within =
    let parts = one_part_lt w.range state wide some small in
    let e = ap (λ r. zero_part r state) h.range in
    let f = ap (λ r. one_part r state) h.range in
    let at_one : leb (zero_part p.range state) p.low ≡ true = le-leb _ _ (omega (arith, h.low, within.from, e)) in
    (at_one, rw at_one (record { range = f; low = omega (arith, h.low, within.from, e); rest = h.rest; taken = h.taken }))
tracks_chosen bytes p w state false h wide some small within =
    let e = ap (λ r. zero_part r state) h.range in
    let at_zero : leb (zero_part p.range state) p.low ≡ false = lt-leb _ _ (omega (arith, h.low, within.below, e)) in
    (at_zero, rw at_zero (record { range = e; low = h.low; rest = h.rest; taken = h.taken }))

drop_next : (xs : List ℕ) (n : ℕ) → drop 1 (drop n xs) ≡ drop (n + 1) xs
drop_next xs n = drop-drop 1 n xs

pub tracks_shifted : (bytes : List ℕ) (p : Reading) (w : Writing) → Tracks bytes p w → Tracks bytes (renewed p) (shifted w)
unfolding shifted renewed
tracks_shifted bytes p w h =
    let next = first_bytes-next w.count bytes in
    let byte : slice_index p.rest 0 ≡ slice_index bytes w.count = rw h.rest (get_or-drop w.count bytes 0 0 ∙ ap (λ n. slice_index bytes n) (omega arith)) in
    elim (cases_lt w.range 256) [
      | inl less ↦
          let lt_w : ltb w.range 256 ≡ true = lt-ltb _ _ less in
          let lt_p : ltb p.range 256 ≡ true = rw h.range lt_w in
          rw (lt_w, lt_p) (record {
            range = ap (λ n. 256 * n) h.range;
            low = omega (arith, h.low, next, byte);
            rest = rw h.rest (drop_next bytes w.count);
            taken = omega (arith, h.taken);
          })
      | inr more ↦
          let lt_w : ltb w.range 256 ≡ false = le-ltb _ _ more in
          let lt_p : ltb p.range 256 ≡ false = rw h.range lt_w in
          rw (lt_w, lt_p) h
    ]

-- a range is wide again after each bit
pub put-wide : (w : Writing) (state : ℕ) (bit : Bool) → 256 ≤ w.range → 0 < state → state < 256 → 256 ≤ (put w state bit).range
unfolding put chosen shifted
put-wide w state true wide some small =
    let parts = one_part_lt w.range state wide some small in grind (arith, nat_tests)
put-wide w state false wide some small =
    let parts = one_part_lt w.range state wide some small in grind (arith, nat_tests)

pub within_step : (bytes : List ℕ) (w : Writing) (state : ℕ) (bit : Bool) → IsBytes bytes → 256 ≤ w.range → 0 < state → state < 256 → IsWithin bytes (put w state bit) → IsWithin bytes w
unfolding put
within_step bytes w state bit fits wide some small h =
    within_chosen bytes w state bit wide some small (within_shifted bytes (chosen w state bit) fits h)

cons_same : {a b : Bool} {xs ys : List Bool} → a ≡ b → xs ≡ ys → (a ∷ xs) ≡ (b ∷ ys)
cons_same e f = cc

-- A reader that stands at the place of a writing reads the bits that are written next, where the bytes are within what they make.
pub within_before : (bytes : List ℕ) (w : Writing) (coded : List (ℕ × Bool)) → IsBytes bytes → 256 ≤ w.range → AreStates coded → IsWithin bytes (put_all w coded) → IsWithin bytes w
within_before bytes w [] fits wide states h = h
within_before bytes w (c ∷ coded) fits wide states h =
    within_step bytes w c.0 c.1 fits wide states.0.0 states.0.1
    (within_before bytes (put w c.0 c.1) coded fits (put-wide w c.0 c.1 wide states.0.0 states.0.1) states.1 h)

pub tracks_step : (bytes : List ℕ) (p : Reading) (w : Writing) (state : ℕ) (bit : Bool) → IsBytes bytes → Tracks bytes p w → 256 ≤ w.range → 0 < state → state < 256 → IsWithin bytes (put w state bit)
    → (bit_of p state ≡ bit) × Tracks bytes (after_bit p state) (put w state bit)
unfolding put after_bit
tracks_step bytes p w state bit fits h wide some small within =
    let chosen_within = within_shifted bytes (chosen w state bit) fits within in
    let read = tracks_chosen bytes p w state bit h wide some small chosen_within in
    (read.0, tracks_shifted bytes (narrowed p state) (chosen w state bit) read.1)

-- the bits that are read, and where the reader then stands
pub record ReadsOn (bytes : List ℕ) (p : Reading) (w : Writing) (coded : List (ℕ × Bool)) : Type 0 where
  pub bits : bits_read p (states_of coded) ≡ bits_of coded
  pub after : Tracks bytes (after_bits p (states_of coded)) (put_all w coded)

pub reads_on : (bytes : List ℕ) (p : Reading) (w : Writing) (coded : List (ℕ × Bool)) → IsBytes bytes → Tracks bytes p w → 256 ≤ w.range → AreStates coded → IsWithin bytes (put_all w coded) → ReadsOn bytes p w coded
reads_on bytes p w [] fits h wide states within = record { bits = refl; after = h }
reads_on bytes p w (c ∷ coded) fits h wide states within =
    let wide_next = put-wide w c.0 c.1 wide states.0.0 states.0.1 in
    let next = tracks_step bytes p w c.0 c.1 fits h wide states.0.0 states.0.1 (within_before bytes (put w c.0 c.1) coded fits wide_next states.1 within) in
    let rest = reads_on bytes (after_bit p c.0) (put w c.0 c.1) coded fits next.1 wide_next states.1 within in
    record { bits = cons_same next.0 rest.bits; after = rest.after }

-- a reader at the start of bytes that are within the first range
pub tracks_opened : (table bytes : List ℕ) → IsBytes bytes → IsWithin bytes (started table) → Tracks bytes (opened table bytes) (started table)
unfolding opened started first_bytes
tracks_opened table bytes fits within =
    let first = 256 * slice_index bytes 0 + slice_index bytes 1 in
    let small : first < 65280 = omega (arith, within.below) in
    let goes_on : ltb first 65280 ≡ true = lt-ltb _ _ small in
    record { range = refl; low = omega (arith, small); rest = rw goes_on refl; taken = refl }
