-- The states with which the bits of a record are coded are states of the table.
use Rattle.std.proofs.Common.{◌≡◌, ℕ, zero, suc, ◌-◌, ◌+◌, ◌<◌, Bool, true, false, cond, eqb, ℤ, pos, ◌+ℤ◌, neg_ℤ, nat_abs, List, [], ◌∷◌, ◌++◌, length, get_or, set, drop, min, replicate, sym, subst, arith, inl, inr}
use Rattle.std.specs.Prelude.{slice_index}
use Rattle.std.specs.List.{AllByRecursion}
use Rattle.std.proofs.lemmas.Bool.{cases_lt}
use Rattle.std.proofs.lemmas.List.{get_or_past, get_or-replicate}
use Rattle.pic_planes.specs.declared.shape.Chroma.{Chroma}
use Rattle.pic_planes.specs.declared.shape.Chroma.TheVariants.{Grey, Shifts}
use Rattle.ffv1_range.specs.declared.transition.TheConstants.{DEFAULT_TRANSITION}
use Rattle.ffv1_range.specs.Transition.{IsTransition, IsKept, AllKept, next_state, moved}
use Rattle.ffv1_range.specs.Writing.{AreStates}
use Rattle.ffv1_range.specs.Symbol.{spelling, ones, low_bits, magnitude_bits, sign_bits, exponent_of, is_negative, with_states, set_after}
use Rattle.ffv1_record.specs.Parameters.{Parameters, runs_of}
use Rattle.ffv1_record.specs.Reading.{fresh}
use Rattle.ffv1_record.specs.Spelling.{number, flag, deltas, transition, chroma, coding, planes, grid, ending, before_tables, after_tables, flags, runs, coded_tables, coded_sets, coded}

-- ---- the places of bits are in a set
abbrev pub ArePlaces : List (ℕ × Bool) → Type 0
ArePlaces bits = AllByRecursion (λ b. b.0 < 32) bits

pub ArePlaces-append : (a b : List (ℕ × Bool)) → ArePlaces a → ArePlaces b → ArePlaces (a ++ b)
ArePlaces-append [] b first second = second
ArePlaces-append (x ∷ a) b first second = (first.0, ArePlaces-append a b first.1 second)

ones-places : (i n : ℕ) → ArePlaces (ones i n)
unfolding ones
ones-places i zero = tt
ones-places i (suc n) = (omega arith, ones-places (i + 1) n)

low_bits-places : (n magnitude : ℕ) → ArePlaces (low_bits n magnitude)
unfolding low_bits
low_bits-places zero magnitude = tt
low_bits-places (suc i) magnitude = (omega arith, low_bits-places i magnitude)

magnitude-places : (magnitude : ℕ) → ArePlaces (magnitude_bits magnitude)
unfolding magnitude_bits
magnitude-places magnitude =
    let exponent = exponent_of magnitude in
    ArePlaces-append (ones 0 exponent) ((1 + min exponent 9, false) ∷ low_bits exponent magnitude) (ones-places 0 exponent) (omega arith, low_bits-places exponent magnitude)

sign-places : (signed : Bool) (exponent : ℕ) (negative : Bool) → ArePlaces (sign_bits signed exponent negative)
sign-places true exponent negative = (omega arith, tt)
sign-places false exponent negative = tt

spelling-cases : (b : Bool) (x y : List (ℕ × Bool)) → ArePlaces x → ArePlaces y → ArePlaces (cond b x y)
spelling-cases true x y first second = first
spelling-cases false x y first second = second

pub spelling-places : (value : ℤ) (signed : Bool) → ArePlaces (spelling value signed)
unfolding spelling
spelling-places value signed =
    spelling-cases (eqb (nat_abs value) 0) _ _ (omega arith, tt)
    (ArePlaces-append ((0, false) ∷ magnitude_bits (nat_abs value)) (sign_bits signed (exponent_of (nat_abs value)) (is_negative value)) (omega arith, magnitude-places (nat_abs value)) (sign-places signed (exponent_of (nat_abs value)) (is_negative value)))

number-places : (n : ℕ) → ArePlaces (number n)
unfolding number
number-places n = spelling-places (pos n) false

flag-places : (bit : Bool) → ArePlaces (flag bit)
unfolding flag
flag-places bit = (omega arith, tt)

deltas-places : (default entries : List ℕ) → ArePlaces (deltas default entries)
unfolding deltas
deltas-places [] entries = tt
deltas-places (u ∷ default) [] = tt
deltas-places (u ∷ default) (entry ∷ entries) = ArePlaces-append (spelling (pos entry +ℤ neg_ℤ (pos u)) true) (deltas default entries) (spelling-places (pos entry +ℤ neg_ℤ (pos u)) true) (deltas-places default entries)

transition-places : (coder_type : ℕ) (table : List ℕ) → ArePlaces (transition coder_type table)
unfolding transition
transition-places coder_type table = spelling-cases (eqb coder_type 2) _ _ (deltas-places (drop 1 DEFAULT_TRANSITION) (drop 1 table)) tt

-- three groups in turn
three-places : (a b c : List (ℕ × Bool)) → ArePlaces a → ArePlaces b → ArePlaces c → ArePlaces (a ++ b ++ c)
three-places a b c first second third = ArePlaces-append (a ++ b) c (ArePlaces-append a b first second) third

chroma-places : (shifts : Chroma) → ArePlaces (chroma shifts)
unfolding chroma
chroma-places Grey = three-places (flag false) (number 0) (number 0) (flag-places false) (number-places 0) (number-places 0)
chroma-places (Shifts h v) = three-places (flag true) (number h) (number v) (flag-places true) (number-places h) (number-places v)

coding-places : (coder_type : ℕ) (table : List ℕ) → ArePlaces (coding coder_type table)
unfolding coding
coding-places coder_type table = ArePlaces-append (number 3 ++ number 4 ++ number coder_type) (transition coder_type table) (three-places (number 3) (number 4) (number coder_type) (number-places 3) (number-places 4) (number-places coder_type)) (transition-places coder_type table)

planes-places : (bits : ℕ) (shifts : Chroma) → ArePlaces (planes bits shifts)
unfolding planes
planes-places bits shifts = ArePlaces-append (number 0 ++ number bits ++ chroma shifts) (flag false) (three-places (number 0) (number bits) (chroma shifts) (number-places 0) (number-places bits) (chroma-places shifts)) (flag-places false)

grid-places : (columns rows count : ℕ) → ArePlaces (grid columns rows count)
unfolding grid
grid-places columns rows count = three-places (number (columns - 1)) (number (rows - 1)) (number count) (number-places (columns - 1)) (number-places (rows - 1)) (number-places count)

before-places : (p : Parameters) → ArePlaces (before_tables p)
unfolding before_tables
before-places p = three-places (coding p.coder_type p.transition) (planes p.bits_per_sample p.chroma) (grid p.columns p.rows (length p.sets)) (coding-places p.coder_type p.transition) (planes-places p.bits_per_sample p.chroma) (grid-places p.columns p.rows (length p.sets))

flags-places : (n : ℕ) → ArePlaces (flags n)
unfolding flags
flags-places zero = tt
flags-places (suc n) = ArePlaces-append (flag false) (flags n) (flag-places false) (flags-places n)

ending-places : (count : ℕ) (ec : Bool) (intra : ℕ) → ArePlaces (ending count ec intra)
unfolding ending
ending-places count ec intra = three-places (flags count) (number (cond ec 1 0)) (number intra) (flags-places count) (number-places (cond ec 1 0)) (number-places intra)

runs-places : (lengths : List ℕ) → ArePlaces (runs lengths)
unfolding runs
runs-places [] = tt
runs-places (run ∷ lengths) = ArePlaces-append (number (run - 1)) (runs lengths) (number-places (run - 1)) (runs-places lengths)

-- ---- the states at these places
kept-pos : (table : List ℕ) (state : ℕ) → IsTransition table → IsKept table state → 0 < state
kept-pos table zero sound kept = absurd (omega (arith, kept.0, sound.none_for_zero))
kept-pos table (suc n) sound kept = omega arith

kept-lt : (table : List ℕ) (state : ℕ) → IsTransition table → IsKept table state → state < 256
kept-lt table state sound kept =
    elim (cases_lt state 256) [
      | inl less ↦ less
      | inr more ↦
          let past : slice_index table state ≡ 0 = get_or_past table state 0 (omega (arith, sound.entries)) in
          absurd (omega (arith, past, kept.0))
    ]

-- a set's entry after a write is the one written or the one before
set-cases : (P : ℕ → Type 0) (xs : List ℕ) (place value k : ℕ) → P (get_or xs k 0) → P value → P (get_or (set xs place value) k 0)
set-cases P [] place value k here written = here
set-cases P (x ∷ xs) zero value zero here written = written
set-cases P (x ∷ xs) zero value (suc k) here written = here
set-cases P (x ∷ xs) (suc place) value zero here written = here
set-cases P (x ∷ xs) (suc place) value (suc k) here written = set-cases P xs place value k here written

moved-kept : (table states : List ℕ) (place : ℕ) (bit : Bool) → IsTransition table → AllKept table states → place < 32 → AllKept table (moved table states place bit)
moved-kept table states place bit sound kept within k small =
    set-cases (IsKept table) states place (next_state table (get_or states place 0) bit) k (kept k small) (sound.keeps_next (get_or states place 0) bit (kept place within))

pub with_states-states : (table states : List ℕ) (bits : List (ℕ × Bool)) → IsTransition table → AllKept table states → ArePlaces bits → AreStates (with_states table states bits)
with_states-states table states [] sound kept places = tt
with_states-states table states (bit ∷ bits) sound kept places = (
  (kept-pos table (get_or states bit.0 0) sound (kept bit.0 places.0), kept-lt table (get_or states bit.0 0) sound (kept bit.0 places.0)),
  with_states-states table (moved table states bit.0 bit.1) bits sound (moved-kept table states bit.0 bit.1 sound kept places.0) places.1,
)

pub set_after-kept : (table states : List ℕ) (bits : List (ℕ × Bool)) → IsTransition table → AllKept table states → ArePlaces bits → AllKept table (set_after table states bits)
set_after-kept table states [] sound kept places = kept
set_after-kept table states (bit ∷ bits) sound kept places = set_after-kept table (moved table states bit.0 bit.1) bits sound (moved-kept table states bit.0 bit.1 sound kept places.0) places.1

pub AreStates-append : (a b : List (ℕ × Bool)) → AreStates a → AreStates b → AreStates (a ++ b)
AreStates-append [] b first second = second
AreStates-append (x ∷ a) b first second = (first.0, AreStates-append a b first.1 second)

pub fresh-kept : (table : List ℕ) → IsTransition table → AllKept table fresh
fresh-kept table sound k small =
    let e : slice_index (replicate 32 128) k ≡ 128 = get_or-replicate 32 k 128 0 small in
    subst (λ (state : ℕ). IsKept table state) (sym e) sound.keeps_first

tables-states : (default : IsTransition DEFAULT_TRANSITION) (tables : List (List ℕ)) → AreStates (coded_tables tables)
unfolding coded_tables
tables-states default [] = tt
tables-states default (table ∷ more) = AreStates-append (with_states DEFAULT_TRANSITION fresh (runs table)) (coded_tables more) (with_states-states DEFAULT_TRANSITION fresh (runs table) default (fresh-kept DEFAULT_TRANSITION default) (runs-places table)) (tables-states default more)

sets-states : (default : IsTransition DEFAULT_TRANSITION) (sets : List (List (List ℕ))) → AreStates (coded_sets sets)
unfolding coded_sets
sets-states default [] = tt
sets-states default (tables ∷ more) = AreStates-append (coded_tables tables) (coded_sets more) (tables-states default tables) (sets-states default more)

pub coded-states : (default : IsTransition DEFAULT_TRANSITION) (p : Parameters) → AreStates (coded p)
unfolding coded
coded-states default p =
    let kept : AllKept DEFAULT_TRANSITION fresh = fresh-kept DEFAULT_TRANSITION default in
    AreStates-append (with_states DEFAULT_TRANSITION fresh (before_tables p)) (coded_sets (runs_of p) ++ with_states DEFAULT_TRANSITION (set_after DEFAULT_TRANSITION fresh (before_tables p)) (after_tables p))
    (with_states-states DEFAULT_TRANSITION fresh (before_tables p) default kept (before-places p))
    (AreStates-append (coded_sets (runs_of p)) (with_states DEFAULT_TRANSITION (set_after DEFAULT_TRANSITION fresh (before_tables p)) (after_tables p)) (sets-states default (runs_of p))
    (with_states-states DEFAULT_TRANSITION (set_after DEFAULT_TRANSITION fresh (before_tables p)) (after_tables p) default (set_after-kept DEFAULT_TRANSITION fresh (before_tables p) default kept (before-places p)) (ending-places (length p.sets) p.ec p.intra)))
