-- Symbols: numbers as coded bits. RFC 9043 section 3.8.1.2. A set has 32 states, and a symbol's bits have places in it.
use Rattle.std.specs.Prelude.{◌≡◌, ℕ, zero, suc, ◌+◌, ◌-◌, ◌*◌, min, ℤ, pos, negsuc, neg_ℤ, nat_abs, Bool, true, false, if◌then◌else◌, ◌==◌, List, [], ◌∷◌, ◌++◌, slice_index, Option, Some, None}
use Rattle.std.specs.Int.{bit_at, leading_zeros, w32}
use Rattle.ffv1_range.specs.Transition.{moved}
use Rattle.ffv1_range.specs.Reading.{Reading, bit_of, after_bit}

abbrev pub is_negative : ℤ → Bool
is_negative (pos n) = false
is_negative (negsuc n) = true

-- the place of the highest 1 of a number from 1 to 2 ^ 32 - 1
abbrev pub exponent_of : ℕ → ℕ
exponent_of magnitude = 31 - leading_zeros w32 magnitude

-- n bits 1 of an exponent, from its bit i on
unfoldable pub ones : ℕ → ℕ → List (ℕ × Bool)
ones i zero = []
ones i (suc n) = (1 + min i 9, true) ∷ ones (i + 1) n

-- the lowest n bits of a magnitude, the highest of them first
unfoldable pub low_bits : ℕ → ℕ → List (ℕ × Bool)
low_bits zero magnitude = []
low_bits (suc i) magnitude = (22 + min i 9, bit_at magnitude i == 1) ∷ low_bits i magnitude

-- a magnitude above 0: its exponent as so many ones and a zero, and then the bits below its highest 1
unfoldable pub magnitude_bits : ℕ → List (ℕ × Bool)
magnitude_bits magnitude =
    let exponent = exponent_of magnitude in
    ones 0 exponent ++ (1 + min exponent 9, false) ∷ low_bits exponent magnitude

-- the sign of a signed value of this exponent
abbrev pub sign_bits : Bool → ℕ → Bool → List (ℕ × Bool)
sign_bits signed exponent negative = if signed then (11 + min exponent 10, negative) ∷ [] else []

-- The spelling of a value: the places and bits of its symbol. It tells whether the value is 0, else its magnitude, and of a
-- signed value the sign.
unfoldable pub spelling : ℤ → Bool → List (ℕ × Bool)
spelling value signed =
    if nat_abs value == 0
    then (0, true) ∷ []
    else (0, false) ∷ magnitude_bits (nat_abs value) ++ sign_bits signed (exponent_of (nat_abs value)) (is_negative value)

-- how each symbol begins whose exponent is over 31
unfoldable pub too_long : List (ℕ × Bool)
too_long = (0, false) ∷ ones 0 32

-- a reader, and the set whose states it reads with
pub record Source : Type 0 where
  pub reading : Reading
  pub set : List ℕ

abbrev pub source : Reading → List ℕ → Source
source reading set = record { reading = reading; set = set }

unfoldable pub bit_at_place : Source → ℕ → Bool
bit_at_place s place = bit_of s.reading (slice_index s.set place)

unfoldable pub after_place : Source → ℕ → Source
after_place s place = record {
  reading = after_bit s.reading (slice_index s.set place);
  set = moved s.reading.table s.set place (bit_at_place s place);
}

-- The bits that are read at these places are these, and leave `new`.
abbrev pub Reads : Source → List (ℕ × Bool) → Source → Type 0
Reads old [] new = old ≡ new
Reads old (bit ∷ bits) new = (bit_at_place old bit.0 ≡ bit.1) × Reads (after_place old bit.0) bits new

-- the bits of places with the states that a set has there, as a writer codes them, and the set after them
abbrev pub with_states : List ℕ → List ℕ → List (ℕ × Bool) → List (ℕ × Bool)
with_states table set [] = []
with_states table set (bit ∷ bits) = (slice_index set bit.0, bit.1) ∷ with_states table (moved table set bit.0 bit.1) bits

abbrev pub set_after : List ℕ → List ℕ → List (ℕ × Bool) → List ℕ
set_after table set [] = set
set_after table set (bit ∷ bits) = set_after table (moved table set bit.0 bit.1) bits

-- What is read as a symbol, as a computation: a value, or none where it is too long, and what is left.
-- So many ones stand before the first zero of an exponent from its bit i on, of at most `left`.
unfoldable pub exponent_at : ℕ → ℕ → Source → Option ℕ × Source
exponent_at zero i s = (None, s)
exponent_at (suc left) i s =
    if bit_at_place s (1 + min i 9)
    then exponent_at left (i + 1) (after_place s (1 + min i 9))
    else (Some i, after_place s (1 + min i 9))

-- n more bits below the number a
unfoldable pub magnitude_at : ℕ → ℕ → Source → ℕ × Source
magnitude_at zero a s = (a, s)
magnitude_at (suc i) a s = magnitude_at i (2 * a + (if bit_at_place s (22 + min i 9) then 1 else 0)) (after_place s (22 + min i 9))

abbrev pub signed_at : Bool → ℕ → ℕ × Source → Option ℤ × Source
signed_at false exponent read = (Some (pos read.0), read.1)
signed_at true exponent read = (
  Some (if bit_at_place read.1 (11 + min exponent 10) then neg_ℤ (pos read.0) else pos read.0),
  after_place read.1 (11 + min exponent 10),
)

abbrev pub value_at : Bool → Option ℕ × Source → Option ℤ × Source
value_at signed (None, s) = (None, s)
value_at signed (Some exponent, s) = signed_at signed exponent (magnitude_at exponent 1 s)

unfoldable pub symbol_at : Source → Bool → Option ℤ × Source
symbol_at s signed =
    if bit_at_place s 0
    then (Some (pos 0), after_place s 0)
    else value_at signed (exponent_at 32 0 (after_place s 0))
