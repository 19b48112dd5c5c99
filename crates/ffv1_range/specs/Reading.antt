-- Coded bits, read. RFC 9043 section 3.8.1.1, in its letters: range R, low L, and for a bit the parts r and t of the range.
use Rattle.std.specs.Prelude.{ℕ, ◌+◌, ◌-◌, ◌*◌, ◌/◌, ◌^◌, min, Bool, if◌then◌else◌, nat_lt, nat_le, List, [], ◌∷◌, drop, slice_index}

-- What a reader stands at. The bytes that are left are followed by zeros. `taken` counts the bytes taken, those after the end
-- too, up to 2 ^ 64 - 1.
pub record Reading : Type 0 where
  pub table : List ℕ
  pub range : ℕ
  pub low : ℕ
  pub taken : ℕ
  pub rest : List ℕ

-- r, the part of a range that a bit 1 gets in a state
abbrev pub one_part : ℕ → ℕ → ℕ
one_part range state = range * state / 256

-- t, the part that a bit 0 gets
abbrev pub zero_part : ℕ → ℕ → ℕ
zero_part range state = range - one_part range state

-- A reader at the start of its bytes. From 0xFF00 on in the first two, all later bytes count as 0.
unfoldable pub opened : List ℕ → List ℕ → Reading
opened table bytes =
    let first = 256 * slice_index bytes 0 + slice_index bytes 1 in
    record { table = table; range = 0xFF00; low = min first 0xFF00; taken = 2; rest = if nat_lt first 0xFF00 then drop 2 bytes else [] }

-- the bit that a state reads
unfoldable pub bit_of : Reading → ℕ → Bool
bit_of p state = nat_le (zero_part p.range state) p.low

-- the part of the range that the bit chose
unfoldable pub narrowed : Reading → ℕ → Reading
narrowed p state =
    if bit_of p state
    then record p { range = one_part p.range state; low = p.low - zero_part p.range state }
    else record p { range = zero_part p.range state }

-- one more byte where the range has fallen below 256
unfoldable pub renewed : Reading → Reading
renewed p =
    if nat_lt p.range 256
    then record p {
      range = 256 * p.range;
      low = 256 * p.low + slice_index p.rest 0;
      taken = min (p.taken + 1) (2 ^ 64 - 1);
      rest = drop 1 p.rest;
    }
    else p

-- the reader after the bit that a state reads
unfoldable pub after_bit : Reading → ℕ → Reading
after_bit p state = renewed (narrowed p state)

-- the bits that states read in turn, and the reader after them
abbrev pub bits_read : Reading → List ℕ → List Bool
bits_read p [] = []
bits_read p (state ∷ states) = bit_of p state ∷ bits_read (after_bit p state) states

abbrev pub after_bits : Reading → List ℕ → Reading
after_bits p [] = p
after_bits p (state ∷ states) = after_bits (after_bit p state) states
