-- Coded bits, written. The bits narrow one whole number of any size, low, which never falls. RFC 9043 section 3.8.1.1.
use Rattle.std.specs.Prelude.{ℕ, ◌+◌, ◌-◌, ◌*◌, ◌/◌, ◌<◌, Bool, false, if◌then◌else◌, nat_lt, List, [], ◌∷◌}
use Rattle.std.specs.Int.{bytes_high_first}
use Rattle.std.specs.List.{AllByRecursion}
use Rattle.ffv1_range.specs.Reading.{one_part, zero_part}

-- What was written. `count` is the number of bytes that reading takes up to and with the last bit.
pub record Writing : Type 0 where
  pub table : List ℕ
  pub range : ℕ
  pub low : ℕ
  pub count : ℕ

unfoldable pub started : List ℕ → Writing
started table = record { table = table; range = 0xFF00; low = 0; count = 2 }

-- the part of the range for a bit in a state: t for a bit 0, and r above it for a bit 1
unfoldable pub chosen : Writing → ℕ → Bool → Writing
chosen w state bit =
    if bit
    then record w { low = w.low + zero_part w.range state; range = one_part w.range state }
    else record w { range = zero_part w.range state }

-- one more byte where the range has fallen below 256
unfoldable pub shifted : Writing → Writing
shifted w =
    if nat_lt w.range 256
    then record w { range = 256 * w.range; low = 256 * w.low; count = w.count + 1 }
    else w

-- one more bit, coded in a state
unfoldable pub put : Writing → ℕ → Bool → Writing
put w state bit = shifted (chosen w state bit)

-- a list of bits, each with its state
abbrev pub put_all : Writing → List (ℕ × Bool) → Writing
put_all w [] = w
put_all w (coded ∷ more) = put_all (put w coded.0 coded.1) more

-- The bytes of what was written: low without its last byte, rounded up, the highest byte first. RFC 9043 section 3.8.1.1.1.
unfoldable pub part : Writing → List ℕ
part w = bytes_high_first (w.count - 1) ((w.low + 255) / 256)

-- the sentinel, a bit 0 with state 129, with which a slice's range-coded part ends. RFC 9043 section 3.8.1.1.1.
unfoldable pub with_sentinel : Writing → Writing
with_sentinel w = put w 129 false

-- the states are 1 to 255
abbrev pub AreStates : List (ℕ × Bool) → Type 0
AreStates coded = AllByRecursion (λ c. (0 < c.0) × (c.0 < 256)) coded
