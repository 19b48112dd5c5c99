-- Lists of bits, 0 or 1, which zeros follow without end. RFC 9043 section 3.8.2.
use Rattle.std.specs.Prelude.{ℕ, zero, suc, ◌+◌, ◌-◌, ◌*◌, ◌%◌, ◌^◌, min, List, [], ◌∷◌, ◌++◌, length, drop, replicate}
use Rattle.std.specs.List.{flat_map}
use Rattle.tl_base.specs.Parity.{bits_of}

-- the bits of bytes, each byte's highest first
abbrev pub bits_of_bytes : List ℕ → List ℕ
bits_of_bytes bytes = flat_map (bits_of 8) bytes

-- bits and the zeros that fill their last byte
abbrev pub padded : List ℕ → List ℕ
padded bits = bits ++ replicate ((8 - length bits % 8) % 8) 0

-- the number that the next n bits spell, the highest first
abbrev pub number_at : ℕ → List ℕ → ℕ
number_at zero bits = 0
number_at (suc n) [] = 0
number_at (suc n) (bit ∷ bits) = bit * 2 ^ n + number_at n bits

-- how many zeros stand before the first one, counted up to n
abbrev pub zeros_at : ℕ → List ℕ → ℕ
zeros_at zero bits = 0
zeros_at (suc n) [] = suc n
zeros_at (suc n) (zero ∷ bits) = suc (zeros_at n bits)
zeros_at (suc n) (suc bit ∷ bits) = 0

-- what a reader has left, and how many bits it took
pub record Reading : Type 0 where
  pub bits : List ℕ
  pub taken : ℕ

-- the start of some bytes
abbrev pub opened : List ℕ → Reading
opened bytes = record { bits = bits_of_bytes bytes; taken = 0 }

-- n bits further on. Taken bits are counted up to 2 ^ 63.
unfoldable pub skipped : ℕ → Reading → Reading
skipped n r = record { bits = drop n r.bits; taken = min (r.taken + n) (2 ^ 63) }
