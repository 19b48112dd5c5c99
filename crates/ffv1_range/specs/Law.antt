-- The law of the range coder: reading what was written gives the bits back.
use Rattle.std.specs.Prelude.{◌≡◌, ℕ, ◌+◌, ◌-◌, ◌<◌, ◌^◌, min, Bool, true, false, ℤ, nat_abs, List, [], ◌∷◌, ◌++◌, length, map, slice_index, Some, None}
use Rattle.ffv1_range.specs.Reading.{Reading, opened, bits_read, after_bits}
use Rattle.ffv1_range.specs.Writing.{Writing, started, put_all, part, with_sentinel, AreStates}
use Rattle.ffv1_range.specs.Symbol.{Source, Reads, source, spelling, too_long, symbol_at, with_states, set_after, is_negative}

abbrev pub states_of : List (ℕ × Bool) → List ℕ
states_of coded = map (λ c. c.0) coded

abbrev pub bits_of : List (ℕ × Bool) → List Bool
bits_of coded = map (λ c. c.1) coded

-- the writing of a list of bits from the start
abbrev pub written : List ℕ → List (ℕ × Bool) → Writing
written table coded = put_all (started table) coded

-- From these bytes the bits are read back, and reading takes `count` bytes up to and with the last.
pub record ReadsBack (table bytes : List ℕ) (coded : List (ℕ × Bool)) (count : ℕ) : Type 0 where
  pub bits : bits_read (opened table bytes) (states_of coded) ≡ bits_of coded
  pub taken : (after_bits (opened table bytes) (states_of coded)).taken ≡ min count (2 ^ 64 - 1)

-- Closed mode: the part's bytes alone are read, and zeros after them. RFC 9043 section 3.8.1.1.1.
abbrev pub ReadsClosedMode : Type 0
ReadsClosedMode = (table : List ℕ) (coded : List (ℕ × Bool)) → AreStates coded
    → ReadsBack table (part (written table coded)) coded (written table coded).count

-- Sentinel mode, whatever bytes follow a part: the bits before the sentinel are read back, and reading up to and with the sentinel
-- takes one byte more than the part has. RFC 9043 section 3.8.1.1.1.
pub record ReadsSentinel (table : List ℕ) (coded : List (ℕ × Bool)) (bytes more : List ℕ) : Type 0 where
  pub before : ReadsBack table (bytes ++ more) coded (written table coded).count
  pub taken : (after_bits (opened table (bytes ++ more)) (states_of coded ++ 129 ∷ [])).taken ≡ min (length bytes + 1) (2 ^ 64 - 1)

abbrev pub ReadsSentinelMode : Type 0
ReadsSentinelMode = (table : List ℕ) (coded : List (ℕ × Bool)) (more : List ℕ) → AreStates coded
    → ((k : ℕ) → slice_index more k < 256)
    → ReadsSentinel table coded (part (with_sentinel (written table coded))) more

-- What is read of the bytes of a writing, in Sentinel mode or in Closed mode.
abbrev pub ReadsInMode : Bool → List ℕ → List (ℕ × Bool) → List ℕ → Type 0
ReadsInMode true table coded bytes = (more : List ℕ) → ((k : ℕ) → slice_index more k < 256) → ReadsSentinel table coded bytes more
ReadsInMode false table coded bytes = ReadsBack table bytes coded (length bytes + 1)

abbrev pub IsReadBack : Bool → Writing → List ℕ → Type 0
IsReadBack sentinel w bytes = (coded : List (ℕ × Bool)) → AreStates coded → w ≡ written w.table coded
    → ReadsInMode sentinel w.table coded bytes

-- what has a spelling: a magnitude below 2 ^ 32, and 0 or more where it is unsigned
abbrev pub IsSpelled : ℤ → Bool → Type 0
IsSpelled value signed = (nat_abs value < 2 ^ 32) × (signed ≡ false → is_negative value ≡ false)

-- A symbol is read as a value exactly where the value's spelling is read, and is too long exactly where 32 bits 1 are.
pub record ReadsSymbols : Type 0 where
  pub value : (old new : Source) (value : ℤ) (signed : Bool) → IsSpelled value signed → Reads old (spelling value signed) new
      → symbol_at old signed ≡ (Some value, new)
  pub spelled : (old new : Source) (value : ℤ) (signed : Bool) → symbol_at old signed ≡ (Some value, new)
      → IsSpelled value signed × Reads old (spelling value signed) new
  pub none : (old new : Source) (signed : Bool) → Reads old too_long new → symbol_at old signed ≡ (None, new)
  pub too_long : (old new : Source) (signed : Bool) → symbol_at old signed ≡ (None, new) → Reads old too_long new

-- Where the bits of places are coded with the states that a set has there, they are read at these places.
abbrev pub CodesInTurn : Type 0
CodesInTurn = (reading : Reading) (set : List ℕ) (bits : List (ℕ × Bool))
    → let coded : List (ℕ × Bool) = with_states reading.table set bits in
    bits_read reading (states_of coded) ≡ bits_of coded
    → Reads (source reading set) bits (source (after_bits reading (states_of coded)) (set_after reading.table set bits))

-- No spelling begins another, nor does one begin as a symbol that is too long.
pub record NoPrefix : Type 0 where
  pub values : (value other : ℤ) (signed : Bool) (more rest : List (ℕ × Bool)) → IsSpelled value signed → IsSpelled other signed
      → spelling value signed ++ more ≡ spelling other signed ++ rest → value ≡ other
  pub too_long : (value : ℤ) (signed : Bool) (more rest : List (ℕ × Bool)) → IsSpelled value signed
      → spelling value signed ++ more ≡ too_long ++ rest → ⊥
