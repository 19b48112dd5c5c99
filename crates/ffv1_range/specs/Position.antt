-- What the fields of a reader stand for.
use Rattle.std.specs.Prelude.{◌≡◌, ℕ, ◌≤◌, List, drop, length}
use Rattle.ffv1_range.specs.declared.reader.Position.{Position}
use Rattle.ffv1_range.specs.Reading.{Reading}
use Rattle.ffv1_range.specs.Symbol.{Source}

-- a reader with this table and these bytes
abbrev pub reading_at : List ℕ → List ℕ → Position → Reading
reading_at table bytes at = record { table = table; range = at.range; low = at.low; taken = at.taken; rest = drop at.taken bytes }

abbrev pub source_at : List ℕ → List ℕ → Position → List ℕ → Source
source_at table bytes at set = record { reading = reading_at table bytes at; set = set }

-- A range has 9 to 16 bits, and low is within it or, where no bytes are left, at its end.
pub record IsSound (bytes : List ℕ) (at : Position) : Type 0 where
  pub wide : 256 ≤ at.range
  pub narrow : at.range ≤ 0xFF00
  pub within : at.low ≤ at.range
  pub ended : at.low ≡ at.range → length bytes ≤ at.taken
