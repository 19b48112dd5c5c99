-- What the fields of a writer stand for.
use Rattle.std.specs.Prelude.{ℕ, ◌+◌, ◌*◌, ◌^◌, ◌≤◌, List, take, length}
use Rattle.std.specs.List.{fold}
use Rattle.ffv1_range.specs.declared.cursor.Cursor.{Cursor}
use Rattle.ffv1_range.specs.Writing.{Writing}

-- bytes as one number, the highest first
abbrev pub number_of : List ℕ → ℕ
number_of bytes = fold (λ n b. 256 * n + b) 0 bytes

-- The bytes that were put and the kept low stand together for the one number.
abbrev pub writing_at : List ℕ → List ℕ → Cursor → Writing
writing_at table bytes at =
    record { table = table; range = at.range; low = 65536 * number_of (take at.used bytes) + at.low; count = at.used + 2 }

-- A range has 9 to 16 bits, the kept low has 17 with its carry, and the number and its range don't pass the first range.
pub record IsSound (bytes : List ℕ) (at : Cursor) : Type 0 where
  pub wide : 256 ≤ at.range
  pub narrow : at.range ≤ 0xFF00
  pub kept : at.low + at.range ≤ 2 * 0xFF00
  pub within : 65536 * number_of (take at.used bytes) + at.low + at.range ≤ 0xFF00 * 256 ^ at.used
  pub used : at.used ≤ length bytes
