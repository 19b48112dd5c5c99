-- Which cells of the grid of slices are covered. RFC 9043 section 4.6.
use Rattle.std.specs.Prelude.{◌≡◌, ◌≢◌, ℕ, ◌+◌, ◌*◌, ◌<◌, ◌/◌, ◌%◌, Bool, ◌&&◌, nat_le, nat_lt, List, count_by}
use Rattle.ffv1_slice.specs.declared.header.Header.{Header}

-- whether a slice has the cell of a column and a row
abbrev pub has_cell : ℕ → ℕ → Header → Bool
has_cell column row h = nat_le h.x column && nat_lt column (h.x + h.columns) && (nat_le h.y row && nat_lt row (h.y + h.rows))

-- how many slices have a cell, counted row by row
abbrev pub cover_count : ℕ → List Header → ℕ → ℕ
cover_count columns headers cell = count_by (has_cell (cell % columns) (cell / columns)) headers

-- Of the first cells each is covered by exactly one slice.
abbrev pub AreCovered : ℕ → List Header → ℕ → Type 0
AreCovered columns headers cells = (cell : ℕ) → cell < cells → cover_count columns headers cell ≡ 1

-- It is the first cell that isn't.
pub record IsUncovered (columns rows : ℕ) (headers : List Header) (cell : ℕ) : Type 0 where
  pub within : cell < columns * rows
  pub before : AreCovered columns headers cell
  pub wrong : cover_count columns headers cell ≢ 1
