-- The neighbours of a sample, looked up in its row and the two rows above it. RFC 9043 sections 3.1 and 3.2.
use Rattle.std.specs.Prelude.{ℕ, zero, suc, ◌+◌, ◌-◌, min, List, [], ◌∷◌, length, slice_index, replicate}
use Rattle.ffv1_predict.specs.declared.near.Near.{Near}
use Rattle.ffv1_predict.specs.declared.left.Left.{Left}

-- a row and the two rows above it
pub record Rows : Type 0 where
  pub above2 : List ℕ
  pub above : List ℕ
  pub row : List ℕ

abbrev pub rows : List ℕ → List ℕ → List ℕ → Rows
rows above2 above row = record { above2 = above2; above = above; row = row }

-- the rows of a plane below two others
abbrev pub rows_below : List ℕ → List ℕ → List (List ℕ) → List Rows
rows_below above2 above [] = []
rows_below above2 above (row ∷ more) = rows above2 above row ∷ rows_below above row more

-- The samples above a slice's plane are 0.
abbrev pub rows_of_plane : ℕ → List (List ℕ) → List Rows
rows_of_plane width plane = rows_below (replicate width 0) (replicate width 0) plane

-- Left of a row stands the first sample of the row above it.
abbrev pub left : List ℕ → List ℕ → ℕ → ℕ
left above row zero = slice_index above 0
left above row (suc x) = slice_index row x

-- and left of that 0
abbrev pub left2 : List ℕ → List ℕ → ℕ → ℕ
left2 above row zero = 0
left2 above row (suc x) = left above row x

-- right of a row stands its last sample once more
abbrev pub right : List ℕ → ℕ → ℕ
right row x = slice_index row (min (x + 1) (length row - 1))

-- what goes along a row: the two neighbours in it, and the one above them
abbrev pub left_at : Rows → ℕ → Left
left_at r x = record { ll = left2 r.above r.row x; l = left r.above r.row x; tl = left r.above2 r.above x }

-- the six neighbours of the sample at a column
abbrev pub near : Rows → ℕ → Near
near r x = record {
  tt = slice_index r.above2 x;
  tl = left r.above2 r.above x;
  t = slice_index r.above x;
  tr = right r.above x;
  ll = left2 r.above r.row x;
  l = left r.above r.row x;
}
