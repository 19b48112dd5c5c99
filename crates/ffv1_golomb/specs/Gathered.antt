-- What a writer gathers of a line.
use Rattle.std.specs.Prelude.{◌≡◌, ℕ, ◌<◌, ◌≤◌, List, slice_index, slice_index_or, vec_len, ℤ, pos, nat_abs}
use Rattle.ffv1_predict.specs.Near.{context, coded}
use Rattle.ffv1_predict.specs.Border.{Rows, near}
use Rattle.ffv1_golomb.specs.declared.scratch.Gathered.{Gathered}

-- There is room for lines of a width.
abbrev pub HasRoom : ℕ → Gathered → Type 0
HasRoom width g = (width ≤ vec_len g.contexts) × (width ≤ vec_len g.differences)

-- The room stays.
abbrev pub SameRoom : Gathered → Gathered → Type 0
SameRoom old new = (vec_len new.contexts ≡ vec_len old.contexts) × (vec_len new.differences ≡ vec_len old.differences)

-- The contexts of a row's samples before a column, by magnitude, and their differences.
pub record IsGathered (tables : List (List ℤ)) (r : Rows) (x : ℕ) (contexts : List ℕ) (differences : List ℤ) : Type 0 where
  pub contexts_are : (k : ℕ) → k < x → slice_index contexts k ≡ nat_abs (context tables (near r k))
  pub differences_are : (k : ℕ) → k < x
      → slice_index_or differences k (pos 0) ≡ coded (context tables (near r k)) (near r k) (slice_index r.row k)
