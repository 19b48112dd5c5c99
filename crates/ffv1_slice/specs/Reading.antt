-- The differences of a slice, read by the range coder. RFC 9043 sections 3.8.1.2 and 4.7.
use Rattle.std.specs.Prelude.{◌≡◌, ◌⊎◌, ℕ, ◌<◌, List, [], ◌∷◌, length, slice_index_or, slice_set, ℤ, nat_abs, true, Option, Some, None}
use Rattle.ffv1_range.specs.Reading.{Reading}
use Rattle.ffv1_range.specs.Symbol.{Source, source, symbol_at}
use Rattle.ffv1_predict.specs.declared.near.Near.{Near}
use Rattle.ffv1_predict.specs.Near.{context, IsRestored}
use Rattle.ffv1_predict.specs.Border.{Rows, near}
use Rattle.ffv1_slice.specs.Order.{InRow}

-- a reader, and a set of 32 states for each context
pub record Coding : Type 0 where
  pub reading : Reading
  pub contexts : List (List ℕ)

abbrev pub coding : Reading → List (List ℕ) → Coding
coding reading contexts = record { reading = reading; contexts = contexts }

-- the set of a context, which counts by its magnitude
abbrev pub set_of : List (List ℕ) → ℤ → List ℕ
set_of contexts context = slice_index_or contexts (nat_abs context) []

-- what a symbol that was read with the set of a context leaves
abbrev pub after_symbol : Coding → ℤ → Option ℤ × Source → Option ℤ × Coding
after_symbol c context (value, s) = (value, coding s.reading (slice_set c.contexts (nat_abs context) s.set))

-- what is read as a difference in a context, none where its symbol is too long, and what is left
abbrev pub difference_at : Coding → ℤ → Option ℤ × Coding
difference_at c context = after_symbol c context (symbol_at (source c.reading (set_of c.contexts context)) true)

-- A sample is read: its difference, in the context of its neighbours.
abbrev pub ReadsSample : List (List ℤ) → Near → ℕ → Coding → Coding → Type 0
ReadsSample tables n sample old new =
    (difference : ℤ) × (difference_at old (context tables n) ≡ (Some difference, new)) × IsRestored (context tables n) n difference sample

-- The samples of a row before some column are read, and the symbol of the next one is too long.
pub record TooLongInRow (tables : List (List ℤ)) (r : Rows) (old : Coding) : Type 0 where
  pub column : ℕ
  pub within : column < length r.row
  pub mid : Coding
  pub new : Coding
  pub before : InRow (ReadsSample tables) r column old mid
  pub too_long : difference_at mid (context tables (near r column)) ≡ (None, new)

-- In one of the rows a symbol is too long, and those before it are read.
abbrev pub TooLongInRows : List (List ℤ) → List Rows → Coding → Type 0
TooLongInRows tables [] old = ⊥
TooLongInRows tables (r ∷ more) old =
    TooLongInRow tables r old ⊎ ((mid : Coding) × InRow (ReadsSample tables) r (length r.row) old mid × TooLongInRows tables more mid)

-- Each context has a set.
abbrev pub ContextsFit : List (List ℤ) → ℕ → Type 0
ContextsFit tables count = (n : Near) → nat_abs (context tables n) < count
