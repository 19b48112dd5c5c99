-- The differences of a slice, read in Golomb-Rice mode. RFC 9043 sections 3.8.2 and 4.8.
use Rattle.std.specs.Prelude.{◌≡◌, ℕ, ◌-◌, ◌<◌, List, length, ℤ, nat_abs, Some, None}
use Rattle.ffv1_rice.specs.Runs.{Coding, line_run, sample_at}
use Rattle.ffv1_predict.specs.declared.near.Near.{Near}
use Rattle.ffv1_predict.specs.Near.{context, IsRestored}
use Rattle.ffv1_predict.specs.Border.{Rows, near}
use Rattle.ffv1_slice.specs.Order.{InRow}

-- how many samples are left in a line, and its run, the states of the contexts and the bits that are left
pub record Line : Type 0 where
  pub left : ℕ
  pub coding : Coding

abbrev pub line : ℕ → Coding → Line
line left coding = record { left = left; coding = coding }

-- the start of a line of so many samples: of the run only its index goes on
abbrev pub line_begun : ℕ → Coding → Line
line_begun width c = line width (record c { run = line_run c.run.index })

-- A sample is read: its difference lies in a run, or is read by the state of the context of its neighbours, which counts by its
-- magnitude.
pub record ReadsSample (tables : List (List ℤ)) (n : Near) (sample : ℕ) (old new : Line) : Type 0 where
  pub difference : ℤ
  pub read : sample_at old.left (nat_abs (context tables n)) old.coding ≡ Some (difference, new.coding)
  pub one_less : new.left ≡ old.left - 1
  pub restored : IsRestored (context tables n) n difference sample

-- A row is read.
pub record ReadsRow (tables : List (List ℤ)) (r : Rows) (old new : Coding) : Type 0 where
  pub end : Line
  pub read : InRow (ReadsSample tables) r (length r.row) (line_begun (length r.row) old) end
  pub left : end.coding ≡ new

-- The samples of a row before some column are read, and the residual of the next one is out of range.
pub record OutOfRangeInRow (tables : List (List ℤ)) (r : Rows) (old : Coding) : Type 0 where
  pub column : ℕ
  pub within : column < length r.row
  pub mid : Line
  pub before : InRow (ReadsSample tables) r column (line_begun (length r.row) old) mid
  pub out_of_range : sample_at mid.left (nat_abs (context tables (near r column))) mid.coding ≡ None
