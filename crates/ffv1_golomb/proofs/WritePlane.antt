-- An area that is being written, row by row: what is true of the rows that are left is true of all.
use Rattle.std.proofs.Common.{◌≡◌, ℕ, zero, suc, ◌+◌, ◌<◌, ◌≤◌, List, replicate, refl, sym, subst, arith, ℤ}
use Rattle.pic_planes.specs.Picture.{Image}
use Rattle.ffv1_rice.specs.Lines.{Written}
use Rattle.ffv1_predict.specs.Border.{rows, rows_below}
use Rattle.ffv1_slice.specs.declared.area.Area.{Area}
use Rattle.ffv1_slice.specs.Writing.{samples, samples_from, first_samples}
use Rattle.ffv1_slice.proofs.Written.{at_row}
use Rattle.ffv1_golomb.specs.Turn.{InTurn}
use Rattle.ffv1_golomb.specs.Writing.{WritesRow}

-- the rows of an area, and those that are left of it below two lines
abbrev pub AllWritten : List (List ℤ) → Image → Area → Written → Written → Type 0
AllWritten tables image area start end = InTurn (WritesRow tables) (rows_below (replicate area.width 0) (replicate area.width 0) (samples image area)) start end

-- So many rows are left from a row of the area on, below two lines.
pub record RowsLeft (tables : List (List ℤ)) (image : Image) (area : Area) (start now : Written) (above2 above : List ℕ) (y : ℕ) : Type 0 where
  pub left : ℕ
  pub ends : y + left ≡ area.y + area.height
  pub follow : (end : Written) → InTurn (WritesRow tables) (rows_below above2 above (samples_from image (at_row area y) left)) now end → AllWritten tables image area start end

pub all_left : (tables : List (List ℤ)) (image : Image) (area : Area) (start : Written)
    → RowsLeft tables image area start start (replicate area.width 0) (replicate area.width 0) area.y
all_left tables image area start = record { left = area.height; ends = refl; follow = λ end writes. writes }

row_less : (tables : List (List ℤ)) (image : Image) (area : Area) (start now next : Written) (above2 above : List ℕ) (y left : ℕ)
    → y < area.y + area.height → y + left ≡ area.y + area.height
    → ((end : Written) → InTurn (WritesRow tables) (rows_below above2 above (samples_from image (at_row area y) left)) now end → AllWritten tables image area start end)
    → WritesRow tables (rows above2 above (first_samples image (at_row area y))) now next
    → RowsLeft tables image area start next above (first_samples image (at_row area y)) (y + 1)
row_less tables image area start now next above2 above y zero within ends follow writes = absurd (omega arith)
row_less tables image area start now next above2 above y (suc left) within ends follow writes = record {
  left = left;
  ends = omega arith;
  follow = λ end rest. follow end (next, writes, rest);
}

pub row_written : (tables : List (List ℤ)) (image : Image) (area : Area) (start now next : Written) (above2 above row : List ℕ) (y : ℕ)
    → y < area.y + area.height → RowsLeft tables image area start now above2 above y → row ≡ first_samples image (at_row area y)
    → WritesRow tables (rows above2 above row) now next
    → RowsLeft tables image area start next above row (y + 1)
row_written tables image area start now next above2 above row y within left is writes =
    let Writes : List ℕ → Type 0 = λ r. WritesRow tables (rows above2 above r) now next in
    let Left : List ℕ → Type 0 = λ r. RowsLeft tables image area start next above r (y + 1) in
    subst Left (sym is) (row_less tables image area start now next above2 above y left.left within left.ends left.follow (subst Writes is writes))

none_left : (tables : List (List ℤ)) (image : Image) (area : Area) (start now : Written) (above2 above : List ℕ) (y left : ℕ)
    → area.y + area.height ≤ y → y + left ≡ area.y + area.height
    → ((end : Written) → InTurn (WritesRow tables) (rows_below above2 above (samples_from image (at_row area y) left)) now end → AllWritten tables image area start end)
    → AllWritten tables image area start now
none_left tables image area start now above2 above y zero over ends follow = follow now refl
none_left tables image area start now above2 above y (suc left) over ends follow = absurd (omega arith)

pub all_written : (tables : List (List ℤ)) (image : Image) (area : Area) (start now : Written) (above2 above : List ℕ) (y : ℕ)
    → area.y + area.height ≤ y → RowsLeft tables image area start now above2 above y → AllWritten tables image area start now
all_written tables image area start now above2 above y over left = none_left tables image area start now above2 above y left.left over left.ends left.follow
