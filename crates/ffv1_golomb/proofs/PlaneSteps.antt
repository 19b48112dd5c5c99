-- An area that is being filled, row by row: what is true of the rows that are left is true of all.
use Rattle.std.proofs.Common.{ℕ, ◌<◌, List, [], ◌∷◌, ◌++◌, length, replicate, refl, subst, arith, append_assoc, inr, ℤ}
use Rattle.std.specs.Prelude.{slice_index_or}
use Rattle.std.proofs.lemmas.List.{append-nil}
use Rattle.pic_planes.specs.Picture.{IsRow}
use Rattle.ffv1_rice.specs.Runs.{Coding}
use Rattle.ffv1_predict.specs.Border.{rows, rows_below}
use Rattle.ffv1_slice.proofs.Planes.{each_more}
use Rattle.ffv1_golomb.specs.Turn.{InTurn, FailsInTurn}
use Rattle.ffv1_golomb.specs.Reading.{ReadsRow, OutOfRangeInRow}

-- Some rows of an area stand in the picture, and their differences were read.
pub record AreDone (tables : List (List ℤ)) (width : ℕ) (done : List (List ℕ)) (above2 above : List ℕ) (start now : Coding) : Type 0 where
  pub each : (y : ℕ) → y < length done → IsRow width (slice_index_or done y [])
  pub read : (more : List (List ℕ)) (end : Coding) → InTurn (ReadsRow tables) (rows_below above2 above more) now end
      → InTurn (ReadsRow tables) (rows_below (replicate width 0) (replicate width 0) (done ++ more)) start end
  pub late : (more : List (List ℕ)) → FailsInTurn (ReadsRow tables) (OutOfRangeInRow tables) (rows_below above2 above more) now
      → FailsInTurn (ReadsRow tables) (OutOfRangeInRow tables) (rows_below (replicate width 0) (replicate width 0) (done ++ more)) start

pub none_done : (tables : List (List ℤ)) (width : ℕ) (start : Coding) → AreDone tables width [] (replicate width 0) (replicate width 0) start start
none_done tables width start = record { each = λ y lt. absurd (omega arith); read = λ more end reads. reads; late = λ more late. late }

pub one_done : (tables : List (List ℤ)) (width : ℕ) (done : List (List ℕ)) (above2 above row : List ℕ) (start now next : Coding)
    → AreDone tables width done above2 above start now → IsRow width row → ReadsRow tables (rows above2 above row) now next
    → AreDone tables width (done ++ row ∷ []) above row start next
one_done tables width done above2 above row start now next before is reads = record {
  each = each_more width done row before.each is;
  read = λ more end rest. rw (append_assoc) (before.read (row ∷ more) end (next, reads, rest));
  late = λ more rest. rw (append_assoc) (before.late (row ∷ more) (inr (next, reads, rest)));
}

pub all_done : (tables : List (List ℤ)) (width : ℕ) (done : List (List ℕ)) (above2 above : List ℕ) (start now : Coding)
    → AreDone tables width done above2 above start now
    → InTurn (ReadsRow tables) (rows_below (replicate width 0) (replicate width 0) done) start now
all_done tables width done above2 above start now all =
    let P : List (List ℕ) → Type 0 = λ d. InTurn (ReadsRow tables) (rows_below (replicate width 0) (replicate width 0) d) start now in
    subst P (append-nil done) (all.read [] now refl)
