-- An area that is being filled, row by row: what is true of the rows that are left is true of all.
use Rattle.std.proofs.Common.{◌≡◌, ℕ, zero, suc, ◌+◌, ◌<◌, List, [], ◌∷◌, ◌++◌, length, replicate, refl, ◌∙◌, ap, subst, arith, append_assoc, length-append, inr, ℤ}
use Rattle.std.specs.Prelude.{slice_index_or}
use Rattle.std.proofs.lemmas.List.{append-nil}
use Rattle.pic_planes.specs.Picture.{Image, IsRow}
use Rattle.ffv1_predict.specs.Border.{rows, rows_below}
use Rattle.ffv1_slice.specs.declared.area.Area.{Area}
use Rattle.ffv1_slice.specs.Area.{with_rows, with_first, below}
use Rattle.ffv1_slice.specs.Order.{InRow, InRows}
use Rattle.ffv1_slice.specs.Reading.{Coding, ReadsSample, TooLongInRows}

-- where the rows of an area begin after some of them
abbrev pub after_rows : Area → ℕ → Area
after_rows area y = record area { y = area.y + y }

-- Some rows of an area stand in the picture, and their differences were read.
pub record AreDone (tables : List (List ℤ)) (area : Area) (done : List (List ℕ)) (above2 above : List ℕ) (start now : Coding) : Type 0 where
  pub each : (y : ℕ) → y < length done → IsRow area.width (slice_index_or done y [])
  pub read : (more : List (List ℕ)) (end : Coding) → InRows (ReadsSample tables) (rows_below above2 above more) now end
      → InRows (ReadsSample tables) (rows_below (replicate area.width 0) (replicate area.width 0) (done ++ more)) start end
  pub late : (more : List (List ℕ)) → TooLongInRows tables (rows_below above2 above more) now
      → TooLongInRows tables (rows_below (replicate area.width 0) (replicate area.width 0) (done ++ more)) start

pub none_done : (tables : List (List ℤ)) (area : Area) (start : Coding)
    → AreDone tables area [] (replicate area.width 0) (replicate area.width 0) start start
none_done tables area start = record { each = λ y lt. absurd (omega arith); read = λ more end reads. reads; late = λ more late. late }

pub each_more : (width : ℕ) (done : List (List ℕ)) (row : List ℕ)
    → ((y : ℕ) → y < length done → IsRow width (slice_index_or done y []))
    → IsRow width row
    → (y : ℕ) → y < length (done ++ row ∷ []) → IsRow width (slice_index_or (done ++ row ∷ []) y [])
each_more width [] row each is zero lt = is
each_more width [] row each is (suc y) lt = absurd (omega arith)
each_more width (first ∷ done) row each is zero lt = each 0 (omega arith)
each_more width (first ∷ done) row each is (suc y) lt = each_more width done row (λ k lt. each (suc k) (omega arith)) is y (omega arith)

pub one_done : (tables : List (List ℤ)) (area : Area) (done : List (List ℕ)) (above2 above row : List ℕ) (start now next : Coding)
    → AreDone tables area done above2 above start now
    → IsRow area.width row
    → InRow (ReadsSample tables) (rows above2 above row) (length row) now next
    → AreDone tables area (done ++ row ∷ []) above row start next
one_done tables area done above2 above row start now next before is reads = record {
  each = each_more area.width done row before.each is;
  read = λ more end rest. rw (append_assoc) (before.read (row ∷ more) end (next, reads, rest));
  late = λ more rest. rw (append_assoc) (before.late (row ∷ more) (inr (next, reads, rest)));
}

-- the picture after one more row
pub put_more : (image old : Image) (area : Area) (done : List (List ℕ)) (row : List ℕ)
    → ((more : List (List ℕ)) → with_rows image (after_rows area (length done)) more ≡ with_rows old area (done ++ more))
    → (more : List (List ℕ))
    → with_rows (with_first image (after_rows area (length done)) row) (after_rows area (length (done ++ row ∷ []))) more ≡ with_rows old area ((done ++ row ∷ []) ++ more)
put_more image old area done row put more =
    let next : length (done ++ row ∷ []) ≡ length done + 1 = simp length-append in
    let moved : after_rows area (length (done ++ row ∷ [])) ≡ below (after_rows area (length done)) = ap (λ y. record area { y = y }) (omega (arith, next)) in
    rw (moved, append_assoc) (put (row ∷ more))

pub all_done : (tables : List (List ℤ)) (area : Area) (done : List (List ℕ)) (above2 above : List ℕ) (start now : Coding)
    → AreDone tables area done above2 above start now
    → InRows (ReadsSample tables) (rows_below (replicate area.width 0) (replicate area.width 0) done) start now
all_done tables area done above2 above start now all =
    let P : List (List ℕ) → Type 0 = λ d. InRows (ReadsSample tables) (rows_below (replicate area.width 0) (replicate area.width 0) d) start now in
    subst P (append-nil done) (all.read [] now refl)

pub all_put : (image old : Image) (area : Area) (done : List (List ℕ))
    → ((more : List (List ℕ)) → with_rows image (after_rows area (length done)) more ≡ with_rows old area (done ++ more))
    → image ≡ with_rows old area done
all_put image old area done put = put [] ∙ ap (with_rows old area) (append-nil done)
