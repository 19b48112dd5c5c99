-- Areas in turn: what is true of those that are left is true of all.
use Rattle.std.proofs.Common.{ℕ, ◌+◌, ◌<◌, ◌≤◌, List, length, get_or, drop, refl, sym, subst, inl, inr, ℤ}
use Rattle.std.proofs.lemmas.List.{drop_more, drop_all}
use Rattle.std.proofs.lemmas.List.Elements.{All-replicate}
use Rattle.std.specs.Prelude.{All, replicate}
use Rattle.ffv1_range.specs.Transition.{AllKept}
use Rattle.ffv1_slice.specs.declared.area.Area.{Area}
use Rattle.pic_planes.specs.Picture.{Image}
use Rattle.ffv1_predict.specs.Border.{rows_of_plane}
use Rattle.ffv1_slice.specs.Order.{InRows}
use Rattle.ffv1_slice.specs.Writing.{Encoding, WritesSample, WritesAreas, samples}
use Rattle.ffv1_slice.specs.Slice.{Decoding, fresh_contexts, ReadsArea, ReadsAreas, TooLongInArea, TooLongInAreas}

-- From some area on the rest is still to be read.
pub record AreLeft (tables : List (List ℤ)) (areas : List Area) (i : ℕ) (start now : Decoding) : Type 0 where
  pub read : (end : Decoding) → ReadsAreas tables (drop i areas) now end → ReadsAreas tables areas start end
  pub late : TooLongInAreas tables (drop i areas) now → TooLongInAreas tables areas start

pub all_left : (tables : List (List ℤ)) (areas : List Area) (start : Decoding) → AreLeft tables areas 0 start start
all_left tables areas start = record { read = λ end reads. reads; late = λ late. late }

pub one_read : (tables : List (List ℤ)) (areas : List Area) (i : ℕ) (d : Area) (start now next : Decoding)
    → i < length areas → AreLeft tables areas i start now → ReadsArea tables (get_or areas i d) now next → AreLeft tables areas (i + 1) start next
one_read tables areas i d start now next within left reads = record {
  read = λ end rest. left.read end (rw (drop_more areas i d within) (next, reads, rest));
  late = λ late. left.late (rw (drop_more areas i d within) (inr (next, reads, late)));
}

pub late_here : (tables : List (List ℤ)) (areas : List Area) (i : ℕ) (d : Area) (start now : Decoding)
    → i < length areas → AreLeft tables areas i start now → TooLongInArea tables (get_or areas i d) now → TooLongInAreas tables areas start
late_here tables areas i d start now within left late = left.late (rw (drop_more areas i d within) (inl late))

pub all_read : (tables : List (List ℤ)) (areas : List Area) (i : ℕ) (start now : Decoding)
    → length areas ≤ i → AreLeft tables areas i start now → ReadsAreas tables areas start now
all_read tables areas i start now over left =
    let P : List Area → Type 0 = λ rest. ReadsAreas tables rest now now in
    left.read now (subst P (sym (drop_all i areas over)) refl)

pub fresh_kept : (table : List ℕ) (count : ℕ) → AllKept table (replicate 32 128) → All (AllKept table) (fresh_contexts count)
fresh_kept table count kept = All-replicate (AllKept table) count (replicate 32 128) kept

-- From some area on the rest is still to be written.
pub record AreUnwritten (tables : List (List ℤ)) (image : Image) (areas : List Area) (i : ℕ) (start now : Encoding) : Type 0 where
  pub follow : (end : Encoding) → WritesAreas tables image (drop i areas) now end → WritesAreas tables image areas start end

pub all_unwritten : (tables : List (List ℤ)) (image : Image) (areas : List Area) (start : Encoding) → AreUnwritten tables image areas 0 start start
all_unwritten tables image areas start = record { follow = λ end writes. writes }

pub one_written : (tables : List (List ℤ)) (image : Image) (areas : List Area) (i : ℕ) (d : Area) (start now next : Encoding)
    → i < length areas → AreUnwritten tables image areas i start now
    → InRows (WritesSample tables) (rows_of_plane (get_or areas i d).width (samples image (get_or areas i d))) now next
    → AreUnwritten tables image areas (i + 1) start next
one_written tables image areas i d start now next within left writes = record {
  follow = λ end rest. left.follow end (rw (drop_more areas i d within) (next, writes, rest));
}

pub all_written : (tables : List (List ℤ)) (image : Image) (areas : List Area) (i : ℕ) (start now : Encoding)
    → length areas ≤ i → AreUnwritten tables image areas i start now → WritesAreas tables image areas start now
all_written tables image areas i start now over left =
    let P : List Area → Type 0 = λ rest. WritesAreas tables image rest now now in
    left.follow now (subst P (sym (drop_all i areas over)) refl)
