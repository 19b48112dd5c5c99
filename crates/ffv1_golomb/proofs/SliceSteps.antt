-- The parts of a slice, by whether there are chroma planes.
use Rattle.std.proofs.Common.{◌≡◌, ℕ, List, [], ◌∷◌, refl, sym, subst, inl, inr, ℤ, Option, Some, None, replicate}
use Rattle.ffv1_rice.specs.State.{fresh}
use Rattle.ffv1_slice.specs.declared.area.Area.{Area}
use Rattle.ffv1_slice.specs.Slice.{Part, part}
use Rattle.ffv1_slice.proofs.Parts.{with_chroma}
use Rattle.pic_planes.specs.Picture.{Image}
use Rattle.ffv1_golomb.specs.Writing.{WritesPart, WritesSlice}
use Rattle.ffv1_golomb.specs.Slice.{Standing, ReadsPart, OutOfRangeInPart, ReadsSlice, OutOfRangeInSlice}

pub reads_grey : (luma : Part) (tables : List (List ℤ)) (count : ℕ) (o : Option Area) (old mid : Standing)
    → o ≡ None → ReadsPart luma old mid → ReadsSlice (with_chroma luma tables count o) old mid
reads_grey luma tables count o old mid grey reads =
    let P : Option Area → Type 0 = λ v. ReadsSlice (with_chroma luma tables count v) old mid in
    subst P (sym grey) (mid, reads, (mid, (replicate count fresh, refl), refl))

pub reads_both : (luma : Part) (tables : List (List ℤ)) (count : ℕ) (o : Option Area) (cb : Area) (old mid new : Standing)
    → o ≡ Some cb → ReadsPart luma old mid → ReadsPart (part tables count (cb ∷ record cb { plane = 2 } ∷ [])) mid new
    → ReadsSlice (with_chroma luma tables count o) old new
reads_both luma tables count o cb old mid new some reads more =
    let P : Option Area → Type 0 = λ v. ReadsSlice (with_chroma luma tables count v) old new in
    subst P (sym some) (mid, reads, (new, more, refl))

pub late_first : (luma : Part) (tables : List (List ℤ)) (count : ℕ) (o : Option Area) (old : Standing)
    → OutOfRangeInPart luma old → OutOfRangeInSlice (with_chroma luma tables count o) old
late_first luma tables count o old late = inl late

pub late_both : (luma : Part) (tables : List (List ℤ)) (count : ℕ) (o : Option Area) (cb : Area) (old mid : Standing)
    → o ≡ Some cb → ReadsPart luma old mid → OutOfRangeInPart (part tables count (cb ∷ record cb { plane = 2 } ∷ [])) mid
    → OutOfRangeInSlice (with_chroma luma tables count o) old
late_both luma tables count o cb old mid some reads late =
    let P : Option Area → Type 0 = λ v. OutOfRangeInSlice (with_chroma luma tables count v) old in
    subst P (sym some) (inr (mid, reads, inl late))

pub writes_grey : (luma : Part) (image : Image) (tables : List (List ℤ)) (count : ℕ) (o : Option Area) (old mid : List ℕ)
    → o ≡ None → WritesPart image luma old mid → WritesSlice (with_chroma luma tables count o) image old mid
writes_grey luma image tables count o old mid grey writes =
    let P : Option Area → Type 0 = λ v. WritesSlice (with_chroma luma tables count v) image old mid in
    subst P (sym grey) (mid, writes, (mid, (replicate count fresh, refl), refl))

pub writes_both : (luma : Part) (image : Image) (tables : List (List ℤ)) (count : ℕ) (o : Option Area) (cb : Area) (old mid new : List ℕ)
    → o ≡ Some cb → WritesPart image luma old mid → WritesPart image (part tables count (cb ∷ record cb { plane = 2 } ∷ [])) mid new
    → WritesSlice (with_chroma luma tables count o) image old new
writes_both luma image tables count o cb old mid new some writes more =
    let P : Option Area → Type 0 = λ v. WritesSlice (with_chroma luma tables count v) image old new in
    subst P (sym some) (mid, writes, (new, more, refl))
