-- The parts of a slice, by whether there are chroma planes.
use Rattle.std.proofs.Common.{◌≡◌, ℕ, List, [], ◌∷◌, refl, sym, subst, inr, ℤ, Option, Some, None}
use Rattle.pic_planes.specs.Shape.{Layout}
use Rattle.pic_planes.specs.Picture.{Image}
use Rattle.ffv1_range.specs.Writing.{Writing}
use Rattle.ffv1_slice.specs.Writing.{WritesPart, WritesSlice}
use Rattle.ffv1_slice.specs.declared.area.Area.{Area}
use Rattle.ffv1_slice.specs.Area.{AreWithin, chroma_areas}
use Rattle.ffv1_slice.specs.Slice.{Part, part, Slice, Standing, ReadsPart, TooLongInPart, ReadsSlice, TooLongInSlice, fresh_contexts}

abbrev pub with_chroma : Part → List (List ℤ) → ℕ → Option Area → Slice
with_chroma luma tables count o = record { luma = luma; chroma = part tables count (chroma_areas o) }

pub reads_grey : (luma : Part) (tables : List (List ℤ)) (count : ℕ) (o : Option Area) (old mid : Standing)
    → o ≡ None → ReadsPart luma old mid → ReadsSlice (with_chroma luma tables count o) old mid
reads_grey luma tables count o old mid grey reads =
    let P : Option Area → Type 0 = λ v. ReadsSlice (with_chroma luma tables count v) old mid in
    subst P (sym grey) (mid, reads, (fresh_contexts count, refl))

pub reads_both : (luma : Part) (tables : List (List ℤ)) (count : ℕ) (o : Option Area) (cb : Area) (old mid new : Standing)
    → o ≡ Some cb → ReadsPart luma old mid → ReadsPart (part tables count (cb ∷ record cb { plane = 2 } ∷ [])) mid new
    → ReadsSlice (with_chroma luma tables count o) old new
reads_both luma tables count o cb old mid new some reads more =
    let P : Option Area → Type 0 = λ v. ReadsSlice (with_chroma luma tables count v) old new in
    subst P (sym some) (mid, reads, more)

pub late_both : (luma : Part) (tables : List (List ℤ)) (count : ℕ) (o : Option Area) (cb : Area) (old mid : Standing)
    → o ≡ Some cb → ReadsPart luma old mid → TooLongInPart (part tables count (cb ∷ record cb { plane = 2 } ∷ [])) mid
    → TooLongInSlice (with_chroma luma tables count o) old
late_both luma tables count o cb old mid some reads late =
    let P : Option Area → Type 0 = λ v. TooLongInSlice (with_chroma luma tables count v) old in
    subst P (sym some) (inr (mid, reads, late))

pub within_both : (shape : Layout) (width : ℕ) (o : Option Area) (cb : Area) → o ≡ Some cb
    → AreWithin shape width (chroma_areas o) → AreWithin shape width (cb ∷ record cb { plane = 2 } ∷ [])
within_both shape width o cb some within =
    let P : Option Area → Type 0 = λ v. AreWithin shape width (chroma_areas v) in subst P some within

pub writes_grey : (luma : Part) (image : Image) (tables : List (List ℤ)) (count : ℕ) (o : Option Area) (old mid : Writing)
    → o ≡ None → WritesPart luma image old mid → WritesSlice (with_chroma luma tables count o) image old mid
writes_grey luma image tables count o old mid grey writes =
    let P : Option Area → Type 0 = λ v. WritesSlice (with_chroma luma tables count v) image old mid in
    subst P (sym grey) (mid, writes, (fresh_contexts count, refl))

pub writes_both : (luma : Part) (image : Image) (tables : List (List ℤ)) (count : ℕ) (o : Option Area) (cb : Area) (old mid new : Writing)
    → o ≡ Some cb → WritesPart luma image old mid → WritesPart (part tables count (cb ∷ record cb { plane = 2 } ∷ [])) image mid new
    → WritesSlice (with_chroma luma tables count o) image old new
writes_both luma image tables count o cb old mid new some writes more =
    let P : Option Area → Type 0 = λ v. WritesSlice (with_chroma luma tables count v) image old new in
    subst P (sym some) (mid, writes, more)
