-- The samples of a slice that were written are read into a picture.
use Rattle.std.proofs.Common.{◌≡◌, ℕ, zero, suc, ◌+◌, ◌<◌, ◌≤◌, ℤ, List, [], ◌∷◌, length, take, drop, replicate, refl, ap, subst, arith, inl, inr}
use Rattle.std.specs.Prelude.{slice_index_or}
use Rattle.std.specs.List.{AllByRecursion}
use Rattle.std.proofs.lemmas.Bool.{cases_lt}
use Rattle.std.proofs.lemmas.List.{length-replicate, length-take-le, length-take, length-drop, get_or-replicate, get_or-take, get_or-drop, get_or_past}
use Rattle.pic_planes.specs.Shape.{Layout, plane_count, plane_width, plane_height}
use Rattle.pic_planes.specs.Picture.{Image, row_of, IsRow, IsPlane, IsPicture}
use Rattle.ffv1_range.specs.Transition.{IsTransition}
use Rattle.ffv1_range.specs.Reading.{Reading}
use Rattle.ffv1_range.specs.Writing.{Writing}
use Rattle.ffv1_predict.specs.Border.{rows_of_plane}
use Rattle.ffv1_record.proofs.States.{fresh-kept}
use Rattle.ffv1_slice.specs.declared.area.Area.{Area}
use Rattle.ffv1_slice.specs.Area.{IsWithin, below, with_rows}
use Rattle.ffv1_slice.specs.Order.{InRows}
use Rattle.ffv1_slice.specs.Reading.{coding, ReadsSample, ContextsFit}
use Rattle.ffv1_slice.specs.Slice.{Part, Slice, decoding, standing, ReadsAreas, ReadsPart, ReadsSlice, fresh_contexts}
use Rattle.ffv1_slice.specs.Writing.{Encoding, encoding, first_samples, samples_from, samples, WritesAreas, WritesPart, WritesSlice}
use Rattle.ffv1_slice.proofs.InTurn.{fresh_kept}
use Rattle.ffv1_golomb.specs.Law.{copied}
use Rattle.ffv1_frame.proofs.Passages.{Passage, nothing_passed, read_as, both_passed}
use Rattle.ffv1_frame.proofs.SamplesBack.{IsGood, AreSamples, rows_back, rows_are}

-- ---- the samples of an area
zeros_are : (width : ℕ) → AreSamples (replicate width 0)
zeros_are width x =
    elim (cases_lt x width) [
      | inl lt ↦ rw (get_or-replicate {A = ℕ} width x 0 0 lt) (omega arith)
      | inr le ↦ rw (get_or_past {X = ℕ} (replicate width 0) x 0 (omega (arith, length-replicate {A = ℕ} width 0))) (omega arith)
    ]

part_samples : (width x : ℕ) (row : List ℕ) → AreSamples row → AreSamples (take width (drop x row))
part_samples width x row are k =
    elim (cases_lt k width) [
      | inl lt ↦ rw (get_or-take width (drop x row) k 0 lt, get_or-drop x row k 0) (are (x + k))
      | inr le ↦ rw (get_or_past {X = ℕ} (take width (drop x row)) k 0 (omega (arith, length-take width (drop x row)))) (omega arith)
    ]

-- Some rows of an area lie within its plane.
pub record RowsWithin (shape : Layout) (area : Area) (count : ℕ) : Type 0 where
  pub plane : area.plane < plane_count shape
  pub width : area.x + area.width ≤ plane_width shape area.plane
  pub height : area.y + count ≤ plane_height shape area.plane

first_is : (image : Image) (area : Area) (count : ℕ) → IsPicture image → RowsWithin image.shape area (suc count) → IsRow area.width (first_samples image area)
first_is image area count sound within =
    let row : List ℕ = row_of image area.plane area.y in
    let is : IsRow (plane_width image.shape area.plane) row = (sound.planes area.plane within.plane).rows area.y (omega (arith, within.height)) in
    record {
      len = length-take-le area.width (drop area.x row) (omega (arith, length-drop area.x row, is.len, within.width));
      samples = part_samples area.width area.x row is.samples;
    }

one_less : (shape : Layout) (area : Area) (count : ℕ) → RowsWithin shape area (suc count) → RowsWithin shape (below area) count
one_less shape area count within = record { plane = within.plane; width = within.width; height = omega (arith, within.height) }

each_is : (image : Image) (area : Area) (count : ℕ) → IsPicture image → RowsWithin image.shape area count → (y : ℕ) → y < count → IsRow area.width (slice_index_or (samples_from image area count) y [])
each_is image area zero sound within y lt = absurd (omega arith)
each_is image area (suc count) sound within zero lt = first_is image area count sound within
each_is image area (suc count) sound within (suc y) lt = each_is image (below area) count sound (one_less image.shape area count within) y (omega arith)

pub length-samples : (image : Image) (area : Area) (count : ℕ) → length (samples_from image area count) ≡ count
length-samples image area zero = refl
length-samples image area (suc count) = ap suc (length-samples image (below area) count)

pub samples_are : (image : Image) (area : Area) (count : ℕ) → IsPicture image → RowsWithin image.shape area count → AllByRecursion AreSamples (samples_from image area count)
samples_are image area zero sound within = tt
samples_are image area (suc count) sound within = ((first_is image area count sound within).samples, samples_are image (below area) count sound (one_less image.shape area count within))

pub rows_within : (shape : Layout) (area : Area) → IsWithin shape area → RowsWithin shape area area.height
rows_within shape area is = record { plane = is.plane; width = is.width; height = is.height }

samples-plane : (image : Image) (area : Area) → IsPicture image → IsWithin image.shape area → IsPlane area.width area.height (samples image area)
samples-plane image area sound is = record {
  len = length-samples image area area.height;
  rows = λ y lt. each_is image area area.height sound (rows_within image.shape area is) y lt;
}

-- ---- areas
-- Areas are read into whatever picture there was.
abbrev pub ReadInto : List (List ℤ) → Image → List Area → List (List ℕ) → List (List ℕ) → Reading → Reading → Type 0
ReadInto tables image areas old new p q = (before : Image) → ReadsAreas tables areas (decoding (coding p old) before) (decoding (coding q new) (copied image areas before))

areas_back : (table : List ℕ) (tables : List (List ℤ)) (count : ℕ) (image : Image) (areas : List Area) (old new : Encoding) → IsTransition table → ContextsFit tables count → IsPicture image → AllByRecursion (IsWithin image.shape) areas
    → IsGood table count old → WritesAreas tables image areas old new → Passage table old.writing new.writing (ReadInto tables image areas old.contexts new.contexts) × IsGood table count new
areas_back table tables count image [] old new sound fit picture within good written =
    subst (λ (e : Encoding). Passage table old.writing e.writing (ReadInto tables image [] old.contexts e.contexts) × IsGood table count e) written (
      read_as table old.writing old.writing (λ p q. p ≡ q) (ReadInto tables image [] old.contexts old.contexts) (λ p q at same before. ap (λ (reading : Reading). decoding (coding reading old.contexts) before) same) (nothing_passed table old.writing),
      good,
    )
areas_back table tables count image (area ∷ more) old new sound fit picture within good (mid, rows, rest) =
    let plane : List (List ℕ) = samples image area in
    let are = rows_are (replicate area.width 0) (replicate area.width 0) plane (zeros_are area.width) (zeros_are area.width) (samples_are image area area.height picture (rows_within image.shape area within.0)) in
    let first = rows_back table tables count (rows_of_plane area.width plane) old mid sound fit are good rows in
    let second = areas_back table tables count image more mid new sound fit picture within.1 first.1 rest in (
      read_as table old.writing new.writing
          (λ p q. (reading : Reading) × InRows (ReadsSample tables) (rows_of_plane area.width plane) (coding p old.contexts) (coding reading mid.contexts) × ReadInto tables image more mid.contexts new.contexts reading q)
          (ReadInto tables image (area ∷ more) old.contexts new.contexts)
          (λ p q at (reading, read, others) before. (
            decoding (coding reading mid.contexts) (with_rows before area plane),
            record { plane = plane; sizes = samples-plane image area picture within.0; read = read; put = refl },
            others (with_rows before area plane),
          ))
          (both_passed table old.writing mid.writing new.writing (λ p q. InRows (ReadsSample tables) (rows_of_plane area.width plane) (coding p old.contexts) (coding q mid.contexts)) (ReadInto tables image more mid.contexts new.contexts) first.0 second.0),
      second.1,
    )

-- ---- a part
abbrev pub PartInto : Part → Image → Reading → Reading → Type 0
PartInto part image p q = (before : Image) → ReadsPart part (standing p before) (standing q (copied image part.areas before))

-- The tables of a part have a set for each context, and its areas lie within the picture.
pub record IsPart (shape : Layout) (part : Part) : Type 0 where
  pub fits : ContextsFit part.tables part.context_count
  pub within : AllByRecursion (IsWithin shape) part.areas

part_back : (table : List ℕ) (image : Image) (part : Part) (old new : Writing) → IsTransition table → IsPicture image → IsPart image.shape part → old.table ≡ table → WritesPart part image old new
    → Passage table old new (PartInto part image) × (new.table ≡ table)
part_back table image part old new sound picture is at (contexts, written) =
    let start : Encoding = encoding old (fresh_contexts part.context_count) in
    let good : IsGood table part.context_count start = record { table_is = at; count_is = length-replicate part.context_count (replicate 32 128); kept = fresh_kept table part.context_count (fresh-kept table sound) } in
    let back = areas_back table part.tables part.context_count image part.areas start (encoding new contexts) sound is.fits picture is.within good written in (
      read_as table old new (ReadInto part.tables image part.areas (fresh_contexts part.context_count) contexts) (PartInto part image) (λ p q same read before. (contexts, read before)) back.0,
      back.1.table_is,
    )

-- ---- a slice
abbrev pub after_slice : Slice → Image → Image → Image
after_slice slice image before = copied image slice.chroma.areas (copied image slice.luma.areas before)

abbrev pub SliceInto : Slice → Image → Reading → Reading → Type 0
SliceInto slice image p q = (before : Image) → ReadsSlice slice (standing p before) (standing q (after_slice slice image before))

pub slice_back : (table : List ℕ) (image : Image) (slice : Slice) (old new : Writing) → IsTransition table → IsPicture image → IsPart image.shape slice.luma → IsPart image.shape slice.chroma → old.table ≡ table
    → WritesSlice slice image old new → Passage table old new (SliceInto slice image)
slice_back table image slice old new sound picture luma chroma at (mid, first, second) =
    let luma_back = part_back table image slice.luma old mid sound picture luma at first in
    let chroma_back = part_back table image slice.chroma mid new sound picture chroma luma_back.1 second in
    read_as table old new (λ p q. (reading : Reading) × PartInto slice.luma image p reading × PartInto slice.chroma image reading q) (SliceInto slice image)
    (λ p q same (reading, one, other) before. (standing reading (copied image slice.luma.areas before), one before, other (copied image slice.luma.areas before)))
    (both_passed table old mid new (PartInto slice.luma image) (PartInto slice.chroma image) luma_back.0 chroma_back.0)
