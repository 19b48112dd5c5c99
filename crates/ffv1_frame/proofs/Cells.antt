-- The cells of a grid: their areas lie within the picture, and reach each of its samples.
use Rattle.std.proofs.Common.{◌^◌, length, map, ◌≡◌, ℕ, zero, suc, ◌+◌, ◌*◌, ◌/◌, ◌%◌, ◌<◌, ◌≤◌, List, [], ◌∷◌, get_or, ◌⊎◌, refl, sym, ◌∙◌, ap, subst, arith, inl, inr, Some}
use Rattle.std.specs.List.{AllByRecursion}
use Rattle.std.proofs.Math.Nat.{mul-le-mul_right}
use Rattle.std.proofs.lemmas.Nat.{mod_below, div_below, div-mul-add, mod-mul-add}
use Rattle.std.proofs.lemmas.List.{length-map}
use Rattle.std.proofs.lemmas.List.Elements.{All-get_or}
use Rattle.pic_planes.specs.declared.shape.Chroma.{Chroma}
use Rattle.pic_planes.specs.declared.shape.Chroma.TheVariants.{Grey, Shifts}
use Rattle.pic_planes.specs.Shape.{Layout, layout, AreShifts, shifted_up, plane_count, plane_width, plane_height}
use Rattle.pic_planes.specs.Picture.{Image, IsPicture, IsPlane, plane_of}
use Rattle.ffv1_record.specs.Parameters.{Parameters, IsRecord, runs_of, tables_of, context_count_of}
use Rattle.ffv1_record.specs.Tables.{TableSet, set_of, AreSetRuns, AreContexts, ScalesFit, max_scale, next_scale, scale_after}
use Rattle.ffv1_record.specs.Suits.{Suits, ReachesEnds}
use Rattle.ffv1_record.proofs.Contexts.{contexts, record-contexts, count-at}
use Rattle.ffv1_slice.specs.declared.area.Area.{Area}
use Rattle.ffv1_slice.specs.declared.header.Header.{Header}
use Rattle.ffv1_slice.specs.Area.{IsWithin, chroma_areas}
use Rattle.ffv1_slice.specs.Cells.{cell_start, luma_area, chroma_area, with_chroma, areas_of}
use Rattle.ffv1_slice.specs.Room.{room}
use Rattle.ffv1_slice.specs.Slice.{CanHold}
use Rattle.ffv1_slice.specs.Slice as slices
use Rattle.ffv1_slice.proofs.CellLemmas.{cell_later, span_end, hold_both}
use Rattle.ffv1_frame.specs.Frame.{grid_of, slice_by}
use Rattle.ffv1_frame.specs.Written.{cell_slice}
use Rattle.ffv1_frame.proofs.SliceSteps.{contexts-fit}
use Rattle.ffv1_frame.proofs.ContentsBack.{IsCell}
use Rattle.ffv1_frame.proofs.Pasting.{Fits, FitAll, InAreas, InSlice}
use Rattle.ffv1_frame.proofs.Covering.{HasSample, luma_covered, chroma_covered}

-- ---- the areas of a cell
-- a header of one cell
abbrev pub header_of : ℕ → ℕ → Header
header_of x y = record { x = x; y = y; columns = 1; rows = 1; luma_set = 0; chroma_set = 0 }

-- A cell of a grid that isn't larger than a picture.
pub record IsAt (p : Parameters) (width height x y : ℕ) : Type 0 where
  pub left : x < p.columns
  pub top : y < p.rows
  pub wide : p.columns ≤ width
  pub high : p.rows ≤ height

luma_within : (p : Parameters) (width height : ℕ) (c : Chroma) (x y : ℕ) → IsAt p width height x y → IsWithin (layout width height c) (luma_area (grid_of p) (layout width height c) (header_of x y))
luma_within p width height c x y at =
    let start : ℕ = cell_start p.columns width x in
    let later = cell_later p.columns width x (x + 1) (omega (arith, at.left)) at.wide (omega arith) in
    record {
      plane = plane_some c;
      some = omega arith;
      width = span_end p.columns width x 1 start (cell_start p.columns width (x + 1)) (omega (arith, at.left)) at.wide (omega (arith, at.left)) (omega arith) refl refl;
      height = span_end p.rows height y 1 (cell_start p.rows height y) (cell_start p.rows height (y + 1)) (omega (arith, at.top)) at.high (omega (arith, at.top)) (omega arith) refl refl;
    }
  where
    plane_some : (c : Chroma) → 0 < plane_count (layout width height c)
    plane_some Grey = omega arith
    plane_some (Shifts h v) = omega arith

chroma_within : (p : Parameters) (width height : ℕ) (c : Chroma) (x y : ℕ) → AreShifts c → IsAt p width height x y
    → AllByRecursion (IsWithin (layout width height c)) (chroma_areas (areas_of (grid_of p) (layout width height c) (header_of x y)).chroma)
chroma_within p width height Grey x y shifts at = tt
chroma_within p width height (Shifts h v) x y shifts at =
    let shape : Layout = layout width height (Shifts h v) in
    let luma : Area = luma_area (grid_of p) shape (header_of x y) in
    let cb : Area = chroma_area h v luma in
    let own = luma_within p width height (Shifts h v) x y at in
    let hold : CanHold shape (room 0 width) (record { luma = luma; chroma = Some cb }) = hold_both shape h v (room 0 width) luma cb refl shifts.0 shifts.1 refl own.some own.width own.height refl (omega arith) in
    ((hold.chroma 0 cb (omega arith)).0, ((hold.chroma 1 cb (omega arith)).0, tt))

-- the area of luma doesn't depend on chroma
luma_is : (luma : Area) (c : Chroma) → (with_chroma luma c).luma ≡ luma
luma_is luma Grey = refl
luma_is luma (Shifts h v) = refl

-- ---- a cell of a picture
cell_at : (p : Parameters) (width height cell : ℕ) → 1 ≤ p.columns → p.columns ≤ width → p.rows ≤ height → cell < p.columns * p.rows → IsAt p width height (cell % p.columns) (cell / p.columns)
cell_at p width height cell some wide high lt = record {
  left = mod_below cell p.columns (omega arith);
  top = div_below cell p.columns p.rows (omega arith) (omega arith);
  wide = wide;
  high = high;
}

fits_contexts : (p : Parameters) → IsRecord p → AreContexts (tables_of p 0) (context_count_of p 0)
fits_contexts p sound =
    record-contexts p (runs_of p) sound.tables (λ k lt. contexts (get_or (runs_of p) k []) (All-get_or AreSetRuns (runs_of p) k [] lt sound.sets.each)) 0
    (omega (arith, sound.sets.some, length-map p.sets (λ (set : TableSet). set.runs)))

scale_few : (scale : ℕ) (runs : List (List ℕ)) → ScalesFit scale runs → scale ≤ max_scale → scale_after scale runs ≤ max_scale
scale_few scale [] fits few = few
scale_few scale (r ∷ more) fits few = scale_few (next_scale scale r) more fits.1 fits.0

-- the first set has few contexts
pub contexts_few : (p : Parameters) → IsRecord p → context_count_of p 0 ≤ 2 ^ 16
contexts_few p sound =
    let sets : List (List (List ℕ)) = runs_of p in
    let first : List (List ℕ) = get_or sets 0 [] in
    let some : 0 < length sets = omega (arith, sound.sets.some) in
    let is : AreSetRuns first = All-get_or AreSetRuns sets 0 [] some sound.sets.each in
    let count : context_count_of p 0 ≡ (set_of first).context_count = ap (λ (l : List TableSet). get_or (map (λ s. s.context_count) l) 0 0) sound.tables ∙ count-at sets 0 some in
    omega (arith, count, scale_few 1 first is.scales (omega arith))

pub is_cell : (p : Parameters) (image : Image) (cell : ℕ) → IsRecord p → IsPicture image → Suits p image.shape → cell < p.columns * p.rows → IsCell p image cell
is_cell p image cell sound picture suits lt =
    let w : ℕ = image.shape.width in
    let h : ℕ = image.shape.height in
    let x : ℕ = cell % p.columns in
    let y : ℕ = cell / p.columns in
    let at : IsAt p w h x y = cell_at p w h cell sound.grid.some_columns suits.columns suits.rows lt in
    let fits = contexts-fit (tables_of p 0) (tables_of p 0) (context_count_of p 0) (context_count_of p 0) refl refl (fits_contexts p sound) in
    record {
      sound = sound;
      picture = picture;
      within = lt;
      luma = record {
        fits = fits;
        within = (subst (λ (a : Area). IsWithin image.shape a) (sym (luma_is (luma_area (grid_of p) image.shape (header_of x y)) image.shape.chroma)) (luma_within p w h image.shape.chroma x y at), tt);
      };
      chroma = record { fits = fits; within = chroma_within p w h image.shape.chroma x y picture.shape.chroma at };
    }

-- ---- areas fit where they lie within the planes
area_fits : (image : Image) (area : Area) → IsPicture image → IsWithin image.shape area → Fits image area area.height
area_fits image area picture within =
    let plane : IsPlane (plane_width image.shape area.plane) (plane_height image.shape area.plane) (plane_of image area.plane) = picture.planes area.plane within.plane in
    record {
      plane = omega (arith, within.plane, picture.count);
      height = omega (arith, within.height, plane.len);
      width = λ y lt. omega (arith, within.width, (plane.rows y (omega (arith, lt, within.height))).len);
    }

pub fit_all : (image : Image) (areas : List Area) → IsPicture image → AllByRecursion (IsWithin image.shape) areas → FitAll image areas
fit_all image [] picture within = tt
fit_all image (area ∷ more) picture within = (area_fits image area picture within.0, fit_all image more picture within.1)

-- ---- each sample lies in a cell
-- the slice of a cell by its column and row
abbrev slice_at : Parameters → Layout → ℕ → ℕ → slices.Slice
slice_at p shape x y = slice_by p (header_of x y) (areas_of (grid_of p) shape (header_of x y))

-- the cell of a column and a row
by_place : (p : Parameters) (shape : Layout) (x y plane row column : ℕ) → x < p.columns → y < p.rows → InSlice (slice_at p shape x y) plane row column
    → (cell : ℕ) × (cell < p.columns * p.rows) × InSlice (cell_slice p shape cell) plane row column
by_place p shape x y plane row column left top here =
    let cell : ℕ = y * p.columns + x in
    let lines : (y + 1) * p.columns ≤ p.rows * p.columns = mul-le-mul_right p.columns (omega arith) in
    let In : ℕ → ℕ → Type 0 = λ a b. InSlice (slice_at p shape a b) plane row column in (
      cell,
      omega arith,
      subst (λ (a : ℕ). In a (cell / p.columns)) (sym (mod-mul-add y p.columns x left)) (subst (λ (b : ℕ). In x b) (sym (div-mul-add y p.columns x left)) here),
    )

luma_in : (p : Parameters) (width height : ℕ) (c : Chroma) (x y row column : ℕ) → HasSample p.columns width column x → HasSample p.rows height row y
    → InAreas (luma_area (grid_of p) (layout width height c) (header_of x y) ∷ []) 0 row column
luma_in p width height c x y row column across down = inl (refl, down.from, omega (arith, down.from, down.below), across.from, omega (arith, across.from, across.below))

luma_here : (p : Parameters) (width height : ℕ) (c : Chroma) (row column : ℕ) → 1 ≤ p.columns → 1 ≤ p.rows → row < height → column < width
    → (cell : ℕ) × (cell < p.columns * p.rows) × InSlice (cell_slice p (layout width height c) cell) 0 row column
luma_here p width height c row column some some_rows below before =
    let x = luma_covered p.columns width column some before in
    let y = luma_covered p.rows height row some_rows below in
    by_place p (layout width height c) x.0 y.0 0 row column x.1.within y.1.within
    (inl (subst (λ (a : Area). InAreas (a ∷ []) 0 row column) (sym (luma_is (luma_area (grid_of p) (layout width height c) (header_of x.0 y.0)) c)) (luma_in p width height c x.0 y.0 row column x.1 y.1)))

chroma_here : (p : Parameters) (width height h v plane row column : ℕ) → 1 ≤ p.columns → 1 ≤ p.rows → p.columns ≤ width → p.rows ≤ height → h ≤ 2 → v ≤ 2 → ReachesEnds p.columns p.rows width height (Shifts h v)
    → row < shifted_up height v → column < shifted_up width h → ((plane ≡ 1) ⊎ (plane ≡ 2))
    → (cell : ℕ) × (cell < p.columns * p.rows) × InSlice (cell_slice p (layout width height (Shifts h v)) cell) plane row column
chroma_here p width height h v plane row column some some_rows wide high small tall reaches below before either =
    let x = chroma_covered p.columns width h column some wide small reaches.0 before in
    let y = chroma_covered p.rows height v row some_rows high tall reaches.1 below in
    by_place p (layout width height (Shifts h v)) x.0 y.0 plane row column x.1.within y.1.within
    (inr (elim either [
      | inl cb ↦ inl (cb, y.1.from, y.1.below, x.1.from, x.1.below)
      | inr cr ↦ inr (inl (cr, y.1.from, y.1.below, x.1.from, x.1.below))
    ]))

reached_at : (p : Parameters) (width height : ℕ) (c : Chroma) (plane row column : ℕ) → 1 ≤ p.columns → 1 ≤ p.rows → p.columns ≤ width → p.rows ≤ height → AreShifts c → ReachesEnds p.columns p.rows width height c
    → plane < plane_count (layout width height c) → row < plane_height (layout width height c) plane → column < plane_width (layout width height c) plane
    → (cell : ℕ) × (cell < p.columns * p.rows) × InSlice (cell_slice p (layout width height c) cell) plane row column
reached_at p width height c zero row column some some_rows wide high shifts reaches has below before = luma_here p width height c row column some some_rows below before
reached_at p width height Grey (suc plane) row column some some_rows wide high shifts reaches has below before = absurd (omega arith)
reached_at p width height (Shifts h v) (suc zero) row column some some_rows wide high shifts reaches has below before =
    chroma_here p width height h v 1 row column some some_rows wide high shifts.0 shifts.1 reaches below before (inl refl)
reached_at p width height (Shifts h v) (suc (suc zero)) row column some some_rows wide high shifts reaches has below before =
    chroma_here p width height h v 2 row column some some_rows wide high shifts.0 shifts.1 reaches below before (inr refl)
reached_at p width height (Shifts h v) (suc (suc (suc plane))) row column some some_rows wide high shifts reaches has below before = absurd (omega arith)

pub reached : (p : Parameters) (image : Image) (plane row column : ℕ) → IsRecord p → IsPicture image → Suits p image.shape → plane < plane_count image.shape → row < plane_height image.shape plane → column < plane_width image.shape plane
    → (cell : ℕ) × (cell < p.columns * p.rows) × InSlice (cell_slice p image.shape cell) plane row column
reached p image plane row column sound picture suits has below before =
    reached_at p image.shape.width image.shape.height image.shape.chroma plane row column sound.grid.some_columns sound.grid.some_rows suits.columns suits.rows picture.shape.chroma
    (subst (λ (c : Chroma). ReachesEnds p.columns p.rows image.shape.width image.shape.height c) suits.chroma suits.reaches) has below before
