-- Each slice gives a picture or a fault.
use Rattle.std.proofs.Common.{◌≡◌, ℕ, zero, suc, ◌+◌, List, [], ◌∷◌, length, replicate, refl, sym, subst, arith, inl, inr, ℤ, Option, Some, None, Result, Ok, Err}
use Rattle.std.specs.Prelude.{◌⊎◌, ⊤, ◌+ℤ◌}
use Rattle.std.proofs.lemmas.Bool.{cases_lt}
use Rattle.pic_planes.specs.Picture.{Image, IsPlane, IsRow}
use Rattle.ffv1_predict.specs.Near.{context, predicted, turned}
use Rattle.ffv1_predict.specs.Border.{rows, rows_below}
use Rattle.ffv1_slice.specs.declared.area.Area.{Area}
use Rattle.ffv1_slice.specs.declared.fault.SliceFault.{SliceFault}
use Rattle.ffv1_slice.specs.declared.fault.SliceFault.TheVariants.{Symbol, Overrun}
use Rattle.ffv1_slice.specs.Area.{with_rows}
use Rattle.ffv1_slice.specs.Order.{InRow, InRows}
use Rattle.ffv1_slice.specs.Reading.{Coding, difference_at, ReadsSample, TooLongInRows}
use Rattle.ffv1_slice.specs.Slice.{Decoding, decoding, Standing, standing, ReadsArea, IsFront, TooLongInArea, ReadsAreas, TooLongInAreas, Part, begun, ReadsPart, TooLongInPart, Slice, ReadsSlice, TooLongInSlice, Gives}
use Rattle.ffv1_slice.proofs.OneSlice.{IsTooLong}
use Rattle.ffv1_slice.proofs.ExistsRow.{IsTotal, byte_of, row_to, rows_more}

-- ---- a sample
-- What was read is a value, or none.
value_or_none : {A B : Type 0} (read : Option A × B) → ((value : A) × (new : B) × (read ≡ (Some value, new))) ⊎ ((new : B) × (read ≡ (None, new)))
value_or_none (Some value, new) = inl (value, new, refl)
value_or_none (None, new) = inr (new, refl)

sample_total : (tables : List (List ℤ)) → IsTotal (ReadsSample tables) (IsTooLong tables)
sample_total tables n old =
    elim (value_or_none (difference_at old (context tables n))) [
      | inl read ↦
          let byte = byte_of (predicted n +ℤ turned (context tables n) read.0) in
          inl (byte.0, read.1, byte.2, (read.0, read.2, byte.1))
      | inr late ↦ inr late
    ]

-- ---- a plane
-- A plane is read below two rows.
abbrev CanPlane : List (List ℤ) → ℕ → ℕ → List ℕ → List ℕ → Coding → Type 0
CanPlane tables width height above2 above old =
    (plane : List (List ℕ)) × (new : Coding) × IsPlane width height plane × InRows (ReadsSample tables) (rows_below above2 above plane) old new

-- In a plane a symbol is too long.
abbrev LatePlane : List (List ℤ) → ℕ → ℕ → List ℕ → List ℕ → Coding → Type 0
LatePlane tables width height above2 above old =
    (plane : List (List ℕ)) × IsFront width height plane × TooLongInRows tables (rows_below above2 above plane) old

row_before : (tables : List (List ℤ)) (width height : ℕ) (above2 above row : List ℕ) (old mid : Coding) → IsRow width row
    → InRow (ReadsSample tables) (rows above2 above row) width old mid → CanPlane tables width height above row mid ⊎ LatePlane tables width height above row mid
    → CanPlane tables width (suc height) above2 above old ⊎ LatePlane tables width (suc height) above2 above old
row_before tables width height above2 above row old mid is done (inl (plane, new, sizes, reads)) =
    let whole : InRow (ReadsSample tables) (rows above2 above row) (length row) old mid = subst (λ (x : ℕ). InRow (ReadsSample tables) (rows above2 above row) x old mid) (sym is.len) done in
    inl (row ∷ plane, new, record { len = omega (arith, sizes.len); rows = rows_more width height row plane is sizes.rows }, (mid, whole, reads))
row_before tables width height above2 above row old mid is done (inr (plane, sizes, late)) =
    let whole : InRow (ReadsSample tables) (rows above2 above row) (length row) old mid = subst (λ (x : ℕ). InRow (ReadsSample tables) (rows above2 above row) x old mid) (sym is.len) done in
    inr (row ∷ plane, record { few = omega (arith, sizes.few); each = rows_more width (length plane) row plane is sizes.each }, inr (mid, whole, late))

plane_read : (tables : List (List ℤ)) (width height : ℕ) (above2 above : List ℕ) (old : Coding) → CanPlane tables width height above2 above old ⊎ LatePlane tables width height above2 above old
plane_read tables width zero above2 above old = inl ([], old, record { len = refl; rows = λ y lt. absurd (omega arith) }, refl)
plane_read tables width (suc height) above2 above old =
    elim (row_to (ReadsSample tables) (IsTooLong tables) (sample_total tables) width above2 above width old (omega arith)) [
      | inl row ↦ row_before tables width height above2 above row.0 old row.1 row.2 row.3 (plane_read tables width height above row.0 row.1)
      | inr late ↦
          inr (
            late.row ∷ [],
            record { few = omega arith; each = rows_more width 0 late.row [] late.is_row (λ y lt. absurd (omega arith)) },
            inl (record { column = late.column; within = late.within; mid = late.mid; new = late.late.0; before = late.before; too_long = late.late.1 }),
          )
    ]

-- ---- areas
area_read : (tables : List (List ℤ)) (area : Area) (old : Decoding) → ((new : Decoding) × ReadsArea tables area old new) ⊎ TooLongInArea tables area old
area_read tables area old =
    elim (plane_read tables area.width area.height (replicate area.width 0) (replicate area.width 0) old.coding) [
      | inl read ↦ inl (decoding read.1 (with_rows old.image area read.0), record { plane = read.0; sizes = read.2; read = read.3; put = refl })
      | inr late ↦ inr (record { plane = late.0; sizes = late.1; too_long = late.2 })
    ]

area_before : (tables : List (List ℤ)) (area : Area) (more : List Area) (old mid : Decoding) → ReadsArea tables area old mid
    → ((new : Decoding) × ReadsAreas tables more mid new) ⊎ TooLongInAreas tables more mid
    → ((new : Decoding) × ReadsAreas tables (area ∷ more) old new) ⊎ TooLongInAreas tables (area ∷ more) old
area_before tables area more old mid here (inl (new, reads)) = inl (new, (mid, here, reads))
area_before tables area more old mid here (inr late) = inr (inr (mid, here, late))

areas_read : (tables : List (List ℤ)) (areas : List Area) (old : Decoding) → ((new : Decoding) × ReadsAreas tables areas old new) ⊎ TooLongInAreas tables areas old
areas_read tables [] old = inl (old, refl)
areas_read tables (area ∷ more) old =
    elim (area_read tables area old) [
      | inl read ↦ area_before tables area more old read.0 read.1 (areas_read tables more read.0)
      | inr late ↦ inr (inl late)
    ]

-- ---- a slice
part_read : (p : Part) (old : Standing) → ((new : Standing) × ReadsPart p old new) ⊎ TooLongInPart p old
part_read p old =
    elim (areas_read p.tables p.areas (begun p old)) [
      | inl read ↦ inl (standing read.0.coding.reading read.0.image, (read.0.coding.contexts, read.1))
      | inr late ↦ inr late
    ]

luma_before : (s : Slice) (old mid : Standing) → ReadsPart s.luma old mid → ((new : Standing) × ReadsPart s.chroma mid new) ⊎ TooLongInPart s.chroma mid
    → ((new : Standing) × ReadsSlice s old new) ⊎ TooLongInSlice s old
luma_before s old mid luma (inl (new, chroma)) = inl (new, (mid, luma, chroma))
luma_before s old mid luma (inr late) = inr (inr (mid, luma, late))

slice_read : (s : Slice) (old : Standing) → ((new : Standing) × ReadsSlice s old new) ⊎ TooLongInSlice s old
slice_read s old =
    elim (part_read s.luma old) [
      | inl read ↦ luma_before s old read.0 read.1 (part_read s.chroma read.0)
      | inr late ↦ inr (inl late)
    ]

-- Each slice gives an answer.
pub slice_exists : (s : Slice) (content : ℕ) (old : Standing) → (image : Image) × (result : Result (⊤) SliceFault) × Gives s content old image result
slice_exists s content old =
    elim (slice_read s old) [
      | inl read ↦
          elim (cases_lt (content + 2) read.0.reading.taken) [
            | inl over ↦ (old.image, Err Overrun, (read.0, read.1, over))
            | inr few ↦ (read.0.image, Ok tt, (read.0, read.1, refl, few))
          ]
      | inr late ↦ (old.image, Err Symbol, late)
    ]
