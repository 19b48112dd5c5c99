-- Each slice in Golomb-Rice mode gives a picture or a fault.
use Rattle.std.proofs.Common.{◌≡◌, ℕ, zero, suc, ◌*◌, List, [], ◌∷◌, length, replicate, refl, sym, subst, arith, ◌-◌, inl, inr, ℤ, Option, Some, None, Result, Ok, Err}
use Rattle.std.specs.Prelude.{◌⊎◌, ⊤, nat_abs, ◌+ℤ◌}
use Rattle.std.proofs.lemmas.Bool.{cases_lt}
use Rattle.pic_planes.specs.Picture.{Image, IsPlane, IsRow}
use Rattle.ffv1_rice.specs.Bits.{opened}
use Rattle.ffv1_rice.specs.Runs.{Coding, source, coding, first_run, sample_at}
use Rattle.ffv1_predict.specs.Near.{context, predicted, turned}
use Rattle.ffv1_predict.specs.Border.{rows, rows_below}
use Rattle.ffv1_slice.specs.declared.area.Area.{Area}
use Rattle.ffv1_slice.specs.declared.fault.SliceFault.{SliceFault}
use Rattle.ffv1_slice.specs.declared.fault.SliceFault.TheVariants.{Symbol, Overrun}
use Rattle.ffv1_slice.specs.Area.{with_rows}
use Rattle.ffv1_slice.specs.Order.{InRow}
use Rattle.ffv1_slice.specs.Slice.{Part, Slice, IsFront}
use Rattle.ffv1_slice.proofs.ExistsRow.{IsTotal, byte_of, row_to, rows_more}
use Rattle.ffv1_golomb.specs.Turn.{InTurn, FailsInTurn}
use Rattle.ffv1_golomb.specs.Reading.{line, line_begun, ReadsSample, ReadsRow, OutOfRangeInRow}
use Rattle.ffv1_golomb.specs.Slice.{Decoding, decoding, Standing, standing, begun, parts, ReadsArea, OutOfRangeInArea, ReadsPart, OutOfRangeInPart, Gives}
use Rattle.ffv1_golomb.proofs.OneSlice.{IsOutOfRange}

-- ---- steps in turn
-- All steps are done, or one fails.
abbrev TurnOrFail : {A S : Type 0} → (A → S → S → Type 0) → (A → S → Type 0) → List A → S → Type 0
TurnOrFail {A} {S} step fails items old = ((new : S) × InTurn step items old new) ⊎ FailsInTurn step fails items old

step_before : {A S : Type 0} (step : A → S → S → Type 0) (fails : A → S → Type 0) (a : A) (more : List A) (old mid : S) → step a old mid → TurnOrFail step fails more mid → TurnOrFail step fails (a ∷ more) old
step_before step fails a more old mid here (inl (new, done)) = inl (new, (mid, here, done))
step_before step fails a more old mid here (inr late) = inr (inr (mid, here, late))

in_turn : {A S : Type 0} (step : A → S → S → Type 0) (fails : A → S → Type 0) → ((a : A) (old : S) → ((new : S) × step a old new) ⊎ fails a old)
    → (items : List A) (old : S) → TurnOrFail step fails items old
in_turn step fails total [] old = inl (old, refl)
in_turn step fails total (a ∷ more) old =
    elim (total a old) [
      | inl done ↦ step_before step fails a more old done.0 done.1 (in_turn step fails total more done.0)
      | inr late ↦ inr (inl late)
    ]

-- ---- a sample
some_or_none : {A B : Type 0} (read : Option (A × B)) → ((a : A) × (b : B) × (read ≡ Some (a, b))) ⊎ (read ≡ None)
some_or_none (Some both) = inl (both.0, both.1, refl)
some_or_none None = inr refl

sample_total : (tables : List (List ℤ)) → IsTotal (ReadsSample tables) (IsOutOfRange tables)
sample_total tables n old =
    elim (some_or_none (sample_at old.left (nat_abs (context tables n)) old.coding)) [
      | inl read ↦
          let byte = byte_of (predicted n +ℤ turned (context tables n) read.0) in
          inl (byte.0, line (old.left - 1) read.1, byte.2, record { difference = read.0; read = read.2; one_less = refl; restored = byte.1 })
      | inr late ↦ inr late
    ]

-- ---- a row
-- A row of some width is read, or a residual in it is out of range.
abbrev RowOrLate : List (List ℤ) → ℕ → List ℕ → List ℕ → Coding → Type 0
RowOrLate tables width above2 above old =
    ((row : List ℕ) × (new : Coding) × IsRow width row × ReadsRow tables (rows above2 above row) old new)
    ⊎ ((row : List ℕ) × IsRow width row × OutOfRangeInRow tables (rows above2 above row) old)

row_read : (tables : List (List ℤ)) (width : ℕ) (above2 above : List ℕ) (old : Coding) → RowOrLate tables width above2 above old
row_read tables width above2 above old =
    elim (row_to (ReadsSample tables) (IsOutOfRange tables) (sample_total tables) width above2 above width (line_begun width old) (omega arith)) [
      | inl read ↦
          inl (
            read.0,
            read.1.coding,
            read.2,
            record {
              end = read.1;
              read = subst (λ (n : ℕ). InRow (ReadsSample tables) (rows above2 above read.0) n (line_begun n old) read.1) (sym read.2.len) read.3;
              left = refl;
            },
          )
      | inr late ↦
          inr (
            late.row,
            late.is_row,
            record {
              column = late.column;
              within = late.within;
              mid = late.mid;
              before = subst (λ (n : ℕ). InRow (ReadsSample tables) (rows above2 above late.row) late.column (line_begun n old) late.mid) (sym late.is_row.len) late.before;
              out_of_range = late.late;
            },
          )
    ]

-- ---- a plane
-- A plane is read below two rows.
abbrev CanPlane : List (List ℤ) → ℕ → ℕ → List ℕ → List ℕ → Coding → Type 0
CanPlane tables width height above2 above old =
    (plane : List (List ℕ)) × (new : Coding) × IsPlane width height plane × InTurn (ReadsRow tables) (rows_below above2 above plane) old new

-- In a plane a residual is out of range.
abbrev LatePlane : List (List ℤ) → ℕ → ℕ → List ℕ → List ℕ → Coding → Type 0
LatePlane tables width height above2 above old =
    (plane : List (List ℕ)) × IsFront width height plane × FailsInTurn (ReadsRow tables) (OutOfRangeInRow tables) (rows_below above2 above plane) old

row_before : (tables : List (List ℤ)) (width height : ℕ) (above2 above row : List ℕ) (old mid : Coding) → IsRow width row
    → ReadsRow tables (rows above2 above row) old mid → CanPlane tables width height above row mid ⊎ LatePlane tables width height above row mid
    → CanPlane tables width (suc height) above2 above old ⊎ LatePlane tables width (suc height) above2 above old
row_before tables width height above2 above row old mid is done (inl (plane, new, sizes, reads)) =
    inl (row ∷ plane, new, record { len = omega (arith, sizes.len); rows = rows_more width height row plane is sizes.rows }, (mid, done, reads))
row_before tables width height above2 above row old mid is done (inr (plane, sizes, late)) =
    inr (row ∷ plane, record { few = omega (arith, sizes.few); each = rows_more width (length plane) row plane is sizes.each }, inr (mid, done, late))

plane_read : (tables : List (List ℤ)) (width height : ℕ) (above2 above : List ℕ) (old : Coding) → CanPlane tables width height above2 above old ⊎ LatePlane tables width height above2 above old
plane_read tables width zero above2 above old = inl ([], old, record { len = refl; rows = λ y lt. absurd (omega arith) }, refl)
plane_read tables width (suc height) above2 above old =
    elim (row_read tables width above2 above old) [
      | inl row ↦ row_before tables width height above2 above row.0 old row.1 row.2 row.3 (plane_read tables width height above row.0 row.1)
      | inr late ↦
          inr (late.0 ∷ [], record { few = omega arith; each = rows_more width 0 late.0 [] late.1 (λ y lt. absurd (omega arith)) }, inl late.2)
    ]

-- ---- a slice
area_read : (tables : List (List ℤ)) (area : Area) (old : Decoding) → ((new : Decoding) × ReadsArea tables area old new) ⊎ OutOfRangeInArea tables area old
area_read tables area old =
    elim (plane_read tables area.width area.height (replicate area.width 0) (replicate area.width 0) (coding (source first_run old.reading) old.states)) [
      | inl read ↦
          inl (decoding read.1.states read.1.reading (with_rows old.image area read.0), record { plane = read.0; sizes = read.2; run = read.1.run; read = read.3; put = refl })
      | inr late ↦ inr (record { plane = late.0; sizes = late.1; out_of_range = late.2 })
    ]

part_read : (p : Part) (old : Standing) → ((new : Standing) × ReadsPart p old new) ⊎ OutOfRangeInPart p old
part_read p old =
    elim (in_turn (ReadsArea p.tables) (OutOfRangeInArea p.tables) (area_read p.tables) p.areas (begun p old)) [
      | inl read ↦ inl (standing read.0.reading read.0.image, (read.0.states, read.1))
      | inr late ↦ inr late
    ]

-- Each slice gives an answer.
pub slice_exists : (s : Slice) (bytes : List ℕ) (old : Image) → (image : Image) × (result : Result (⊤) SliceFault) × Gives s bytes old image result
slice_exists s bytes old =
    elim (in_turn ReadsPart OutOfRangeInPart part_read (parts s) (standing (opened bytes) old)) [
      | inl read ↦
          elim (cases_lt (8 * length bytes) read.0.reading.taken) [
            | inl over ↦ (old, Err Overrun, (read.0, read.1, over))
            | inr few ↦ (read.0.image, Ok tt, (read.0, read.1, refl, few))
          ]
      | inr late ↦ (old, Err Symbol, late)
    ]
