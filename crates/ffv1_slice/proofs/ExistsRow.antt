-- Each row is read or gets stuck, whatever the coder: by what one sample does to its state.
use Rattle.std.proofs.Common.{◌≡◌, ℕ, zero, suc, ◌+◌, ◌-◌, ◌%◌, ◌<◌, ◌≤◌, List, [], ◌∷◌, length, replicate, refl, subst, arith, inl, inr, add-one, get_or-set_other, get_or-set_same, ℤ}
use Rattle.std.specs.Prelude.{◌⊎◌, pos, negsuc, slice_index, slice_index_or, slice_set}
use Rattle.std.specs.Int.{int_rem_euclid}
use Rattle.std.proofs.lemmas.Bool.{cases_lt, cases_eq}
use Rattle.std.proofs.lemmas.List.{length-replicate, length-set, get_or-replicate, get_or_past}
use Rattle.pic_planes.specs.Picture.{IsRow}
use Rattle.ffv1_predict.specs.declared.near.Near.{Near}
use Rattle.ffv1_predict.specs.Border.{rows, near}
use Rattle.ffv1_slice.specs.Order.{InRow}
use Rattle.ffv1_slice.proofs.Rows.{one_more}

-- a remainder by 256 is a sample of 8 bits
pub byte_of : (z : ℤ) → (sample : ℕ) × (pos sample ≡ int_rem_euclid z (pos 256)) × (sample < 256)
byte_of (pos n) = (n % 256, refl, omega arith)
byte_of (negsuc n) = (255 - n % 256, refl, omega arith)

-- A sample is read.
abbrev pub CanStep : {S : Type 0} → (Near → ℕ → S → S → Type 0) → Near → S → Type 0
CanStep {S} step n old = (sample : ℕ) × (new : S) × (sample < 256) × step n sample old new

-- From each state, whatever the neighbours, a sample is read, or the coder is stuck.
abbrev pub IsTotal : {S : Type 0} → (Near → ℕ → S → S → Type 0) → (Near → S → Type 0) → Type 0
IsTotal {S} step stuck = (n : Near) (old : S) → CanStep step n old ⊎ stuck n old

-- ---- samples of a row
row_set : (width : ℕ) (row : List ℕ) (x sample : ℕ) → IsRow width row → x < width → sample < 256 → IsRow width (slice_set row x sample)
row_set width row x sample is lt small = record { len = simp length-set (is.len); samples = λ k. at_column width row x sample k is lt small }
  where
    at_column : (width : ℕ) (row : List ℕ) (x sample k : ℕ) → IsRow width row → x < width → sample < 256 → slice_index (slice_set row x sample) k < 256
    at_column width row x sample k is lt small =
        elim (cases_eq k x) [
          | inl same ↦ let within : x < length row = omega (arith, is.len, lt) in rw (same, get_or-set_same) small
          | inr other ↦ rw get_or-set_other (is.samples k)
        ]

zero_row : (width : ℕ) → IsRow width (replicate width 0)
zero_row width = record { len = simp length-replicate; samples = λ x. zero_at width x }
  where
    zero_at : (width x : ℕ) → slice_index (replicate width 0) x < 256
    zero_at width x =
        elim (cases_lt x width) [
          | inl within ↦ omega (arith, get_or-replicate {A = ℕ} width x 0 0 within)
          | inr past ↦ omega (arith, get_or_past {X = ℕ} (replicate width 0) x 0 (omega (arith, length-replicate {A = ℕ} width 0)))
        ]

-- ---- a row
-- A row of samples is read up to a column.
abbrev pub RowTo : {S : Type 0} → (Near → ℕ → S → S → Type 0) → ℕ → List ℕ → List ℕ → ℕ → S → Type 0
RowTo {S} step width above2 above x old = (row : List ℕ) × (mid : S) × IsRow width row × InRow step (rows above2 above row) x old mid

-- At a column of a row the coder is stuck, and the samples before it are read.
pub record IsStuckRow {S : Type 0} (step : Near → ℕ → S → S → Type 0) (stuck : Near → S → Type 0) (width : ℕ) (above2 above : List ℕ) (old : S) : Type 0 where
  pub row : List ℕ
  pub is_row : IsRow width row
  pub column : ℕ
  pub within : column < length row
  pub mid : S
  pub before : InRow step (rows above2 above row) column old mid
  pub late : stuck (near (rows above2 above row) column) mid

row_more : {S : Type 0} (step : Near → ℕ → S → S → Type 0) (stuck : Near → S → Type 0) (width : ℕ) (above2 above row : List ℕ) (x : ℕ) (old mid : S) → x < width → IsRow width row
    → InRow step (rows above2 above row) x old mid → CanStep step (near (rows above2 above row) x) mid ⊎ stuck (near (rows above2 above row) x) mid
    → RowTo step width above2 above (suc x) old ⊎ IsStuckRow step stuck width above2 above old
row_more step stuck width above2 above row x old mid lt is done (inl (sample, new, small, reads)) =
    let set : List ℕ = slice_set row x sample in
    let next : InRow step (rows above2 above set) (x + 1) old new = one_more step above2 above row x sample old mid new (omega (arith, is.len, lt)) done reads in
    inl (set, new, row_set width row x sample is lt small, subst (λ (k : ℕ). InRow step (rows above2 above set) k old new) (add-one x) next)
row_more step stuck width above2 above row x old mid lt is done (inr late) =
    inr (record { row = row; is_row = is; column = x; within = omega (arith, is.len, lt); mid = mid; before = done; late = late })

pub row_to : {S : Type 0} (step : Near → ℕ → S → S → Type 0) (stuck : Near → S → Type 0) → IsTotal step stuck → (width : ℕ) (above2 above : List ℕ) (x : ℕ) (old : S) → x ≤ width
    → RowTo step width above2 above x old ⊎ IsStuckRow step stuck width above2 above old
row_to step stuck total width above2 above zero old le = inl (replicate width 0, old, zero_row width, refl)
row_to step stuck total width above2 above (suc x) old le =
    elim (row_to step stuck total width above2 above x old (omega arith)) [
      | inl so_far ↦
          row_more step stuck width above2 above so_far.0 x old so_far.1 (omega arith) so_far.2 so_far.3 (total (near (rows above2 above so_far.0) x) so_far.1)
      | inr late ↦ inr late
    ]

-- ---- the rows of planes
pub rows_more : (width height : ℕ) (row : List ℕ) (plane : List (List ℕ)) → IsRow width row → ((y : ℕ) → y < height → IsRow width (slice_index_or plane y []))
    → (y : ℕ) → y < suc height → IsRow width (slice_index_or (row ∷ plane) y [])
rows_more width height row plane is each zero lt = is
rows_more width height row plane is each (suc y) lt = each y (omega arith)
