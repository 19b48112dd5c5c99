-- A row has one reading, whatever the coder: by what one sample does to its state.
use Rattle.std.proofs.Common.{◌≡◌, ℕ, zero, suc, ◌<◌, List, [], length, sym, ◌∙◌, subst, arith, inl, inr}
use Rattle.std.specs.Prelude.{slice_index, slice_index_or}
use Rattle.std.proofs.lemmas.Bool.{cases_lt}
use Rattle.std.proofs.lemmas.Grind.{same_number_lists}
use Rattle.pic_planes.specs.Picture.{IsPlane}
use Rattle.ffv1_predict.specs.declared.near.Near.{Near}
use Rattle.ffv1_predict.specs.Border.{Rows, rows, near}
use Rattle.ffv1_slice.specs.Order.{InRow}
use Rattle.ffv1_slice.specs.Slice.{IsFront}
use Rattle.ffv1_slice.proofs.Rows.{AgreeBelow, near_same}

-- From one state, below the same neighbours, one sample is read, and one state follows.
abbrev pub IsFunction : {S : Type 0} → (Near → ℕ → S → S → Type 0) → Type 0
IsFunction {S} step = (n : Near) (a b : ℕ) (old x y : S) → step n a old x → step n b old y → (a ≡ b) × (x ≡ y)

-- Where a sample is read, the coder isn't stuck.
abbrev pub IsApart : {S : Type 0} → (Near → ℕ → S → S → Type 0) → (Near → S → Type 0) → Type 0
IsApart {S} step stuck = (n : Near) (sample : ℕ) (old new : S) → step n sample old new → stuck n old → ⊥

agree_more : (row other : List ℕ) (x : ℕ) → AgreeBelow row other x → slice_index other x ≡ slice_index row x → AgreeBelow row other (suc x)
agree_more row other x before here k lt =
    elim (cases_lt k x) [
      | inl below ↦ before k below
      | inr above ↦
          let at : k ≡ x = omega arith in
          subst (λ (j : ℕ). slice_index other j ≡ slice_index row j) (sym at) here
    ]

-- Below the same two rows, what is read up to a column is the same.
one_row_to : {S : Type 0} (step : Near → ℕ → S → S → Type 0) → IsFunction step → (above2 above row other : List ℕ) (x : ℕ) (old new end : S)
    → InRow step (rows above2 above row) x old new → InRow step (rows above2 above other) x old end → AgreeBelow row other x × (new ≡ end)
one_row_to step one above2 above row other zero old new end first second = (λ k lt. absurd (omega arith), sym first ∙ second)
one_row_to {S} step one above2 above row other (suc x) old new end (mid, before, here) (next, others, now) =
    let so_far = one_row_to step one above2 above row other x old mid next before others in
    let n : Near = near (rows above2 above row) x in
    let there : step n (slice_index other x) next end = subst (λ (m : Near). step m (slice_index other x) next end) (near_same above2 above row other x so_far.0) now in
    let from_mid : step n (slice_index other x) mid end = subst (λ (s : S). step n (slice_index other x) s end) (sym so_far.1) there in
    let same = one n (slice_index row x) (slice_index other x) mid new end here from_mid in
    (agree_more row other x so_far.0 (sym same.0), same.1)

pub one_row : {S : Type 0} (step : Near → ℕ → S → S → Type 0) → IsFunction step → (above2 above row other : List ℕ) (old new end : S) → length row ≡ length other
    → InRow step (rows above2 above row) (length row) old new → InRow step (rows above2 above other) (length other) old end → (row ≡ other) × (new ≡ end)
one_row step one above2 above row other old new end len first second =
    let same = one_row_to step one above2 above row other (length row) old new end first
    (subst (λ (x : ℕ). InRow step (rows above2 above other) x old end) (sym len) second) in
    (same_number_lists row other len (λ k lt. sym (same.0 k lt)), same.1)

-- what is read up to a column, and the sample there, of what is read further on
up_to : {S : Type 0} (step : Near → ℕ → S → S → Type 0) (r : Rows) (x count : ℕ) (old new : S) → x < count → InRow step r count old new
    → (mid next : S) × InRow step r x old mid × step (near r x) (slice_index r.row x) mid next
up_to step r x zero old new lt done = absurd (omega arith)
up_to {S} step r x (suc n) old new lt (last, before, here) =
    elim (cases_lt x n) [
      | inl below ↦ up_to step r x n old last below before
      | inr above ↦
          let at : n ≡ x = omega arith in
          subst (λ (k : ℕ). (mid next : S) × InRow step r k old mid × step (near r k) (slice_index r.row k) mid next) at (last, new, before, here)
    ]

-- A row that is read isn't one in which the coder is stuck.
pub row_or_stuck : {S : Type 0} (step : Near → ℕ → S → S → Type 0) (stuck : Near → S → Type 0) → IsFunction step → IsApart step stuck
    → (above2 above row other : List ℕ) (x : ℕ) (old mid new : S) → x < length row
    → InRow step (rows above2 above row) (length row) old new → InRow step (rows above2 above other) x old mid → stuck (near (rows above2 above other) x) mid → ⊥
row_or_stuck {S} step stuck one apart above2 above row other x old mid new within done before late =
    let here = up_to step (rows above2 above row) x (length row) old new within done in
    let so_far = one_row_to step one above2 above row other x old here.0 mid here.2 before in
    let n : Near = near (rows above2 above row) x in
    let at : stuck n mid = subst (λ (m : Near). stuck m mid) (near_same above2 above row other x so_far.0) late in
    apart n (slice_index row x) mid here.1 (subst (λ (s : S). step n (slice_index row x) s here.1) so_far.1 here.3) at

-- ---- the rows of planes
-- All rows have a width.
abbrev pub AreWide : ℕ → List (List ℕ) → Type 0
AreWide width plane = (y : ℕ) → y < length plane → length (slice_index_or plane y []) ≡ width

pub plane_wide : (width height : ℕ) (plane : List (List ℕ)) → IsPlane width height plane → AreWide width plane
plane_wide width height plane sizes y lt = (sizes.rows y (omega (arith, sizes.len, lt))).len

pub front_wide : (width height : ℕ) (plane : List (List ℕ)) → IsFront width height plane → AreWide width plane
front_wide width height plane sizes y lt = (sizes.each y lt).len
