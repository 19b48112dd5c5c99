-- The cells of a grid reach each sample of a picture.
use Rattle.std.proofs.Common.{◌≡◌, ℕ, zero, suc, ◌+◌, ◌-◌, ◌*◌, ◌/◌, ◌^◌, ◌<◌, ◌≤◌, sym, ◌∙◌, ap, subst, arith, add-one, inl, inr}
use Rattle.std.proofs.lemmas.Bool.{cases_lt}
use Rattle.std.proofs.Math.Nat.{mul-div_right, zero-div}
use Rattle.pic_planes.specs.Shape.{shifted_down, shifted_up}
use Rattle.ffv1_record.specs.Suits.{ReachesEnd}
use Rattle.ffv1_slice.specs.Cells.{cell_start}
use Rattle.ffv1_slice.proofs.CellLemmas.{cell_later}

-- ---- one direction
-- a sample of luma that a cell has
pub record HasSample (cells size : ℕ) (x cell : ℕ) : Type 0 where
  pub within : cell < cells
  pub from : cell_start cells size cell ≤ x
  pub below : x < cell_start cells size (cell + 1)

start_whole : (cells size : ℕ) → 1 ≤ cells → cell_start cells size cells ≡ size
start_whole cells size some = mul-div_right size (omega arith)

start_zero : (cells size : ℕ) → cell_start cells size 0 ≡ 0
start_zero cells size = ap (λ n. n / cells) {x = 0 * size} {y = 0} (omega arith) ∙ zero-div cells

before_cell : (cells size x n : ℕ) → n ≤ cells → x < cell_start cells size n → (cell : ℕ) × HasSample cells size x cell
before_cell cells size x zero within lt = absurd (omega (arith, lt, start_zero cells size))
before_cell cells size x (suc n) within lt =
    elim (cases_lt x (cell_start cells size n)) [
      | inl before ↦ before_cell cells size x n (omega arith) before
      | inr at ↦ (n, record { within = omega arith; from = at; below = subst (λ k. x < cell_start cells size k) (sym (add-one n)) lt })
    ]

pub luma_covered : (cells size x : ℕ) → 1 ≤ cells → x < size → (cell : ℕ) × HasSample cells size x cell
luma_covered cells size x some lt = before_cell cells size x cells (omega arith) (subst (λ n. x < n) (sym (start_whole cells size some)) lt)

-- a sample of chroma that a cell has: starts are rounded down, and sizes up
pub record HasChroma (cells size shift : ℕ) (x cell : ℕ) : Type 0 where
  pub within : cell < cells
  pub from : shifted_down (cell_start cells size cell) shift ≤ x
  pub below : x < shifted_down (cell_start cells size cell) shift + shifted_up (cell_start cells size (cell + 1) - cell_start cells size cell) shift

-- no sample is left out between two cells
no_gap : (a b shift : ℕ) → shift ≤ 2 → a ≤ b → shifted_down b shift ≤ shifted_down a shift + shifted_up (b - a) shift
no_gap a b zero small le = omega arith
no_gap a b (suc zero) small le = omega arith
no_gap a b (suc (suc zero)) small le = omega arith
no_gap a b (suc (suc (suc n))) small le = absurd (omega arith)

chroma_before : (cells size shift x n : ℕ) → 1 ≤ cells → cells ≤ size → shift ≤ 2 → n ≤ cells → x < shifted_down (cell_start cells size n) shift → (cell : ℕ) × HasChroma cells size shift x cell
chroma_before cells size shift x zero some wide small within lt = absurd (omega (arith, lt, ap (λ n. shifted_down n shift) (start_zero cells size), zero-div (2 ^ shift)))
chroma_before cells size shift x (suc n) some wide small within lt =
    elim (cases_lt x (shifted_down (cell_start cells size n) shift)) [
      | inl before ↦ chroma_before cells size shift x n some wide small (omega arith) before
      | inr at ↦
          let next : suc n ≡ n + 1 = sym (add-one n) in
          let later : cell_start cells size n ≤ cell_start cells size (n + 1) = omega (arith, cell_later cells size n (n + 1) some wide (omega arith)) in
          let here : x < shifted_down (cell_start cells size (n + 1)) shift = subst (λ k. x < shifted_down (cell_start cells size k) shift) next lt in
          let gap = no_gap (cell_start cells size n) (cell_start cells size (n + 1)) shift small later in
          (n, record { within = omega arith; from = at; below = omega (arith, gap, here) })
    ]

pub chroma_covered : (cells size shift x : ℕ) → 1 ≤ cells → cells ≤ size → shift ≤ 2 → ReachesEnd cells size shift → x < shifted_up size shift → (cell : ℕ) × HasChroma cells size shift x cell
chroma_covered cells size shift x some wide small reaches lt =
    let last : ℕ = cells - 1 in
    elim (cases_lt x (shifted_down (cell_start cells size last) shift)) [
      | inl before ↦ chroma_before cells size shift x last some wide small (omega arith) before
      | inr at ↦
          let end : cell_start cells size (last + 1) ≡ size = ap (cell_start cells size) (omega arith) ∙ start_whole cells size some in
          let width : shifted_up (cell_start cells size (last + 1) - cell_start cells size last) shift ≡ shifted_up (size - cell_start cells size last) shift = ap (λ n. shifted_up (n - cell_start cells size last) shift) end in
          (last, record { within = omega arith; from = at; below = omega (arith, reaches, width, lt) })
    ]
