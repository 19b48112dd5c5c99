-- Coding order: the rows of a plane from the top, the samples of a row from the left. RFC 9043 sections 4.6 and 4.7.
use Rattle.std.specs.Prelude.{◌≡◌, ℕ, zero, suc, List, [], ◌∷◌, length, slice_index}
use Rattle.ffv1_predict.specs.declared.near.Near.{Near}
use Rattle.ffv1_predict.specs.Border.{Rows, near}

-- A step says what one sample does to the state of a coder, by its neighbours. The first samples of a row do this.
abbrev pub InRow : {S : Type 0} → (Near → ℕ → S → S → Type 0) → Rows → ℕ → S → S → Type 0
InRow step r zero old new = old ≡ new
InRow {S} step r (suc x) old new = (mid : S) × InRow step r x old mid × step (near r x) (slice_index r.row x) mid new

-- all samples of rows
abbrev pub InRows : {S : Type 0} → (Near → ℕ → S → S → Type 0) → List Rows → S → S → Type 0
InRows step [] old new = old ≡ new
InRows {S} step (r ∷ more) old new = (mid : S) × InRow step r (length r.row) old mid × InRows step more mid new
