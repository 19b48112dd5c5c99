-- Steps in turn, as over the rows of a plane, the planes of a part and the parts of a slice.
use Rattle.std.specs.Prelude.{◌≡◌, ◌⊎◌, List, [], ◌∷◌}

-- Each step goes on from where the one before left.
abbrev pub InTurn : {A S : Type 0} → (A → S → S → Type 0) → List A → S → S → Type 0
InTurn step [] old new = old ≡ new
InTurn {A} {S} step (x ∷ more) old new = (mid : S) × step x old mid × InTurn step more mid new

-- A step fails, and those before it are done.
abbrev pub FailsInTurn : {A S : Type 0} → (A → S → S → Type 0) → (A → S → Type 0) → List A → S → Type 0
FailsInTurn step fails [] old = ⊥
FailsInTurn {A} {S} step fails (x ∷ more) old = fails x old ⊎ ((mid : S) × step x old mid × FailsInTurn step fails more mid)
