-- Turns of work: a claim, and its end.
use Rattle.std.specs.Prelude.{◌≡◌, ◌⊎◌, ℕ, Bool, true, false, IsTrue, List, [], ◌∷◌, flat_map, None}
use Rattle.std.specs.List.{count_by, position}
use Rattle.tl_model.specs.declared.recipe.Recipe.{Recipe}
use Rattle.tl_model.specs.declared.journal.Act.{Act}
use Rattle.tl_model.specs.declared.journal.Act.TheVariants as act
use Rattle.render_core.specs.Calls.{CallOf}
use Rattle.render_core.specs.State.{State, is_queued}
use Rattle.render_core.specs.Step.{Reply, Claimed, Filed, Released, Closed}

-- A turn: the job that was claimed, how it was ended, and what that was told.
pub record Turn (F : Type 0) : Type 0 where
  pub job : ℕ
  pub recipe : Recipe
  pub end : Act
  pub told : Reply F

-- The claim, and its end.
abbrev pub turn_calls : {F : Type 0} → (number : ℕ) → Turn F → List (CallOf F)
turn_calls number turn =
    record { pass = number; act = act.Claim; told = Claimed turn.job turn.recipe }
    ∷ record { pass = number; act = turn.end; told = turn.told } ∷ []

abbrev pub turns_calls : {F : Type 0} → (number : ℕ) → List (Turn F) → List (CallOf F)
turns_calls number turns = flat_map (turn_calls number) turns

-- The job was given back while it was open, so that it is queued again.
abbrev pub is_released : {F : Type 0} → Reply F → Bool
is_released Released = true
is_released told = false

-- The result was filed.
abbrev pub is_filed : {F : Type 0} → Reply F → Bool
is_filed Filed = true
is_filed told = false

abbrev pub filed_count : {F : Type 0} → List (Turn F) → ℕ
filed_count turns = count_by (λ turn. is_filed turn.told) turns

-- What an end may be told.
abbrev pub IsEndReply : {F : Type 0} → Reply F → Type 0
IsEndReply Filed = Unit {0}
IsEndReply Released = Unit {0}
IsEndReply (Closed at) = Unit {0}
IsEndReply other = ⊥

-- The end is that of the job that was claimed: its result, or that it was given back.
abbrev pub IsTurn : {F : Type 0} → Turn F → Type 0
IsTurn turn = ((turn.end ≡ act.File turn.job) ⊎ (turn.end ≡ act.Release turn.job)) × IsEndReply turn.told

-- Turns of which none was given back while it was open.
abbrev pub AreEnded : {F : Type 0} → List (Turn F) → Type 0
AreEnded [] = Unit {0}
AreEnded (turn ∷ turns) = IsTurn turn × (is_released turn.told ≡ false) × AreEnded turns

-- Turns of which none but the last was given back while it was open.
abbrev pub AreTurns : {F : Type 0} → List (Turn F) → Type 0
AreTurns [] = Unit {0}
AreTurns (turn ∷ []) = IsTurn turn
AreTurns (turn ∷ next ∷ turns) = IsTurn turn × (is_released turn.told ≡ false) × AreTurns (next ∷ turns)

-- The last of the turns was given back while it was open.
abbrev pub EndsReleased : {F : Type 0} → List (Turn F) → Type 0
EndsReleased [] = ⊥
EndsReleased (turn ∷ []) = IsTrue (is_released turn.told)
EndsReleased (turn ∷ next ∷ turns) = EndsReleased (next ∷ turns)

abbrev pub IsIdle : State → Type 0
IsIdle s = position is_queued s.jobs ≡ None
