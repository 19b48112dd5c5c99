-- What the parts of the machine's code keep and answer.
use Rattle.std.specs.Prelude.{◌≡◌, ℕ, ◌<◌, ◌≤◌, not, ◌&&◌, ◌==◌, Bool, true, false, List, [], ◌∷◌, map, length, slice_get, Option, Some, None, Result, Ok, Err}
use Rattle.std.specs.List.{count_by, remove}
use Rattle.tl_model.specs.Media.{Library, CanRender, RenderedOf}
use Rattle.tl_model.specs.Recipe.{same_recipe}
use Rattle.tl_model.specs.Sound.{IsSound}
use Rattle.tl_model.specs.declared.journal.Act.{Act}
use Rattle.tl_model.specs.declared.recipe.Recipe.{Recipe}
use Rattle.tl_model.specs.declared.edit.EditReply.{EditReply}
use Rattle.tl_model.specs.declared.edit.EditReply.TheVariants as answer
use Rattle.tl_model.specs.Cells.{Cell, recipes, is_among}
use Rattle.edit_undo.specs.History.{History, IsSoundHistory}
use Rattle.render_core.specs.declared.job.Job.{Job}
use Rattle.render_core.specs.Claim.{ClaimOf}
use Rattle.render_core.specs.Export.{ExportOf}
use Rattle.render_core.specs.State.{State, is_open, close_if, without, Holds}
use Rattle.render_core.specs.Step.{Setup, Reply, step, reply}

-- Where a recipe first stands in a list.
abbrev pub Places : Recipe → List Recipe → Option ℕ → Type 0
Places recipe rs None = is_among recipe rs ≡ false
Places recipe rs (Some i) = (i < length rs) × (is_among recipe rs ≡ true) × (slice_get rs i ≡ Some recipe)
    × (without recipe rs ≡ remove rs i)

abbrev pub recipes_of : {M : Type 0} → List (RenderedOf M) → List Recipe
recipes_of results = map (λ r. r.recipe) results

-- The result at a place comes first.
abbrev pub MovesFirst : {M : Type 0} → (old new : List (RenderedOf M)) (place : ℕ) → Type 0
MovesFirst {M} old new place = (r : RenderedOf M) → slice_get old place ≡ Some r → new ≡ r ∷ remove old place

-- All were rendered in this library.
abbrev pub AreOf : {M : Type 0} → M → List (RenderedOf M) → Type 0
AreOf library [] = Unit {0}
AreOf library (r ∷ rs) = (r.library ≡ library) × AreOf library rs

-- The job that was found has this recipe and is held by the pass.
abbrev pub is_by : ℕ → Option ℕ → Bool
is_by pass None = false
is_by pass (Some holder) = holder == pass

abbrev pub is_held_by : ℕ → Recipe → Option Job → Bool
is_held_by pass recipe None = false
is_held_by pass recipe (Some job) = is_by pass job.holder && same_recipe recipe job.recipe

-- An edit that was made closes the jobs whose recipe is that of no cell.
abbrev pub jobs_after : EditReply → (line : List Cell) → (at : ℕ) → List Job → List Job
jobs_after (answer.Ok len) line at jobs = map (close_if (λ recipe. not (is_among recipe (recipes line))) at) jobs
jobs_after (answer.Refused why) line at jobs = jobs
jobs_after answer.NothingToUndo line at jobs = jobs
jobs_after answer.NothingToRedo line at jobs = jobs

-- No recipe has two open jobs.
abbrev pub HasOneOpen : List Job → Type 0
HasOneOpen jobs = (recipe : Recipe) → count_by (λ job. is_open job && same_recipe recipe job.recipe) jobs ≤ 1

-- The machine's parts as contracts see them.
pub record MachineOf (M : Type 0) : Type 0 where
  pub library : M
  pub cache : ℕ
  pub state : State

-- Some pass holds the job of a claim.
abbrev pub IsHeld : State → ClaimOf → Type 0
IsHeld s claim = (pass : ℕ) × Holds s pass claim.job claim.recipe

-- Every job's recipe can be rendered.
abbrev pub AreShown : {F : Type 0} → Library F → List Job → Type 0
AreShown lib [] = Unit {0}
AreShown lib (job ∷ jobs) = CanRender lib job.recipe × AreShown lib jobs

-- Every export's timeline is sound.
abbrev pub AreSoundExports : {F : Type 0} → Library F → List ExportOf → Type 0
AreSoundExports lib [] = Unit {0}
AreSoundExports lib (x ∷ xs) = IsSound lib x.line × AreSoundExports lib xs

-- The library and the contents of the machine.
pub record Contents (M : Type 0) : Type 0 where
  pub library : M
  pub history : History
  pub jobs : List Job
  pub results : List (RenderedOf M)
  pub exports : List ExportOf

-- What the machine keeps.
pub record IsMachine {M F : Type 0} (library : M → Library F) (m : Contents M) : Type 0 where
  pub sound : IsSoundHistory (library m.library) m.history
  pub results_are : AreOf m.library m.results
  pub one_open : HasOneOpen m.jobs
  pub shown : AreShown (library m.library) m.jobs
  pub exports_sound : AreSoundExports (library m.library) m.exports

-- The same machine in another state.
abbrev pub in_state : {M : Type 0} → State → MachineOf M → MachineOf M
in_state state machine = record { library = machine.library; cache = machine.cache; state = state }

-- A call of the machine as entry `at`, and how its answer is read as a reply.
pub record TurnAs (R F : Type 0) : Type 0 where
  pub at : ℕ
  pub pass : ℕ
  pub act : Act
  pub view : R → Reply F

abbrev pub setup_at : {M F : Type 0} → (M → Library F) → MachineOf M → Setup F
setup_at library m = record { library = library m.library; cache = m.cache }

-- The machine takes its step and gives its reply.
abbrev pub TurnsTo : {M R F : Type 0} → (M → Library F) → TurnAs R F → (old new : MachineOf M) → R → Type 0
TurnsTo library turn old new given =
    (new ≡ in_state (step (setup_at library old) turn.at turn.pass turn.act old.state) old)
    × (turn.view given ≡ reply (library old.library) turn.act old.state)

-- Or it wants memory.
abbrev pub Turns : {M R F E : Type 0} → (M → Library F) → TurnAs R F → (old new : MachineOf M) → Result R E → Type 0
Turns library turn old new (Ok given) = TurnsTo library turn old new given
Turns library turn old new (Err why) = new ≡ old
