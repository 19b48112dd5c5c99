-- The state of the machine: the history of the timeline, the jobs, the recipes of the filed results, latest first, and the exports.
use Rattle.std.specs.Prelude.{◌≡◌, ℕ, zero, suc, ◌+◌, ◌-◌, ◌*◌, ◌≤◌, if◌then◌else◌, not, ◌&&◌, ◌||◌, Bool, false, List, [], ◌∷◌, ◌++◌, length, take, drop, slice_get, Option, Some, None, is_some, is_none}
use Rattle.std.specs.List.{count_by, list_any}
use Rattle.tl_model.specs.Recipe.{same_recipe}
use Rattle.tl_model.specs.declared.recipe.Recipe.{Recipe}
use Rattle.tl_model.specs.Cells.{Cell, recipes, is_among}
use Rattle.edit_undo.specs.History.{History, blank}
use Rattle.render_core.specs.declared.job.Job.{Job}
use Rattle.render_core.specs.declared.export.Stage.TheVariants as stage
use Rattle.render_core.specs.Export.{ExportOf, is_untaken, is_taken}

-- Jobs and exports are counted from 1, in order.
pub record State : Type 0 where
  pub history : History
  pub jobs : List Job
  pub filed : List Recipe
  pub exports : List ExportOf
  pub is_stopped : Bool

abbrev pub start : State
start = record { history = blank; jobs = []; filed = []; exports = []; is_stopped = false }

abbrev pub is_open : Job → Bool
is_open job = is_none job.closed

abbrev pub is_held : Job → Bool
is_held job = is_some job.holder

abbrev pub is_queued : Job → Bool
is_queued job = is_open job && not (is_held job)

-- A job that no pass holds is free; a job that is closed at an entry keeps its holder.
abbrev pub with_holder : ℕ → Job → Job
with_holder pass job = record job { holder = Some pass }

abbrev pub without_holder : Job → Job
without_holder job = record job { holder = None }

abbrev pub with_result : ℕ → Job → Job
with_result at job = record job { holder = None; closed = Some at }

abbrev pub close_if : (Recipe → Bool) → ℕ → Job → Job
close_if test at job = if is_open job && test job.recipe then record job { closed = Some at } else job

-- The element at a place is changed.
abbrev pub update : {A : Type 0} → ℕ → (A → A) → List A → List A
update i change [] = []
update zero change (x ∷ xs) = change x ∷ xs
update (suc i) change (x ∷ xs) = x ∷ update i change xs

-- The recipes of `len` frames from `first` on.
abbrev pub range : ℕ → ℕ → List Cell → List Recipe
range first len line = take len (drop first (recipes line))

abbrev pub has_open : Recipe → List Job → Bool
has_open recipe jobs = list_any (λ job. is_open job && same_recipe recipe job.recipe) jobs

-- A recipe that isn't filed and has no open job gets the next job.
abbrev pub new_job : Recipe → Job
new_job recipe = record { recipe = recipe; holder = None; closed = None }

abbrev pub want_one : List Recipe → Recipe → List Job → List Job
want_one filed recipe jobs = if is_among recipe filed || has_open recipe jobs then jobs else jobs ++ new_job recipe ∷ []

abbrev pub want_all : List Recipe → List Recipe → List Job → List Job
want_all filed [] jobs = jobs
want_all filed (recipe ∷ rest) jobs = want_all filed rest (want_one filed recipe jobs)

-- A recipe comes first. It stands once in a list of distinct recipes.
abbrev pub without : Recipe → List Recipe → List Recipe
without recipe [] = []
without recipe (r ∷ rs) = if same_recipe recipe r then rs else r ∷ without recipe rs

abbrev pub put_first : Recipe → List Recipe → List Recipe
put_first recipe filed = recipe ∷ without recipe filed

-- How many entries are still to come: the stop, the end of each held job, the take and the end of each export.
abbrev pub owed : State → ℕ
owed s = (if s.is_stopped then 0 else 1) + count_by is_held s.jobs + (2 * count_by is_untaken s.exports + count_by is_taken s.exports)

-- The pass holds job n, which has this recipe.
pub record Holds (s : State) (pass n : ℕ) (recipe : Recipe) : Type 0 where
  pub counted : 1 ≤ n
  pub closed : Option ℕ
  pub is_job : slice_get s.jobs (n - 1) ≡ Some (record { recipe = recipe; holder = Some pass; closed = closed })

-- The pass took export n and hasn't ended it. It has this name and this timeline.
pub record HoldsExport (s : State) (pass n : ℕ) (name : List ℕ) (line : List Cell) : Type 0 where
  pub counted : 1 ≤ n
  pub is_export : slice_get s.exports (n - 1) ≡ Some (record { name = name; line = line; stage = stage.Taken pass })

-- What holds after every journal: the results are at most as many as the cache holds, and a recipe has an open job or a filed result
-- at most once.
pub record IsOrderly (cache : ℕ) (s : State) : Type 0 where
  pub few : length s.filed ≤ cache
  pub once : (recipe : Recipe) → count_by (λ job. is_open job && same_recipe recipe job.recipe) s.jobs
      + count_by (same_recipe recipe) s.filed ≤ 1
