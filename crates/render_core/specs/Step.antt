-- The machine. Entry by entry: where it may come, the state after it, and its reply.
use Rattle.std.specs.Prelude.{◌≡◌, ℕ, ◌+◌, ◌-◌, ◌==◌, nat_lt, if◌then◌else◌, not, ◌&&◌, Bool, true, false, List, [], ◌∷◌, ◌++◌, map, length, take, slice_get, Option, Some, None, IsSome, Result, Ok, Err}
use Rattle.std.specs.List.{count_by, position}
use Rattle.tl_model.specs.Edit.{IsEdit}
use Rattle.tl_model.specs.Media.{Library}
use Rattle.tl_model.specs.declared.recipe.Recipe.{Recipe}
use Rattle.tl_model.specs.declared.fault.RenderFault.{RenderFault}
use Rattle.tl_model.specs.declared.edit.EditReply.{EditReply}
use Rattle.tl_model.specs.declared.edit.EditReply.TheVariants as answer
use Rattle.tl_model.specs.declared.journal.Act.{Act}
use Rattle.tl_model.specs.declared.journal.Act.TheVariants as act
use Rattle.tl_model.specs.declared.journal.Entry.{Entry}
use Rattle.tl_model.specs.Cells.{Cell, recipes, is_among}
use Rattle.edit_undo.specs.History.{History, edit_outcome, undo_outcome, redo_outcome}
use Rattle.render_core.specs.declared.job.Job.{Job}
use Rattle.render_core.specs.declared.export.Stage.TheVariants as stage
use Rattle.render_core.specs.Export.{ExportOf, is_untaken, with_taker, with_ending}
use Rattle.render_core.specs.State.{State, start, is_open, is_queued, with_holder, without_holder, with_result, close_if, update, range, want_all, put_first, Holds, HoldsExport}

-- What a session is played with: its library, and how many results are kept.
pub record Setup (F : Type 0) : Type 0 where
  pub library : Library F
  pub cache : ℕ

-- A reply, with F the type of a picture.
pub data Reply (F : Type 0) : Type 0 where
  Edited : EditReply → Reply F
  Wanted : ℕ → Reply F
  Cancelled : ℕ → Reply F
  PastEnd : ℕ → Reply F
  Claimed : ℕ → Recipe → Reply F
  Filed : Reply F
  Released : Reply F
  Closed : ℕ → Reply F
  Picture : F → Reply F
  Fault : RenderFault → Reply F
  Pending : Recipe → Reply F
  Render : Recipe → Reply F
  Asked : ℕ → Reply F
  EmptyTimeline : Reply F
  Taken : ℕ → (name : List ℕ) → (line : List Cell) → Reply F
  Silent : Reply F

-- An entry of this pass and act may come in this state.
abbrev pub IsLegal : ℕ → Act → State → Type 0
IsLegal pass (act.Edit edit) s = IsEdit edit
IsLegal pass act.Undo s = Unit {0}
IsLegal pass act.Redo s = Unit {0}
IsLegal pass (act.Want first len) s = Unit {0}
IsLegal pass (act.Cancel first len) s = Unit {0}
IsLegal pass act.Claim s = (s.is_stopped ≡ false) × IsSome (position is_queued s.jobs)
IsLegal pass (act.File job) s = (recipe : Recipe) × Holds s pass job recipe
IsLegal pass (act.Release job) s = (recipe : Recipe) × Holds s pass job recipe
IsLegal pass (act.Play n) s = Unit {0}
IsLegal pass (act.Show n) s = Unit {0}
IsLegal pass (act.Ask name) s = Unit {0}
IsLegal pass act.Take s = IsSome (position is_untaken s.exports)
IsLegal pass (act.End export ending) s = (name : List ℕ) × (line : List Cell) × HoldsExport s pass export name line
IsLegal pass (act.Mark turns) s = Unit {0}
IsLegal pass act.Skip s = Unit {0}
IsLegal pass act.Stop s = (pass ≡ 0) × (s.is_stopped ≡ false)

abbrev pub is_past : ℕ → ℕ → State → Bool
is_past first len s = nat_lt (length s.history.line) (first + len)

abbrev pub is_empty : State → Bool
is_empty s = length s.history.line == 0

-- How many entries an act needs beside those owed.
abbrev pub need : Act → State → ℕ
need (act.Edit edit) s = 1
need act.Undo s = 1
need act.Redo s = 1
need (act.Want first len) s = 1
need (act.Cancel first len) s = 1
need act.Claim s = 2
need (act.File job) s = 0
need (act.Release job) s = 0
need (act.Play n) s = 1
need (act.Show n) s = 1
need (act.Ask name) s = if is_empty s then 1 else 3
need act.Take s = 0
need (act.End export ending) s = 0
need (act.Mark turns) s = 1
need act.Skip s = 1
need act.Stop s = 0

-- A new timeline closes each open job whose recipe is that of no cell.
abbrev pub with_history : ℕ → Result History EditReply → State → State
with_history at (Err why) s = s
with_history at (Ok next) s =
    record s { history = next; jobs = map (close_if (λ recipe. not (is_among recipe (recipes next.line))) at) s.jobs }

abbrev pub edit_reply : {F : Type 0} → Result History EditReply → Reply F
edit_reply (Err why) = Edited why
edit_reply (Ok next) = Edited (answer.Ok (length next.line))

abbrev pub jobs_after_want : ℕ → ℕ → State → List Job
jobs_after_want first len s = want_all s.filed (range first len s.history.line) s.jobs

abbrev pub jobs_after_cancel : ℕ → ℕ → ℕ → State → List Job
jobs_after_cancel at first len s = map (close_if (λ recipe. is_among recipe (range first len s.history.line)) at) s.jobs

abbrev pub cancel_count : ℕ → ℕ → State → ℕ
cancel_count first len s = count_by (λ job. is_open job && is_among job.recipe (range first len s.history.line)) s.jobs

abbrev pub after_claim : ℕ → Option ℕ → State → State
after_claim pass None s = s
after_claim pass (Some i) s = record s { jobs = update i (with_holder pass) s.jobs }

abbrev pub claim_reply : {F : Type 0} → Option ℕ → Option Job → Reply F
claim_reply (Some i) (Some job) = Claimed (i + 1) job.recipe
claim_reply (Some i) None = Silent
claim_reply None job = Silent

abbrev pub place_of : Option ℕ → ℕ
place_of None = 0
place_of (Some i) = i

-- The result of an open job comes first among the filed ones, of which the last over the cache's size is dropped.
abbrev pub after_file : (cache at i : ℕ) → Option Job → State → State
after_file cache at i None s = s
after_file cache at i (Some job) s =
    if is_open job
    then record s { jobs = update i (with_result at) s.jobs; filed = take cache (job.recipe ∷ s.filed) }
    else record s { jobs = update i without_holder s.jobs }

-- This reply, or that the job was closed at an entry.
abbrev pub unless_closed : {F : Type 0} → Reply F → Option ℕ → Reply F
unless_closed told None = told
unless_closed told (Some at) = Closed at

-- The reply to the end of a job.
abbrev pub end_reply : {F : Type 0} → Reply F → Option Job → Reply F
end_reply told None = Silent
end_reply told (Some job) = unless_closed told job.closed

abbrev pub after_play : Option Recipe → State → State
after_play None s = s
after_play (Some recipe) s = if is_among recipe s.filed then record s { filed = put_first recipe s.filed } else s

-- The recipe's result is filed.
abbrev pub is_filed : Option Recipe → State → Bool
is_filed None s = false
is_filed (Some recipe) s = is_among recipe s.filed

abbrev pub picture_of : {F : Type 0} → Result F RenderFault → Reply F
picture_of (Ok frame) = Picture frame
picture_of (Err fault) = Fault fault

abbrev pub play_reply : {F : Type 0} → Library F → Option Recipe → State → Reply F
play_reply lib None s = PastEnd (length s.history.line)
play_reply lib (Some recipe) s = if is_among recipe s.filed then picture_of (lib.render recipe) else Pending recipe

-- A show is told what a play is, but that the recipe is to be rendered where that is pending.
abbrev pub show_of : {F : Type 0} → Reply F → Reply F
show_of (Edited told) = Edited told
show_of (Wanted count) = Wanted count
show_of (Cancelled count) = Cancelled count
show_of (PastEnd len) = PastEnd len
show_of (Claimed job recipe) = Claimed job recipe
show_of Filed = Filed
show_of Released = Released
show_of (Closed at) = Closed at
show_of (Picture frame) = Picture frame
show_of (Fault fault) = Fault fault
show_of (Pending recipe) = Render recipe
show_of (Render recipe) = Render recipe
show_of (Asked export) = Asked export
show_of EmptyTimeline = EmptyTimeline
show_of (Taken export name line) = Taken export name line
show_of Silent = Silent

-- An export is asked for with a copy of the timeline as it then is.
abbrev pub new_export : List ℕ → State → ExportOf
new_export name s = record { name = name; line = s.history.line; stage = stage.Untaken }

abbrev pub after_ask : List ℕ → State → State
after_ask name s = if is_empty s then s else record s { exports = s.exports ++ new_export name s ∷ [] }

abbrev pub after_take : ℕ → Option ℕ → State → State
after_take pass None s = s
after_take pass (Some i) s = record s { exports = update i (with_taker pass) s.exports }

abbrev pub take_reply : {F : Type 0} → Option ℕ → Option ExportOf → Reply F
take_reply (Some i) (Some export) = Taken (i + 1) export.name export.line
take_reply (Some i) None = Silent
take_reply None export = Silent

-- The state after entry `at`, of this pass and act.
abbrev pub step : {F : Type 0} → Setup F → (at pass : ℕ) → Act → State → State
step setup at pass (act.Edit edit) s = with_history at (edit_outcome setup.library edit s.history) s
step setup at pass act.Undo s = with_history at (undo_outcome s.history) s
step setup at pass act.Redo s = with_history at (redo_outcome s.history) s
step setup at pass (act.Want first len) s = if is_past first len s then s else record s { jobs = jobs_after_want first len s }
step setup at pass (act.Cancel first len) s = if is_past first len s then s else record s { jobs = jobs_after_cancel at first len s }
step setup at pass act.Claim s = after_claim pass (position is_queued s.jobs) s
step setup at pass (act.File job) s = after_file setup.cache at (job - 1) (slice_get s.jobs (job - 1)) s
step setup at pass (act.Release job) s = record s { jobs = update (job - 1) without_holder s.jobs }
step setup at pass (act.Play n) s = after_play (slice_get (recipes s.history.line) n) s
step setup at pass (act.Show n) s = after_play (slice_get (recipes s.history.line) n) s
step setup at pass (act.Ask name) s = after_ask name s
step setup at pass act.Take s = after_take pass (position is_untaken s.exports) s
step setup at pass (act.End export ending) s = record s { exports = update (export - 1) (with_ending ending) s.exports }
step setup at pass (act.Mark turns) s = s
step setup at pass act.Skip s = s
step setup at pass act.Stop s = record s { is_stopped = true }

-- The reply to an entry, in the state before it.
abbrev pub reply : {F : Type 0} → Library F → Act → State → Reply F
reply lib (act.Edit edit) s = edit_reply (edit_outcome lib edit s.history)
reply lib act.Undo s = edit_reply (undo_outcome s.history)
reply lib act.Redo s = edit_reply (redo_outcome s.history)
reply lib (act.Want first len) s =
    if is_past first len s then PastEnd (length s.history.line) else Wanted (length (jobs_after_want first len s) - length s.jobs)
reply lib (act.Cancel first len) s = if is_past first len s then PastEnd (length s.history.line) else Cancelled (cancel_count first len s)
reply lib act.Claim s = claim_reply (position is_queued s.jobs) (slice_get s.jobs (place_of (position is_queued s.jobs)))
reply lib (act.File job) s = end_reply Filed (slice_get s.jobs (job - 1))
reply lib (act.Release job) s = end_reply Released (slice_get s.jobs (job - 1))
reply lib (act.Play n) s = play_reply lib (slice_get (recipes s.history.line) n) s
reply lib (act.Show n) s = show_of (play_reply lib (slice_get (recipes s.history.line) n) s)
reply lib (act.Ask name) s = if is_empty s then EmptyTimeline else Asked (length s.exports + 1)
reply lib act.Take s = take_reply (position is_untaken s.exports) (slice_get s.exports (place_of (position is_untaken s.exports)))
reply lib (act.End export ending) s = Silent
reply lib (act.Mark turns) s = Silent
reply lib act.Skip s = Silent
reply lib act.Stop s = Silent

-- The state after more entries, of which the first is entry `count + 1`.
abbrev pub after : {F : Type 0} → Setup F → (count : ℕ) → List Entry → State → State
after setup count [] s = s
after setup count (e ∷ es) s = after setup (count + 1) es (step setup (count + 1) e.pass e.act s)

abbrev pub state_after : {F : Type 0} → Setup F → List Entry → State
state_after setup journal = after setup 0 journal start

-- Each entry may come in the state after those before it.
abbrev pub AreLegal : {F : Type 0} → Setup F → (count : ℕ) → List Entry → State → Type 0
AreLegal setup count [] s = Unit {0}
AreLegal setup count (e ∷ es) s = IsLegal e.pass e.act s × AreLegal setup (count + 1) es (step setup (count + 1) e.pass e.act s)

abbrev pub IsJournal : {F : Type 0} → Setup F → List Entry → Type 0
IsJournal setup journal = AreLegal setup 0 journal start
