-- What is owed after each entry.
use Rattle.std.proofs.Common.{◌≡◌, ℕ, ◌+◌, ◌-◌, cond, not, Bool, true, false, ◌&&◌, ◌||◌, List, [], ◌∷◌, ◌++◌, get_or, take, map, Option, Some, None, Result, Ok, Err, refl, ap, ◌∙◌, arith}
use Rattle.std.specs.Prelude.{slice_get, is_none, IsSome}
use Rattle.std.specs.List.{count_by, position}
use Rattle.std.proofs.lemmas.Option.{slice_get-get_or}
use Rattle.std.proofs.lemmas.List.Quantifiers.{position-Some}
use Rattle.tl_model.specs.declared.recipe.Recipe.{Recipe}
use Rattle.tl_model.specs.declared.recipe.Recipe.TheVariants as recipe
use Rattle.tl_model.specs.declared.edit.EditReply.{EditReply}
use Rattle.tl_model.specs.declared.journal.Act.{Act}
use Rattle.tl_model.specs.declared.journal.Act.TheVariants as act
use Rattle.tl_model.specs.Cells.{Cell, is_among, recipes}
use Rattle.edit_undo.specs.History.{History, edit_outcome, undo_outcome, redo_outcome}
use Rattle.render_core.specs.declared.job.Job.{Job}
use Rattle.render_core.specs.declared.export.Stage.TheVariants as stage
use Rattle.render_core.specs.Export.{ExportOf, is_untaken, is_taken, with_taker, with_ending}
use Rattle.render_core.specs.State.{State, is_open, is_held, is_queued, with_holder, without_holder, with_result, close_if, update, has_open, new_job, want_one, want_all, range, put_first, owed, Holds, HoldsExport}
use Rattle.render_core.specs.Step.{Setup, IsLegal, need, step, is_past, is_empty, with_history, jobs_after_want, after_claim, after_file, after_play, new_export, after_take}
use Rattle.render_core.proofs.JobLists.{weight, count_map_same, count_update, count_push}

-- nothing is held or let go
close_weight : (test : Recipe → Bool) (at : ℕ) (job : Job) → weight is_held (close_if test at job) ≡ weight is_held job
close_weight test at job = by_test (is_open job && test job.recipe)
  where
    by_test : (b : Bool) → weight is_held (cond b (record job { closed = Some at }) job) ≡ weight is_held job
    by_test true = refl
    by_test false = refl

owed-jobs : (s : State) (jobs : List Job) → count_by is_held jobs ≡ count_by is_held s.jobs → owed (record s { jobs = jobs }) ≡ owed s
owed-jobs s jobs e = omega (arith, e)

owed-history : (at : ℕ) (o : Result History EditReply) (s : State) → owed (with_history at o s) ≡ owed s
owed-history at (Err why) s = refl
owed-history at (Ok next) s =
    let test : Recipe → Bool = λ recipe. not (is_among recipe (recipes next.line)) in
    owed-jobs s (map (close_if test at) s.jobs) (count_map_same is_held (close_if test at) (close_weight test at) s.jobs)

held_want_by : (jobs : List Job) (recipe : Recipe) (b : Bool) → count_by is_held (cond b jobs (jobs ++ new_job recipe ∷ [])) ≡ count_by is_held jobs
held_want_by jobs recipe true = refl
held_want_by jobs recipe false = omega (arith, count_push is_held jobs (new_job recipe))

held_want : (filed rs : List Recipe) (jobs : List Job) → count_by is_held (want_all filed rs jobs) ≡ count_by is_held jobs
held_want filed [] jobs = refl
held_want filed (r ∷ rs) jobs = held_want filed rs (want_one filed r jobs) ∙ held_want_by jobs r (is_among r filed || has_open r jobs)

either : (b : Bool) (s t : State) → owed t ≡ owed s → owed (cond b s t) ≡ owed s
either true s t e = refl
either false s t e = e

owed-play : (o : Option Recipe) (s : State) → owed (after_play o s) ≡ owed s
owed-play None s = refl
owed-play (Some recipe) s = either_of (is_among recipe s.filed)
  where
    either_of : (b : Bool) → owed (cond b (record s { filed = put_first recipe s.filed }) s) ≡ owed s
    either_of true = refl
    either_of false = refl

-- a held job is owed
owed-release : (s : State) (pass n : ℕ) (recipe : Recipe) → Holds s pass n recipe → owed (record s { jobs = update (n - 1) without_holder s.jobs }) + 1 ≡ owed s
owed-release s pass n recipe h =
    let e = count_update is_held without_holder s.jobs (n - 1) (record { recipe = recipe; holder = Some pass; closed = h.closed }) h.is_job in
    omega (arith, e)

owed-result : (s : State) (filed : List Recipe) (at pass n : ℕ) (recipe : Recipe) → Holds s pass n recipe → owed (record s { jobs = update (n - 1) (with_result at) s.jobs; filed = filed }) + 1 ≡ owed s
owed-result s filed at pass n recipe h =
    let e = count_update is_held (with_result at) s.jobs (n - 1) (record { recipe = recipe; holder = Some pass; closed = h.closed }) h.is_job in
    omega (arith, e)

owed-file_by : (cache at pass n : ℕ) (recipe : Recipe) (s : State) → Holds s pass n recipe → (b : Bool) → owed (cond b (record s { jobs = update (n - 1) (with_result at) s.jobs; filed = take cache (recipe ∷ s.filed) }) (record s { jobs = update (n - 1) without_holder s.jobs })) + 1 ≡ owed s
owed-file_by cache at pass n recipe s h true = owed-result s (take cache (recipe ∷ s.filed)) at pass n recipe h
owed-file_by cache at pass n recipe s h false = owed-release s pass n recipe h

owed-file : (cache at pass n : ℕ) (recipe : Recipe) (s : State) → Holds s pass n recipe → owed (after_file cache at (n - 1) (slice_get s.jobs (n - 1)) s) + 1 ≡ owed s
owed-file cache at pass n recipe s h = ap (λ (o : Option Job). owed (after_file cache at (n - 1) o s) + 1) h.is_job ∙ owed-file_by cache at pass n recipe s h (is_none h.closed)

not_held : (job : Job) → is_queued job ≡ true → weight is_held job ≡ 0
not_held job e = by_parts (is_open job) (is_held job) e
  where
    by_parts : (a b : Bool) → (a && not b) ≡ true → cond {A = ℕ} b 1 0 ≡ 0
    by_parts true false e = refl
    by_parts true true e = absurd cc
    by_parts false b e = absurd cc

owed-claim : (pass : ℕ) (o : Option ℕ) (s : State) → position is_queued s.jobs ≡ o → IsSome o → owed (after_claim pass o s) ≡ owed s + 1
owed-claim pass None s e some = absurd (let h : false ≡ true = some in cc)
owed-claim pass (Some place) s e some =
    let none : Job = record { recipe = recipe.Black; holder = None; closed = None } in
    let found = position-Some is_queued s.jobs place none e in
    let job = get_or s.jobs place none in
    let free = not_held job found.1 in
    let c = count_update is_held (with_holder pass) s.jobs place job (slice_get-get_or s.jobs place none found.0) in
    omega (arith, c, free)

-- an export is owed its take and its end
owed-ask : (name : List ℕ) (s : State) (b : Bool) → owed (cond b s (record s { exports = s.exports ++ new_export name s ∷ [] })) + 1 ≡ owed s + cond b 1 3
owed-ask name s true = refl
owed-ask name s false = omega (arith, count_push is_untaken s.exports (new_export name s), count_push is_taken s.exports (new_export name s))

not_taken : (x : ExportOf) → is_untaken x ≡ true → (weight is_untaken x ≡ 1) × (weight is_taken x ≡ 0)
not_taken x e = by_stage x.stage e
  where
    by_stage : (t : _) → is_untaken (record x { stage = t }) ≡ true → (weight is_untaken (record x { stage = t }) ≡ 1) × (weight is_taken (record x { stage = t }) ≡ 0)
    by_stage stage.Untaken e = (refl, refl)
    by_stage (stage.Taken by) e = absurd cc
    by_stage (stage.Ended ending) e = absurd cc

owed-take : (pass : ℕ) (o : Option ℕ) (s : State) → position is_untaken s.exports ≡ o → IsSome o → owed (after_take pass o s) + 1 ≡ owed s
owed-take pass None s e some = absurd (let h : false ≡ true = some in cc)
owed-take pass (Some place) s e some =
    let none : ExportOf = record { name = []; line = []; stage = stage.Untaken } in
    let found = position-Some is_untaken s.exports place none e in
    let export = get_or s.exports place none in
    let at = slice_get-get_or s.exports place none found.0 in
    let w = not_taken export found.1 in
    let a = count_update is_untaken (with_taker pass) s.exports place export at in
    let b = count_update is_taken (with_taker pass) s.exports place export at in
    omega (arith, a, b, w.0, w.1)

owed-end : (s : State) (ending : _) (pass n : ℕ) (name : List ℕ) (line : List Cell) → HoldsExport s pass n name line → owed (record s { exports = update (n - 1) (with_ending ending) s.exports }) + 1 ≡ owed s
owed-end s ending pass n name line h =
    let a = count_update is_untaken (with_ending ending) s.exports (n - 1) (record { name = name; line = line; stage = stage.Taken pass }) h.is_export in
    let b = count_update is_taken (with_ending ending) s.exports (n - 1) (record { name = name; line = line; stage = stage.Taken pass }) h.is_export in
    omega (arith, a, b)

owed-stop : (s : State) → s.is_stopped ≡ false → owed (record s { is_stopped = true }) + 1 ≡ owed s
owed-stop s e =
    let one : cond {A = ℕ} s.is_stopped 0 1 ≡ 1 = ap (λ (b : Bool). cond {A = ℕ} b 0 1) e in
    omega (arith, one)

one_more : (before now : ℕ) → now ≡ before → now + 1 ≡ before + 1
one_more before now e = ap (λ (k : ℕ). k + 1) e

two_more : (before now : ℕ) → now ≡ before + 1 → now + 1 ≡ before + 2
two_more before now e = omega (arith, e)

none_more : (before now : ℕ) → now + 1 ≡ before → now + 1 ≡ before + 0
none_more before now e = omega (arith, e)

-- an entry takes its own place of those that it needs, or of those owed
pub owed-step : {F : Type 0} (setup : Setup F) (at pass : ℕ) (what : Act) (s : State) → IsLegal pass what s → owed (step setup at pass what s) + 1 ≡ owed s + need what s
owed-step setup at pass (act.Edit edit) s legal = one_more _ _ (owed-history at (edit_outcome setup.library edit s.history) s)
owed-step setup at pass act.Undo s legal = one_more _ _ (owed-history at (undo_outcome s.history) s)
owed-step setup at pass act.Redo s legal = one_more _ _ (owed-history at (redo_outcome s.history) s)
owed-step setup at pass (act.Want first len) s legal =
    one_more _ _ (either (is_past first len s) s (record s { jobs = jobs_after_want first len s }) (owed-jobs s (jobs_after_want first len s) (held_want s.filed (range first len s.history.line) s.jobs)))
owed-step setup at pass (act.Cancel first len) s legal =
    let test : Recipe → Bool = λ recipe. is_among recipe (range first len s.history.line) in
    one_more _ _ (either (is_past first len s) s (record s { jobs = map (close_if test at) s.jobs }) (owed-jobs s (map (close_if test at) s.jobs) (count_map_same is_held (close_if test at) (close_weight test at) s.jobs)))
owed-step setup at pass act.Claim s legal = two_more _ _ (owed-claim pass (position is_queued s.jobs) s refl legal.1)
owed-step setup at pass (act.File job) s legal = none_more _ _ (owed-file setup.cache at pass job legal.0 s legal.1)
owed-step setup at pass (act.Release job) s legal = none_more _ _ (owed-release s pass job legal.0 legal.1)
owed-step setup at pass (act.Play n) s legal = one_more _ _ (owed-play (slice_get (recipes s.history.line) n) s)
owed-step setup at pass (act.Show n) s legal = one_more _ _ (owed-play (slice_get (recipes s.history.line) n) s)
owed-step setup at pass (act.Ask name) s legal = owed-ask name s (is_empty s)
owed-step setup at pass act.Take s legal = none_more _ _ (owed-take pass (position is_untaken s.exports) s refl legal)
owed-step setup at pass (act.End export ending) s legal = none_more _ _ (owed-end s ending pass export legal.0 legal.1 legal.2)
owed-step setup at pass (act.Mark turns) s legal = refl
owed-step setup at pass act.Skip s legal = refl
owed-step setup at pass act.Stop s legal = none_more _ _ (owed-stop s legal.1)
