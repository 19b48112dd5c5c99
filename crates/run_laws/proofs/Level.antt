-- What each entry of a journal costs, of any pass: its own place, what is owed then, and two entries for each job that is queued then.
use Rattle.std.proofs.Common.{◌≡◌, ℕ, ◌+◌, ◌*◌, ◌-◌, ◌≤◌, cond, not, Bool, true, false, ◌&&◌, ◌||◌, List, [], ◌∷◌, ◌++◌, length, get_or, map, take, drop, Option, Some, None, Result, Ok, Err, refl, ap, ◌∙◌, arith, length-take}
use Rattle.std.specs.Prelude.{slice_get, is_none, count_by, IsSome}
use Rattle.std.specs.List.{position}
use Rattle.std.proofs.lemmas.Option.{slice_get-get_or}
use Rattle.std.proofs.lemmas.List.Quantifiers.{position-Some}
use Rattle.tl_model.specs.Cells.{is_among, recipes}
use Rattle.tl_model.specs.declared.edit.EditReply.{EditReply}
use Rattle.tl_model.specs.declared.journal.Act.{Act}
use Rattle.tl_model.specs.declared.journal.Act.TheVariants as act
use Rattle.tl_model.specs.declared.recipe.Recipe.{Recipe}
use Rattle.tl_model.specs.declared.recipe.Recipe.TheVariants as recipe
use Rattle.edit_undo.specs.History.{History, edit_outcome, undo_outcome, redo_outcome}
use Rattle.render_core.specs.declared.job.Job.{Job}
use Rattle.render_core.specs.Export.{is_untaken}
use Rattle.render_core.specs.State.{State, is_open, is_queued, with_holder, without_holder, with_result, close_if, update, has_open, new_job, want_one, want_all, range, put_first, owed, Holds}
use Rattle.render_core.specs.Step.{Setup, Reply, Released, IsLegal, need, step, reply, is_past, is_empty, with_history, jobs_after_want, after_claim, after_file, after_play, after_take, new_export, end_reply, unless_closed}
use Rattle.render_core.proofs.JobLists.{weight, count_map, count_push, count_update}
use Rattle.render_core.proofs.Owed.{owed-step}
use Rattle.play_head.specs.Playing.{is_kept}
use Rattle.play_head.specs.Work.{is_released}
use Rattle.run_laws.specs.Room.{wanted_by}

abbrev pub queued_count : State → ℕ
queued_count s = count_by is_queued s.jobs

-- what is owed, and two entries for each queued job: its claim and its end
abbrev pub level : State → ℕ
level s = owed s + 2 * queued_count s

-- ---- no call of a script queues more jobs than it wants

close_queued : (test : Recipe → Bool) (at : ℕ) (job : Job) → weight is_queued (close_if test at job) ≤ weight is_queued job
close_queued test at job = by_test (is_open job && test job.recipe)
  where
    by_test : (b : Bool) → weight is_queued (cond b (record job { closed = Some at }) job) ≤ weight is_queued job
    by_test true = omega arith
    by_test false = omega arith

queued_history : (at : ℕ) (o : Result History EditReply) (s : State) → queued_count (with_history at o s) ≤ queued_count s
queued_history at (Err why) s = omega arith
queued_history at (Ok next) s =
    let test : Recipe → Bool = λ recipe. not (is_among recipe (recipes next.line)) in
    count_map is_queued (close_if test at) (close_queued test at) s.jobs

queued_want_by : (jobs : List Job) (recipe : Recipe) (b : Bool) → count_by is_queued (cond b jobs (jobs ++ new_job recipe ∷ [])) ≤ count_by is_queued jobs + 1
queued_want_by jobs recipe true = omega arith
queued_want_by jobs recipe false = omega (arith, count_push is_queued jobs (new_job recipe))

queued_want : (filed rs : List Recipe) (jobs : List Job) → count_by is_queued (want_all filed rs jobs) ≤ count_by is_queued jobs + length rs
queued_want filed [] jobs = omega arith
queued_want filed (r ∷ rs) jobs =
    let rest = queued_want filed rs (want_one filed r jobs) in
    let one = queued_want_by jobs r (is_among r filed || has_open r jobs) in
    omega (arith, rest, one)

few_if : (b : Bool) (s t : State) (n : ℕ) → queued_count t ≤ queued_count s + n → queued_count (cond b s t) ≤ queued_count s + n
few_if true s t n h = omega arith
few_if false s t n h = h

queued_play : (o : Option Recipe) (s : State) → queued_count (after_play o s) ≤ queued_count s
queued_play None s = omega arith
queued_play (Some recipe) s = by_filed (is_among recipe s.filed)
  where
    by_filed : (b : Bool) → queued_count (cond b (record s { filed = put_first recipe s.filed }) s) ≤ queued_count s
    by_filed true = omega arith
    by_filed false = omega arith

few_wanted : (first len : ℕ) (s : State) → count_by is_queued (jobs_after_want first len s) ≤ count_by is_queued s.jobs + len
few_wanted first len s =
    let all = drop first (recipes s.history.line) in
    let few = length-take len all in
    let more = queued_want s.filed (range first len s.history.line) s.jobs in
    omega (arith, few, more)

no_more : (n m : ℕ) → n ≤ m → n ≤ m + 0
no_more n m h = omega (arith, h)

queued_step : {F : Type 0} (setup : Setup F) (at by : ℕ) (what : Act) (s : State) → is_kept what ≡ true
    → queued_count (step setup at by what s) ≤ queued_count s + wanted_by what
queued_step setup at by (act.Edit edit) s k = no_more _ _ (queued_history at (edit_outcome setup.library edit s.history) s)
queued_step setup at by act.Undo s k = no_more _ _ (queued_history at (undo_outcome s.history) s)
queued_step setup at by act.Redo s k = no_more _ _ (queued_history at (redo_outcome s.history) s)
queued_step setup at by (act.Want first len) s k = few_if (is_past first len s) s (record s { jobs = jobs_after_want first len s }) len (few_wanted first len s)
queued_step setup at by (act.Cancel first len) s k =
    let test : Recipe → Bool = λ recipe. is_among recipe (range first len s.history.line) in
    few_if (is_past first len s) s (record s { jobs = map (close_if test at) s.jobs }) 0 (no_more _ _ (count_map is_queued (close_if test at) (close_queued test at) s.jobs))
queued_step setup at by act.Claim s k = absurd cc
queued_step setup at by (act.File job) s k = absurd cc
queued_step setup at by (act.Release job) s k = absurd cc
queued_step setup at by (act.Play n) s k = no_more _ _ (queued_play (slice_get (recipes s.history.line) n) s)
queued_step setup at by (act.Show n) s k = no_more _ _ (queued_play (slice_get (recipes s.history.line) n) s)
queued_step setup at by (act.Ask name) s k = few_if (is_empty s) s (record s { exports = s.exports ++ new_export name s ∷ [] }) 0 (omega arith)
queued_step setup at by act.Take s k = absurd cc
queued_step setup at by (act.End export ending) s k = absurd cc
queued_step setup at by (act.Mark turns) s k = omega arith
queued_step setup at by act.Skip s k = omega arith
queued_step setup at by act.Stop s k = absurd cc

-- ---- what a call costs

abbrev pub cost : Act → ℕ
cost (act.Edit edit) = 1
cost act.Undo = 1
cost act.Redo = 1
cost (act.Want first len) = 1 + 2 * len
cost (act.Cancel first len) = 1
cost act.Claim = 0
cost (act.File job) = 0
cost (act.Release job) = 0
cost (act.Play n) = 1
cost (act.Show n) = 1
cost (act.Ask name) = 3
cost act.Take = 0
cost (act.End export ending) = 0
cost (act.Mark turns) = 1
cost act.Skip = 1
cost act.Stop = 0

ask_needs : (b : Bool) → cond {A = ℕ} b 1 3 + 0 ≤ 3
ask_needs true = omega arith
ask_needs false = omega arith

pub need_cost : (what : Act) (s : State) → is_kept what ≡ true → need what s + 2 * wanted_by what ≤ cost what
need_cost (act.Edit edit) s k = omega arith
need_cost act.Undo s k = omega arith
need_cost act.Redo s k = omega arith
need_cost (act.Want first len) s k = omega arith
need_cost (act.Cancel first len) s k = omega arith
need_cost act.Claim s k = absurd cc
need_cost (act.File job) s k = absurd cc
need_cost (act.Release job) s k = absurd cc
need_cost (act.Play n) s k = omega arith
need_cost (act.Show n) s k = omega arith
need_cost (act.Ask name) s k = ask_needs (is_empty s)
need_cost act.Take s k = absurd cc
need_cost (act.End export ending) s k = absurd cc
need_cost (act.Mark turns) s k = omega arith
need_cost act.Skip s k = omega arith
need_cost act.Stop s k = absurd cc

adds_up : (owes owing queues queued needs wants costs : ℕ) → owes + 1 ≡ owing + needs → queues ≤ queued + wants → needs + 2 * wants ≤ costs
    → 1 + (owes + 2 * queues) ≤ (owing + 2 * queued) + costs
adds_up owes owing queues queued needs wants costs a b c = omega (arith, a, b, c)

kept_step : {F : Type 0} (setup : Setup F) (at by : ℕ) (what : Act) (s : State) → is_kept what ≡ true → IsLegal by what s
    → 1 + level (step setup at by what s) ≤ level s + cost what
kept_step setup at by what s k legal =
    let next = step setup at by what s in
    adds_up (owed next) (owed s) (queued_count next) (queued_count s) (need what s) (wanted_by what) (cost what)
    (owed-step setup at by what s legal) (queued_step setup at by what s k) (need_cost what s k)

-- ---- claims and their ends, and the rest

queued_weight : (job : Job) → is_queued job ≡ true → weight is_queued job ≡ 1
queued_weight job e = ap (λ (b : Bool). cond {A = ℕ} b 1 0) e

-- a job that a pass holds isn't queued
held_weight : (recipe : Recipe) (pass : ℕ) (closed : Option ℕ) → weight is_queued (record { recipe = recipe; holder = Some pass; closed = closed }) ≡ 0
held_weight recipe pass None = refl
held_weight recipe pass (Some at) = refl

queued_claim : (pass : ℕ) (o : Option ℕ) (s : State) → position is_queued s.jobs ≡ o → IsSome o → queued_count (after_claim pass o s) + 1 ≡ queued_count s
queued_claim pass None s e some = absurd (let h : false ≡ true = some in cc)
queued_claim pass (Some place) s e some =
    let none : Job = record { recipe = recipe.Black; holder = None; closed = None } in
    let found = position-Some is_queued s.jobs place none e in
    let job = get_or s.jobs place none in
    let one = queued_weight job found.1 in
    let free = held_weight job.recipe pass job.closed in
    let c = count_update is_queued (with_holder pass) s.jobs place job (slice_get-get_or s.jobs place none found.0) in
    omega (arith, c, one, free)

abbrev job_of : Recipe → ℕ → Option ℕ → Job
job_of recipe pass closed = record { recipe = recipe; holder = Some pass; closed = closed }

-- it is queued again where it was given back while it was open
freed_weight : (F : Type 0) (recipe : Recipe) (pass : ℕ) (closed : Option ℕ)
    → weight is_queued (without_holder (job_of recipe pass closed)) ≡ cond {A = ℕ} (is_released {F = F} (unless_closed Released closed)) 1 0
freed_weight F recipe pass None = refl
freed_weight F recipe pass (Some at) = refl

module _ (s : State) (pass n : ℕ) (recipe : Recipe) (h : Holds s pass n recipe) where
  queued_release : (F : Type 0) → queued_count (record s { jobs = update (n - 1) without_holder s.jobs })
      ≡ queued_count s + cond {A = ℕ} (is_released {F = F} (end_reply Released (slice_get s.jobs (n - 1)))) 1 0
  queued_release F =
      let e = count_update is_queued without_holder s.jobs (n - 1) (job_of recipe pass h.closed) h.is_job in
      let held = held_weight recipe pass h.closed in
      let freed = freed_weight F recipe pass h.closed in
      let told = ap (λ (o : Option Job). cond {A = ℕ} (is_released {F = F} (end_reply Released o)) 1 0) h.is_job in
      omega (arith, e, held, freed, told)

  -- a result that comes too late lets a closed job go
  closed_weight : (closed : Option ℕ) → is_none closed ≡ false → weight is_queued (without_holder (job_of recipe pass closed)) ≡ 0
  closed_weight None e = absurd cc
  closed_weight (Some at) e = refl

  queued_file_by : (cache at : ℕ) (b : Bool) → is_none h.closed ≡ b
      → queued_count (cond b (record s { jobs = update (n - 1) (with_result at) s.jobs; filed = take cache (recipe ∷ s.filed) })
      (record s { jobs = update (n - 1) without_holder s.jobs })) ≡ queued_count s
  queued_file_by cache at true is =
      let e = count_update is_queued (with_result at) s.jobs (n - 1) (job_of recipe pass h.closed) h.is_job in
      let held = held_weight recipe pass h.closed in
      omega (arith, e, held)
  queued_file_by cache at false is =
      let e = count_update is_queued without_holder s.jobs (n - 1) (job_of recipe pass h.closed) h.is_job in
      let held = held_weight recipe pass h.closed in
      let freed = closed_weight h.closed is in
      omega (arith, e, held, freed)

  queued_file : (cache at : ℕ) → queued_count (after_file cache at (n - 1) (slice_get s.jobs (n - 1)) s) ≡ queued_count s
  queued_file cache at = ap (λ (o : Option Job). queued_count (after_file cache at (n - 1) o s)) h.is_job ∙ queued_file_by cache at (is_none h.closed) refl

pub take_keeps : (pass : ℕ) (o : Option ℕ) (s : State) → (after_take pass o s).jobs ≡ s.jobs
take_keeps pass None s = refl
take_keeps pass (Some place) s = refl

-- ---- what a call costs, by what it was told

-- Besides what a call of a script costs: two entries for a job that is given back while it is open.
abbrev pub call_cost : {F : Type 0} → Act → Reply F → ℕ
call_cost (act.Release job) told = cond (is_released told) 2 0
call_cost other told = cost other

owed_claim_cost : (owes owing queues queued : ℕ) → owes + 1 ≡ owing + 2 → queues + 1 ≡ queued → 1 + (owes + 2 * queues) ≤ (owing + 2 * queued) + 0
owed_claim_cost owes owing queues queued a b = omega (arith, a, b)

owed_end_cost : (owes owing queues queued : ℕ) → owes + 1 ≡ owing + 0 → queues ≡ queued → 1 + (owes + 2 * queues) ≤ (owing + 2 * queued) + 0
owed_end_cost owes owing queues queued a b = omega (arith, a, b)

back_cost : (b : Bool) (owes owing queues queued : ℕ) → owes + 1 ≡ owing + 0 → queues ≡ queued + cond b 1 0
    → 1 + (owes + 2 * queues) ≤ (owing + 2 * queued) + cond b 2 0
back_cost true owes owing queues queued a b = omega (arith, a, b)
back_cost false owes owing queues queued a b = omega (arith, a, b)

module _ {F : Type 0} (setup : Setup F) (at by : ℕ) where
  pub step_cost : (what : Act) (s : State) → IsLegal by what s → 1 + level (step setup at by what s) ≤ level s + call_cost what (reply setup.library what s)
  step_cost (act.Edit edit) s legal = kept_step setup at by (act.Edit edit) s refl legal
  step_cost act.Undo s legal = kept_step setup at by act.Undo s refl legal
  step_cost act.Redo s legal = kept_step setup at by act.Redo s refl legal
  step_cost (act.Want first len) s legal = kept_step setup at by (act.Want first len) s refl legal
  step_cost (act.Cancel first len) s legal = kept_step setup at by (act.Cancel first len) s refl legal
  step_cost act.Claim s legal = owed_claim_cost _ _ _ _ (owed-step setup at by act.Claim s legal) (queued_claim by (position is_queued s.jobs) s refl legal.1)
  step_cost (act.File job) s legal =
      owed_end_cost _ _ _ _ (owed-step setup at by (act.File job) s legal) (queued_file s by job legal.0 legal.1 setup.cache at)
  step_cost (act.Release job) s legal =
      back_cost _ _ _ _ _ (owed-step setup at by (act.Release job) s legal) (queued_release s by job legal.0 legal.1 F)
  step_cost (act.Play n) s legal = kept_step setup at by (act.Play n) s refl legal
  step_cost (act.Show n) s legal = kept_step setup at by (act.Show n) s refl legal
  step_cost (act.Ask name) s legal = kept_step setup at by (act.Ask name) s refl legal
  step_cost act.Take s legal =
      owed_end_cost _ _ _ _ (owed-step setup at by act.Take s legal) (ap (count_by is_queued) (take_keeps by (position is_untaken s.exports) s))
  step_cost (act.End export ending) s legal = owed_end_cost _ _ _ _ (owed-step setup at by (act.End export ending) s legal) refl
  step_cost (act.Mark turns) s legal = kept_step setup at by (act.Mark turns) s refl legal
  step_cost act.Skip s legal = kept_step setup at by act.Skip s refl legal
  step_cost act.Stop s legal = owed_end_cost _ _ _ _ (owed-step setup at by act.Stop s legal) refl

  -- a job that is given back while it is open is queued then
  pub back_queues : (job : ℕ) (s : State) → IsLegal by (act.Release job) s → is_released (reply setup.library (act.Release job) s) ≡ true
      → 1 ≤ queued_count (step setup at by (act.Release job) s)
  back_queues job s legal told =
      let e = queued_release s by job legal.0 legal.1 F in
      let one = ap (λ (b : Bool). cond {A = ℕ} b 1 0) told in
      omega (arith, e, one)
