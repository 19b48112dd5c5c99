-- After every journal a recipe has an open job or a filed result at most once.
use Rattle.std.proofs.Common.{◌≡◌, ℕ, zero, suc, ◌+◌, ◌-◌, ◌≤◌, cond, not, Bool, true, false, ◌&&◌, ◌||◌, List, [], ◌∷◌, ◌++◌, length, take, map, Option, Some, None, Result, Ok, Err, refl, ap, ◌∙◌, arith}
use Rattle.std.specs.Prelude.{slice_get}
use Rattle.std.specs.List.{count_by, position}
use Rattle.std.proofs.lemmas.List.{length-take}
use Rattle.std.proofs.lemmas.List.Sums.{sum_by-cons}
use Rattle.tl_model.specs.Recipe.{same_recipe}
use Rattle.tl_model.specs.declared.recipe.Recipe.{Recipe}
use Rattle.tl_model.specs.declared.edit.EditReply.{EditReply}
use Rattle.tl_model.specs.declared.journal.Act.{Act}
use Rattle.tl_model.specs.declared.journal.Act.TheVariants as act
use Rattle.tl_model.specs.declared.journal.Entry.{Entry}
use Rattle.tl_model.specs.Cells.{recipes, is_among}
use Rattle.edit_undo.specs.History.{History, edit_outcome, undo_outcome, redo_outcome}
use Rattle.render_core.specs.declared.job.Job.{Job}
use Rattle.render_core.specs.Export.{is_untaken}
use Rattle.render_core.specs.State.{State, start, is_open, is_queued, with_holder, without_holder, with_result, close_if, update, range, has_open, new_job, want_one, want_all, without, put_first, IsOrderly}
use Rattle.render_core.specs.Step.{Setup, step, after, state_after, is_past, is_empty, with_history, jobs_after_want, after_claim, after_file, after_play, new_export, after_take}
use Rattle.render_core.proofs.Ranges.{same_recipe-true}
use Rattle.render_core.proofs.JobLists.{weight, open_of, count_map, count_push, count_update, none_counted, closed_weight}

-- how often a recipe has an open job or a filed result
abbrev times : Recipe → List Job → List Recipe → ℕ
times r jobs results = count_by (open_of r) jobs + count_by (same_recipe r) results

abbrev AreOnce : List Job → List Recipe → Type 0
AreOnce jobs results = (r : Recipe) → times r jobs results ≤ 1

count-update_le : (p : Job → Bool) (f : Job → Job) → ((job : Job) → weight p (f job) ≤ weight p job) → (jobs : List Job) (i : ℕ) → count_by p (update i f jobs) ≤ count_by p jobs
count-update_le p f le [] i = omega arith
count-update_le p f le (job ∷ jobs) zero = omega (arith, le job, sum_by-cons (weight p) (f job) jobs, sum_by-cons (weight p) job jobs)
count-update_le p f le (job ∷ jobs) (suc i) = omega (arith, count-update_le p f le jobs i, sum_by-cons (weight p) job (update i f jobs), sum_by-cons (weight p) job jobs)

count-take_le : (p : Recipe → Bool) (n : ℕ) (rs : List Recipe) → count_by p (take n rs) ≤ count_by p rs
count-take_le p zero rs = omega arith
count-take_le p (suc n) [] = omega arith
count-take_le p (suc n) (r ∷ rs) = omega (arith, count-take_le p n rs, sum_by-cons (weight p) r (take n rs), sum_by-cons (weight p) r rs)

-- fewer open jobs, with the same results
fewer : (jobs next : List Job) (results : List Recipe) → ((r : Recipe) → count_by (open_of r) next ≤ count_by (open_of r) jobs) → AreOnce jobs results → AreOnce next results
fewer jobs next results le once r = omega (arith, once r, le r)

once_closed : (test : Recipe → Bool) (at : ℕ) (jobs : List Job) (results : List Recipe) → AreOnce jobs results → AreOnce (map (close_if test at) jobs) results
once_closed test at jobs results = fewer jobs (map (close_if test at) jobs) results (λ r. count_map (open_of r) (close_if test at) (closed_weight r test at) jobs)

once_held : (pass i : ℕ) (jobs : List Job) (results : List Recipe) → AreOnce jobs results → AreOnce (update i (with_holder pass) jobs) results
once_held pass i jobs results = fewer jobs (update i (with_holder pass) jobs) results (λ r. count-update_le (open_of r) (with_holder pass) (λ job. omega arith) jobs i)

once_let_go : (i : ℕ) (jobs : List Job) (results : List Recipe) → AreOnce jobs results → AreOnce (update i without_holder jobs) results
once_let_go i jobs results = fewer jobs (update i without_holder jobs) results (λ r. count-update_le (open_of r) without_holder (λ job. omega arith) jobs i)

-- a new job comes only where there is none and no result
once_new : (results : List Recipe) (x : Recipe) (jobs : List Job) → is_among x results ≡ false → has_open x jobs ≡ false → AreOnce jobs results → AreOnce (jobs ++ new_job x ∷ []) results
once_new results x jobs unfiled unopened once r = by_same (same_recipe r x) refl
  where
    by_same : (b : Bool) → same_recipe r x ≡ b → times r (jobs ++ new_job x ∷ []) results ≤ 1
    by_same true h =
        let same : r ≡ x = same_recipe-true r x h in
        let no_job : count_by (open_of r) jobs ≡ 0 = ap (λ (y : Recipe). count_by (open_of y) jobs) same ∙ none_counted (open_of x) jobs unopened in
        let no_result : count_by (same_recipe r) results ≡ 0 = ap (λ (y : Recipe). count_by (same_recipe y) results) same ∙ none_counted (same_recipe x) results unfiled in
        let one : weight (open_of r) (new_job x) ≡ 1 = ap (λ (b : Bool). cond b 1 0) h in
        omega (arith, no_job, no_result, one, count_push (open_of r) jobs (new_job x))
    by_same false h =
        let none : weight (open_of r) (new_job x) ≡ 0 = ap (λ (b : Bool). cond b 1 0) h in
        omega (arith, once r, none, count_push (open_of r) jobs (new_job x))

once_want_by : (results : List Recipe) (x : Recipe) (jobs : List Job) (a b : Bool) → is_among x results ≡ a → has_open x jobs ≡ b → AreOnce jobs results → AreOnce (cond (a || b) jobs (jobs ++ new_job x ∷ [])) results
once_want_by results x jobs true b e f once = once
once_want_by results x jobs false true e f once = once
once_want_by results x jobs false false e f once = once_new results x jobs e f once

once_want : (results rs : List Recipe) (jobs : List Job) → AreOnce jobs results → AreOnce (want_all results rs jobs) results
once_want results [] jobs once = once
once_want results (x ∷ rs) jobs once = once_want results rs (want_one results x jobs) (once_want_by results x jobs (is_among x results) (has_open x jobs) refl refl once)

-- an open job's result takes the place of the job
once_filed : (cache at i : ℕ) (jobs : List Job) (results : List Recipe) (job : Job) → slice_get jobs i ≡ Some job → is_open job ≡ true → AreOnce jobs results → AreOnce (update i (with_result at) jobs) (take cache (job.recipe ∷ results))
once_filed cache at i jobs results job e opened once r =
    let was : weight (open_of r) job ≡ weight (same_recipe r) job.recipe = ap (λ (b : Bool). cond (b && same_recipe r job.recipe) 1 0) opened in
    omega (arith, once r, was, count_update (open_of r) (with_result at) jobs i job e, count-take_le (same_recipe r) cache (job.recipe ∷ results), sum_by-cons (weight (same_recipe r)) job.recipe results)

-- a recipe that stands in a list comes first in it
first_by : (p : Recipe → Bool) (r x : Recipe) (rs : List Recipe) (b : Bool) → same_recipe r x ≡ b → (b || is_among r rs) ≡ true → (is_among r rs ≡ true → weight p r + count_by p (without r rs) ≡ count_by p rs) → weight p r + count_by p (cond b rs (x ∷ without r rs)) ≡ count_by p (x ∷ rs)
first_by p r x rs true h e rest =
    let same : weight p r ≡ weight p x = ap (weight p) (same_recipe-true r x h) in
    omega (arith, same, sum_by-cons (weight p) x rs)
first_by p r x rs false h e rest = omega (arith, rest e, sum_by-cons (weight p) x rs, sum_by-cons (weight p) x (without r rs))

count-put_first : (p : Recipe → Bool) (r : Recipe) (rs : List Recipe) → is_among r rs ≡ true → weight p r + count_by p (without r rs) ≡ count_by p rs
count-put_first p r [] e = absurd cc
count-put_first p r (x ∷ rs) e = first_by p r x rs (same_recipe r x) refl e (count-put_first p r rs)

length_by : (r x : Recipe) (rs : List Recipe) (b : Bool) → (b || is_among r rs) ≡ true → (is_among r rs ≡ true → suc (length (without r rs)) ≡ length rs) → suc (length (cond b rs (x ∷ without r rs))) ≡ length (x ∷ rs)
length_by r x rs true e rest = refl
length_by r x rs false e rest = ap suc (rest e)

length-put_first : (r : Recipe) (rs : List Recipe) → is_among r rs ≡ true → length (put_first r rs) ≡ length rs
length-put_first r [] e = absurd cc
length-put_first r (x ∷ rs) e = length_by r x rs (same_recipe r x) e (length-put_first r rs)

-- the steps of the machine
orderly_history : (cache at : ℕ) (o : Result History EditReply) (s : State) → IsOrderly cache s → IsOrderly cache (with_history at o s)
orderly_history cache at (Err why) s h = h
orderly_history cache at (Ok next) s h = record { few = h.few; once = once_closed (λ recipe. not (is_among recipe (recipes next.line))) at s.jobs s.filed h.once }

either : (cache : ℕ) (b : Bool) (s t : State) → IsOrderly cache s → IsOrderly cache t → IsOrderly cache (cond b s t)
either cache true s t h k = h
either cache false s t h k = k

orderly_claim : (cache pass : ℕ) (o : Option ℕ) (s : State) → IsOrderly cache s → IsOrderly cache (after_claim pass o s)
orderly_claim cache pass None s h = h
orderly_claim cache pass (Some i) s h = record { few = h.few; once = once_held pass i s.jobs s.filed h.once }

orderly_file : (cache at i : ℕ) (o : Option Job) (s : State) → slice_get s.jobs i ≡ o → IsOrderly cache s → IsOrderly cache (after_file cache at i o s)
orderly_file cache at i None s e h = h
orderly_file cache at i (Some job) s e h = by_open (is_open job) refl
  where
    by_open : (b : Bool) → is_open job ≡ b → IsOrderly cache (cond b (record s { jobs = update i (with_result at) s.jobs; filed = take cache (job.recipe ∷ s.filed) }) (record s { jobs = update i without_holder s.jobs }))
    by_open true opened = record { few = omega (arith, length-take cache (job.recipe ∷ s.filed)); once = once_filed cache at i s.jobs s.filed job e opened h.once }
    by_open false opened = record { few = h.few; once = once_let_go i s.jobs s.filed h.once }

orderly_play : (cache : ℕ) (o : Option Recipe) (s : State) → IsOrderly cache s → IsOrderly cache (after_play o s)
orderly_play cache None s h = h
orderly_play cache (Some recipe) s h = by_among (is_among recipe s.filed) refl
  where
    by_among : (b : Bool) → is_among recipe s.filed ≡ b → IsOrderly cache (cond b (record s { filed = put_first recipe s.filed }) s)
    by_among true e = record {
      few = omega (arith, h.few, length-put_first recipe s.filed e);
      once = λ r. omega (arith, h.once r, count-put_first (same_recipe r) recipe s.filed e, sum_by-cons (weight (same_recipe r)) recipe (without recipe s.filed));
    }
    by_among false e = h

orderly_take : (cache pass : ℕ) (o : Option ℕ) (s : State) → IsOrderly cache s → IsOrderly cache (after_take pass o s)
orderly_take cache pass None s h = h
orderly_take cache pass (Some i) s h = record { few = h.few; once = h.once }

orderly_step : {F : Type 0} (setup : Setup F) (at pass : ℕ) (what : Act) (s : State) → IsOrderly setup.cache s → IsOrderly setup.cache (step setup at pass what s)
orderly_step setup at pass (act.Edit edit) s h = orderly_history setup.cache at (edit_outcome setup.library edit s.history) s h
orderly_step setup at pass act.Undo s h = orderly_history setup.cache at (undo_outcome s.history) s h
orderly_step setup at pass act.Redo s h = orderly_history setup.cache at (redo_outcome s.history) s h
orderly_step setup at pass (act.Want first len) s h =
    either setup.cache (is_past first len s) s (record s { jobs = jobs_after_want first len s }) h (record { few = h.few; once = once_want s.filed (range first len s.history.line) s.jobs h.once })
orderly_step setup at pass (act.Cancel first len) s h =
    let test : Recipe → Bool = λ recipe. is_among recipe (range first len s.history.line) in
    either setup.cache (is_past first len s) s (record s { jobs = map (close_if test at) s.jobs }) h (record { few = h.few; once = once_closed test at s.jobs s.filed h.once })
orderly_step setup at pass act.Claim s h = orderly_claim setup.cache pass (position is_queued s.jobs) s h
orderly_step setup at pass (act.File job) s h = orderly_file setup.cache at (job - 1) (slice_get s.jobs (job - 1)) s refl h
orderly_step setup at pass (act.Release job) s h = record { few = h.few; once = once_let_go (job - 1) s.jobs s.filed h.once }
orderly_step setup at pass (act.Play n) s h = orderly_play setup.cache (slice_get (recipes s.history.line) n) s h
orderly_step setup at pass (act.Show n) s h = orderly_play setup.cache (slice_get (recipes s.history.line) n) s h
orderly_step setup at pass (act.Ask name) s h = either setup.cache (is_empty s) s (record s { exports = s.exports ++ new_export name s ∷ [] }) h (record { few = h.few; once = h.once })
orderly_step setup at pass act.Take s h = orderly_take setup.cache pass (position is_untaken s.exports) s h
orderly_step setup at pass (act.End export ending) s h = record { few = h.few; once = h.once }
orderly_step setup at pass (act.Mark turns) s h = h
orderly_step setup at pass act.Skip s h = h
orderly_step setup at pass act.Stop s h = record { few = h.few; once = h.once }

orderly_after : {F : Type 0} (setup : Setup F) (count : ℕ) (journal : List Entry) (s : State) → IsOrderly setup.cache s → IsOrderly setup.cache (after setup count journal s)
orderly_after setup count [] s h = h
orderly_after setup count (e ∷ es) s h = orderly_after setup (count + 1) es (step setup (count + 1) e.pass e.act s) (orderly_step setup (count + 1) e.pass e.act s h)

pub journal_is_orderly : {F : Type 0} (setup : Setup F) (journal : List Entry) → IsOrderly setup.cache (state_after setup journal)
journal_is_orderly setup journal = orderly_after setup 0 journal start (record { few = omega arith; once = λ r. omega arith })
