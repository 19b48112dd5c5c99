-- A held job stays held until its end is entered.
use Rattle.std.proofs.Common.{◌≡◌, ◌≢◌, ◌≤◌, ℕ, zero, suc, ◌+◌, ◌-◌, cond, not, Bool, true, false, ◌&&◌, ◌||◌, List, [], ◌∷◌, ◌++◌, length, take, map, Option, Some, None, Result, Ok, Err, refl, sym, ap, subst, ◌∙◌, arith}
use Rattle.std.specs.Prelude.{slice_get, ◌==◌}
use Rattle.std.specs.List.{position}
use Rattle.std.specs.Option.{option_map}
use Rattle.std.proofs.lemmas.List.Quantifiers.{position-Some}
use Rattle.std.proofs.lemmas.Bool.Decides.{nat_tests}
use Rattle.std.proofs.lemmas.Option.{get_or_from_slice_get, same_Some}
use Rattle.tl_model.specs.Recipe.{same_recipe}
use Rattle.tl_model.specs.declared.recipe.Recipe.{Recipe}
use Rattle.tl_model.specs.declared.edit.EditReply.{EditReply}
use Rattle.tl_model.specs.declared.journal.Act.{Act}
use Rattle.tl_model.specs.declared.journal.Act.TheVariants as act
use Rattle.tl_model.specs.declared.journal.Entry.{Entry}
use Rattle.tl_model.specs.Cells.{recipes, is_among}
use Rattle.edit_undo.specs.History.{History, edit_outcome, undo_outcome, redo_outcome}
use Rattle.render_core.specs.declared.job.Job.{Job}
use Rattle.render_core.specs.Export.{is_untaken}
use Rattle.render_core.specs.State.{State, start, is_open, is_queued, with_holder, without_holder, with_result, close_if, update, has_open, want_one, want_all, range, put_first, Holds}
use Rattle.render_core.specs.Step.{Setup, IsLegal, step, after, state_after, AreLegal, IsJournal, is_past, is_empty, with_history, jobs_after_want, after_claim, after_file, after_play, new_export, after_take}
use Rattle.render_core.specs.Claim.{ClaimOf, EndsJob, EndsNone}
use Rattle.render_core.specs.Parts.{MachineOf, is_by, is_held_by}
use Rattle.render_core.proofs.Ranges.{both_true, same_recipe-true}
use Rattle.render_core.proofs.JobLists.{both, eqb-self, same_recipe-same}
use Rattle.render_core.proofs.Journals.{legal_rest, after_rest}

abbrev job_of : Recipe → ℕ → Option ℕ → Job
job_of recipe pass closed = record { recipe = recipe; holder = Some pass; closed = closed }

-- the job at a place after a change elsewhere, after more jobs, and after some were closed
pub update_other : {A : Type 0} (change : A → A) (jobs : List A) (i j : ℕ) → i ≢ j → slice_get (update j change jobs) i ≡ slice_get jobs i
update_other change [] i j ne = refl
update_other change (x ∷ xs) zero zero ne = absurd (ne refl)
update_other change (x ∷ xs) zero (suc j) ne = refl
update_other change (x ∷ xs) (suc i) zero ne = refl
update_other change (x ∷ xs) (suc i) (suc j) ne = update_other change xs i j (λ e. ne (ap suc e))

pub at_push : {A : Type 0} (jobs : List A) (y x : A) (i : ℕ) → slice_get jobs i ≡ Some x → slice_get (jobs ++ y ∷ []) i ≡ Some x
at_push [] y x i e = absurd cc
at_push (j ∷ jobs) y x zero e = e
at_push (j ∷ jobs) y x (suc i) e = at_push jobs y x i e

at_want_by : (jobs : List Job) (y x : Job) (i : ℕ) (b : Bool) → slice_get jobs i ≡ Some x → slice_get (cond b jobs (jobs ++ y ∷ [])) i ≡ Some x
at_want_by jobs y x i true e = e
at_want_by jobs y x i false e = at_push jobs y x i e

at_want : (results rs : List Recipe) (jobs : List Job) (x : Job) (i : ℕ) → slice_get jobs i ≡ Some x → slice_get (want_all results rs jobs) i ≡ Some x
at_want results [] jobs x i e = e
at_want results (r ∷ rs) jobs x i e = at_want results rs (want_one results r jobs) x i (at_want_by jobs (record { recipe = r; holder = None; closed = None }) x i (is_among r results || has_open r jobs) e)

at_map : (f : Job → Job) (jobs : List Job) (x : Job) (i : ℕ) → slice_get jobs i ≡ Some x → slice_get (map f jobs) i ≡ Some (f x)
at_map f [] x i e = absurd cc
at_map f (j ∷ jobs) x zero e = let same : j ≡ x = cc in ap (λ (y : Job). Some (f y)) same
at_map f (j ∷ jobs) x (suc i) e = at_map f jobs x i e

abbrev closed_at : Bool → ℕ → Option ℕ → Option ℕ
closed_at true at closed = Some at
closed_at false at closed = closed

closed_is : (recipe : Recipe) (pass at : ℕ) (closed : Option ℕ) (b : Bool) → cond b (record { recipe = recipe; holder = Some pass; closed = Some at }) (job_of recipe pass closed) ≡ job_of recipe pass (closed_at b at closed)
closed_is recipe pass at closed true = refl
closed_is recipe pass at closed false = refl

holds_closed : (s next : State) (test : Recipe → Bool) (at pass n : ℕ) (recipe : Recipe) → next.jobs ≡ map (close_if test at) s.jobs → Holds s pass n recipe → Holds next pass n recipe
holds_closed s next test at pass n recipe e h =
    let b = is_open (job_of recipe pass h.closed) && test recipe in
    record {
      counted = h.counted;
      closed = closed_at b at h.closed;
      is_job = ap (λ (js : List Job). slice_get js (n - 1)) e ∙ at_map (close_if test at) s.jobs (job_of recipe pass h.closed) (n - 1) h.is_job ∙ ap Some (closed_is recipe pass at h.closed b);
    }

holds_same : (s next : State) (pass n : ℕ) (recipe : Recipe) → slice_get next.jobs (n - 1) ≡ slice_get s.jobs (n - 1) → Holds s pass n recipe → Holds next pass n recipe
holds_same s next pass n recipe e h = record { counted = h.counted; closed = h.closed; is_job = e ∙ h.is_job }

either : (b : Bool) (s next : State) (pass n : ℕ) (recipe : Recipe) → Holds s pass n recipe → Holds next pass n recipe → Holds (cond b s next) pass n recipe
either true s next pass n recipe h k = h
either false s next pass n recipe h k = k

holds_history : (at : ℕ) (o : Result History EditReply) (s : State) (pass n : ℕ) (recipe : Recipe) → Holds s pass n recipe → Holds (with_history at o s) pass n recipe
holds_history at (Err why) s pass n recipe h = h
holds_history at (Ok next) s pass n recipe h = holds_closed s (with_history at (Ok next) s) (λ r. not (is_among r (recipes next.line))) at pass n recipe refl h

not_queued : (recipe : Recipe) (pass : ℕ) (closed : Option ℕ) → is_queued (job_of recipe pass closed) ≡ true → ⊥
not_queued recipe pass None e = cc
not_queued recipe pass (Some at) e = cc

holds_claim : (by : ℕ) (o : Option ℕ) (s : State) (pass n : ℕ) (recipe : Recipe) → position is_queued s.jobs ≡ o → Holds s pass n recipe → Holds (after_claim by o s) pass n recipe
holds_claim by None s pass n recipe e h = h
holds_claim by (Some i) s pass n recipe e h =
    let x = job_of recipe pass h.closed in
    let found = position-Some is_queued s.jobs i x e in
    let apart : (n - 1) ≢ i = λ same. not_queued recipe pass h.closed (sym (ap is_queued (get_or_from_slice_get s.jobs i x x (ap (slice_get s.jobs) (sym same) ∙ h.is_job))) ∙ found.1) in
    holds_same s (after_claim by (Some i) s) pass n recipe (update_other (with_holder by) s.jobs (n - 1) i apart) h

holds_file : (cache at i : ℕ) (o : Option Job) (s : State) (pass n : ℕ) (recipe : Recipe) → (n - 1) ≢ i → Holds s pass n recipe → Holds (after_file cache at i o s) pass n recipe
holds_file cache at i None s pass n recipe ne h = h
holds_file cache at i (Some job) s pass n recipe ne h =
    let opened : State = record s { jobs = update i (with_result at) s.jobs; filed = take cache (job.recipe ∷ s.filed) } in
    let shut : State = record s { jobs = update i without_holder s.jobs } in
    either (is_open job) opened shut pass n recipe (holds_same s opened pass n recipe (update_other (with_result at) s.jobs (n - 1) i ne) h) (holds_same s shut pass n recipe (update_other without_holder s.jobs (n - 1) i ne) h)

holds_play : (o : Option Recipe) (s : State) (pass n : ℕ) (recipe : Recipe) → Holds s pass n recipe → Holds (after_play o s) pass n recipe
holds_play None s pass n recipe h = h
holds_play (Some r) s pass n recipe h =
    let moved : State = record s { filed = put_first r s.filed } in
    either (is_among r s.filed) moved s pass n recipe (holds_same s moved pass n recipe refl h) h

holds_take : (by : ℕ) (o : Option ℕ) (s : State) (pass n : ℕ) (recipe : Recipe) → Holds s pass n recipe → Holds (after_take by o s) pass n recipe
holds_take by None s pass n recipe h = h
holds_take by (Some i) s pass n recipe h = holds_same s (after_take by (Some i) s) pass n recipe refl h

-- one pass has a job
holder_in : Option Job → Option ℕ
holder_in None = None
holder_in (Some job) = job.holder

same_holder : (s : State) (pass by n m : ℕ) (recipe other : Recipe) → Holds s pass n recipe → Holds s by m other → (n - 1) ≡ (m - 1) → by ≡ pass
unfolding holder_in
same_holder s pass by n m recipe other h k e =
    same_Some by pass (sym (ap holder_in k.is_job) ∙ ap (λ (i : ℕ). holder_in (slice_get s.jobs i)) (sym e) ∙ ap holder_in h.is_job)

pub holds_step : {F : Type 0} (setup : Setup F) (at by : ℕ) (what : Act) (s : State) (pass n : ℕ) (recipe : Recipe) → Holds s pass n recipe → IsLegal by what s → (by ≡ pass → EndsJob n what → ⊥) → Holds (step setup at by what s) pass n recipe
holds_step setup at by (act.Edit edit) s pass n recipe h legal ends = holds_history at (edit_outcome setup.library edit s.history) s pass n recipe h
holds_step setup at by act.Undo s pass n recipe h legal ends = holds_history at (undo_outcome s.history) s pass n recipe h
holds_step setup at by act.Redo s pass n recipe h legal ends = holds_history at (redo_outcome s.history) s pass n recipe h
holds_step setup at by (act.Want first len) s pass n recipe h legal ends =
    let next = record s { jobs = jobs_after_want first len s } in
    either (is_past first len s) s next pass n recipe h (record { counted = h.counted; closed = h.closed; is_job = at_want s.filed (range first len s.history.line) s.jobs (job_of recipe pass h.closed) (n - 1) h.is_job })
holds_step setup at by (act.Cancel first len) s pass n recipe h legal ends =
    let test : Recipe → Bool = λ r. is_among r (range first len s.history.line) in
    let next = record s { jobs = map (close_if test at) s.jobs } in
    either (is_past first len s) s next pass n recipe h (holds_closed s next test at pass n recipe refl h)
holds_step setup at by act.Claim s pass n recipe h legal ends = holds_claim by (position is_queued s.jobs) s pass n recipe refl h
holds_step setup at by (act.File job) s pass n recipe h legal ends =
    let apart : (n - 1) ≢ (job - 1) = λ e. ends (same_holder s pass by n job recipe legal.0 h legal.1 e) (let same : job ≡ n = omega (arith, e, h.counted, legal.1.counted) in same) in
    holds_file setup.cache at (job - 1) (slice_get s.jobs (job - 1)) s pass n recipe apart h
holds_step setup at by (act.Release job) s pass n recipe h legal ends =
    let apart : (n - 1) ≢ (job - 1) = λ e. ends (same_holder s pass by n job recipe legal.0 h legal.1 e) (let same : job ≡ n = omega (arith, e, h.counted, legal.1.counted) in same) in
    holds_same s (record s { jobs = update (job - 1) without_holder s.jobs }) pass n recipe (update_other without_holder s.jobs (n - 1) (job - 1) apart) h
holds_step setup at by (act.Play m) s pass n recipe h legal ends = holds_play (slice_get (recipes s.history.line) m) s pass n recipe h
holds_step setup at by (act.Show m) s pass n recipe h legal ends = holds_play (slice_get (recipes s.history.line) m) s pass n recipe h
holds_step setup at by (act.Ask name) s pass n recipe h legal ends =
    let next = record s { exports = s.exports ++ new_export name s ∷ [] } in
    either (is_empty s) s next pass n recipe h (holds_same s next pass n recipe refl h)
holds_step setup at by act.Take s pass n recipe h legal ends = holds_take by (position is_untaken s.exports) s pass n recipe h
holds_step setup at by (act.End export ending) s pass n recipe h legal ends = holds_same s (step setup at by (act.End export ending) s) pass n recipe refl h
holds_step setup at by (act.Mark turns) s pass n recipe h legal ends = h
holds_step setup at by act.Skip s pass n recipe h legal ends = h
holds_step setup at by act.Stop s pass n recipe h legal ends = holds_same s (step setup at by act.Stop s) pass n recipe refl h

holds_after : {F : Type 0} (setup : Setup F) (count : ℕ) (more : List Entry) (s : State) (pass n : ℕ) (recipe : Recipe) → Holds s pass n recipe → AreLegal setup count more s → EndsNone (EndsJob n) pass more → Holds (after setup count more s) pass n recipe
holds_after setup count [] s pass n recipe h legal ends = h
holds_after setup count (e ∷ es) s pass n recipe h legal ends =
    holds_after setup (count + 1) es (step setup (count + 1) e.pass e.act s) pass n recipe (holds_step setup (count + 1) e.pass e.act s pass n recipe h legal.0 ends.0) legal.1 ends.1

pub claim_lasts : {F : Type 0} (setup : Setup F) (journal more : List Entry) (pass n : ℕ) (recipe : Recipe) → IsJournal setup (journal ++ more) → Holds (state_after setup journal) pass n recipe → EndsNone (EndsJob n) pass more → Holds (state_after setup (journal ++ more)) pass n recipe
claim_lasts setup journal more pass n recipe legal h ends =
    subst (λ (s : State). Holds s pass n recipe) (sym (after_rest setup 0 journal more start))
    (holds_after setup (0 + length journal) more (state_after setup journal) pass n recipe h (legal_rest setup 0 journal more start legal) ends)

pub at_update : {A : Type 0} (change : A → A) (jobs : List A) (i : ℕ) (x : A) → slice_get jobs i ≡ Some x → slice_get (update i change jobs) i ≡ Some (change x)
at_update change [] i x e = absurd cc
at_update change (j ∷ jobs) zero x e = let same : j ≡ x = cc in ap (λ y. Some (change y)) same
at_update change (j ∷ jobs) (suc i) x e = at_update change jobs i x e

-- a claim that was just made is with_holder
pub claim_holds : (pass place : ℕ) (recipe : Recipe) (s next : State) → next ≡ after_claim pass (Some place) s → option_map (λ (job : Job). job.recipe) (slice_get s.jobs place) ≡ Some recipe → Holds next pass (place + 1) recipe
claim_holds pass place recipe s next turn e = by_job (slice_get s.jobs place) refl e
  where
    by_job : (o : Option Job) → slice_get s.jobs place ≡ o → option_map (λ (job : Job). job.recipe) o ≡ Some recipe → Holds next pass (place + 1) recipe
    by_job None at e = absurd cc
    by_job (Some x) at e =
        let i : (place + 1) - 1 ≡ place = omega arith in
        let is : x.recipe ≡ recipe = cc in
        record {
          counted = omega arith;
          closed = x.closed;
          is_job = ap (λ (n : State). slice_get n.jobs ((place + 1) - 1)) turn ∙ ap (slice_get (update place (with_holder pass) s.jobs)) i ∙ at_update (with_holder pass) s.jobs place x at ∙ ap (λ (r : Recipe). Some (job_of r pass x.closed)) is;
        }

-- the test of a claim
held_by : (pass : ℕ) (recipe : Recipe) (o : Option Job) → is_held_by pass recipe o ≡ true → (closed : Option ℕ) × (o ≡ Some (job_of recipe pass closed))
held_by pass recipe None e = absurd cc
held_by pass recipe (Some x) e = by_holder x.holder refl e
  where
    by_holder : (h : Option ℕ) → x.holder ≡ h → (is_by pass h && same_recipe recipe x.recipe) ≡ true → (closed : Option ℕ) × (Some x ≡ Some (job_of recipe pass closed))
    by_holder None h t = absurd cc
    by_holder (Some holder) h t =
        let p = both_true (holder == pass) (same_recipe recipe x.recipe) t in
        let w : holder ≡ pass = grind (arith, nat_tests, p.0) in
        let r = same_recipe-true recipe x.recipe p.1 in
        (x.closed, ap (λ (q : Recipe). Some (record { recipe = q; holder = x.holder; closed = x.closed })) (sym r) ∙ ap (λ (k : Option ℕ). Some (record { recipe = recipe; holder = k; closed = x.closed })) (h ∙ ap Some w))

pub holds_if : (s : State) (pass n : ℕ) (recipe : Recipe) → 1 ≤ n → is_held_by pass recipe (slice_get s.jobs (n - 1)) ≡ true → Holds s pass n recipe
holds_if s pass n recipe some e =
    let found = held_by pass recipe (slice_get s.jobs (n - 1)) e in
    record { counted = some; closed = found.0; is_job = found.1 }

pub holds_only_if : (s : State) (pass n : ℕ) (recipe : Recipe) → Holds s pass n recipe → is_held_by pass recipe (slice_get s.jobs (n - 1)) ≡ true
holds_only_if s pass n recipe h = ap (is_held_by pass recipe) h.is_job ∙ both (eqb-self pass) (same_recipe-same recipe)

pub claim_held : {M : Type 0} (m now : MachineOf M) (inside claim : ClaimOf) (pass : ℕ) (b : Bool) → m ≡ now → inside ≡ claim → 1 ≤ inside.job → b ≡ is_held_by pass inside.recipe (slice_get m.state.jobs (inside.job - 1)) → b ≡ true → Holds now.state pass claim.job claim.recipe
claim_held {M} m now inside claim pass b v w some is t =
    subst (λ (x : MachineOf M). Holds x.state pass claim.job claim.recipe) v
    (subst (λ (k : ClaimOf). Holds m.state pass k.job k.recipe) w (holds_if m.state pass inside.job inside.recipe some (sym is ∙ t)))

pub held_claim : {M : Type 0} (m now : MachineOf M) (inside claim : ClaimOf) (pass : ℕ) (b : Bool) → m ≡ now → inside ≡ claim → b ≡ is_held_by pass inside.recipe (slice_get m.state.jobs (inside.job - 1)) → Holds now.state pass claim.job claim.recipe → b ≡ true
held_claim {M} m now inside claim pass b v w is h =
    is ∙ holds_only_if m.state pass inside.job inside.recipe
    (subst (λ (k : ClaimOf). Holds m.state pass k.job k.recipe) (sym w) (subst (λ (x : MachineOf M). Holds x.state pass claim.job claim.recipe) (sym v) h))
