-- The timeline of each export that was asked for has a frame.
use Rattle.std.proofs.Common.{◌≡◌, ℕ, zero, suc, ◌+◌, ◌-◌, ◌≤◌, cond, Bool, true, false, List, [], ◌∷◌, ◌++◌, length, take, Option, Some, None, Ok, Err, refl, sym, subst, arith}
use Rattle.std.specs.Prelude.{slice_get}
use Rattle.std.specs.List.{position}
use Rattle.std.proofs.lemmas.Bool.Decides.{nat_tests}
use Rattle.tl_model.specs.Cells.{Cell, recipes, is_among}
use Rattle.tl_model.specs.Media.{Library}
use Rattle.tl_model.specs.declared.recipe.Recipe.{Recipe}
use Rattle.tl_model.specs.declared.journal.Act.{Act}
use Rattle.tl_model.specs.declared.journal.Act.TheVariants as act
use Rattle.tl_model.specs.declared.journal.Entry.{Entry}
use Rattle.render_core.specs.declared.job.Job.{Job}
use Rattle.render_core.specs.Export.{ExportOf, is_untaken, with_taker, with_ending}
use Rattle.render_core.specs.State.{State, start, is_open, is_queued, with_result, without_holder, update, put_first, HoldsExport}
use Rattle.render_core.specs.Step.{Setup, step, after, is_past, is_empty, with_history, jobs_after_want, jobs_after_cancel, after_claim, after_file, after_play, new_export, after_take}
use Rattle.edit_desk.specs.Desk.{DeskOf, setup_of, state_of}

abbrev AreFilled : List ExportOf → Type 0
AreFilled [] = Unit {0}
AreFilled (x ∷ xs) = (1 ≤ length x.line) × AreFilled xs

filled-push : (xs : List ExportOf) (x : ExportOf) → 1 ≤ length x.line → AreFilled xs → AreFilled (xs ++ x ∷ [])
filled-push [] x one h = (one, tt)
filled-push (y ∷ xs) x one h = (h.0, filled-push xs x one h.1)

filled-update : (change : ExportOf → ExportOf) → ((x : ExportOf) → (change x).line ≡ x.line) → (i : ℕ) (xs : List ExportOf) → AreFilled xs → AreFilled (update i change xs)
filled-update change same i [] h = tt
filled-update change same zero (x ∷ xs) h = (subst (λ (line : List Cell). 1 ≤ length line) (sym (same x)) h.0, h.1)
filled-update change same (suc i) (x ∷ xs) h = (h.0, filled-update change same i xs h.1)

filled-at : (xs : List ExportOf) (i : ℕ) (x : ExportOf) → AreFilled xs → slice_get xs i ≡ Some x → 1 ≤ length x.line
filled-at [] i x h e = absurd cc
filled-at (y ∷ xs) zero x h e = let same : y ≡ x = cc in subst (λ (z : ExportOf). 1 ≤ length z.line) same h.0
filled-at (y ∷ xs) (suc i) x h e = filled-at xs i x h.1 e

-- ---- the steps of the machine

filled_if : (b : Bool) (s t : State) → AreFilled s.exports → AreFilled t.exports → AreFilled (cond b s t).exports
filled_if true s t h k = h
filled_if false s t h k = k

filled_history : (at : ℕ) (o : _) (s : State) → AreFilled s.exports → AreFilled (with_history at o s).exports
filled_history at (Err why) s h = h
filled_history at (Ok next) s h = h

filled_claim : (by : ℕ) (o : Option ℕ) (s : State) → AreFilled s.exports → AreFilled (after_claim by o s).exports
filled_claim by None s h = h
filled_claim by (Some i) s h = h

filled_file : (cache at i : ℕ) (o : Option Job) (s : State) → AreFilled s.exports → AreFilled (after_file cache at i o s).exports
filled_file cache at i None s h = h
filled_file cache at i (Some job) s h =
    filled_if (is_open job) (record s { jobs = update i (with_result at) s.jobs; filed = take cache (job.recipe ∷ s.filed) }) (record s { jobs = update i without_holder s.jobs }) h h

filled_play : (o : Option Recipe) (s : State) → AreFilled s.exports → AreFilled (after_play o s).exports
filled_play None s h = h
filled_play (Some r) s h = filled_if (is_among r s.filed) (record s { filed = put_first r s.filed }) s h h

filled_ask : (b : Bool) (name : List ℕ) (s : State) → is_empty s ≡ b → AreFilled s.exports → AreFilled (cond b s (record s { exports = s.exports ++ new_export name s ∷ [] })).exports
filled_ask true name s e h = h
filled_ask false name s e h = filled-push s.exports (new_export name s) (grind (arith, nat_tests, e)) h

filled_take : (by : ℕ) (o : Option ℕ) (s : State) → AreFilled s.exports → AreFilled (after_take by o s).exports
filled_take by None s h = h
filled_take by (Some i) s h = filled-update (with_taker by) (λ x. refl) i s.exports h

filled_step : {F : Type 0} (setup : Setup F) (at by : ℕ) (what : Act) (s : State) → AreFilled s.exports → AreFilled (step setup at by what s).exports
filled_step setup at by (act.Edit edit) s h = filled_history at _ s h
filled_step setup at by act.Undo s h = filled_history at _ s h
filled_step setup at by act.Redo s h = filled_history at _ s h
filled_step setup at by (act.Want first len) s h = filled_if (is_past first len s) s (record s { jobs = jobs_after_want first len s }) h h
filled_step setup at by (act.Cancel first len) s h = filled_if (is_past first len s) s (record s { jobs = jobs_after_cancel at first len s }) h h
filled_step setup at by act.Claim s h = filled_claim by (position is_queued s.jobs) s h
filled_step setup at by (act.File job) s h = filled_file setup.cache at (job - 1) (slice_get s.jobs (job - 1)) s h
filled_step setup at by (act.Release job) s h = h
filled_step setup at by (act.Play n) s h = filled_play (slice_get (recipes s.history.line) n) s h
filled_step setup at by (act.Show n) s h = filled_play (slice_get (recipes s.history.line) n) s h
filled_step setup at by (act.Ask name) s h = filled_ask (is_empty s) name s refl h
filled_step setup at by act.Take s h = filled_take by (position is_untaken s.exports) s h
filled_step setup at by (act.End export ending) s h = filled-update (with_ending ending) (λ x. refl) (export - 1) s.exports h
filled_step setup at by (act.Mark turns) s h = h
filled_step setup at by act.Skip s h = h
filled_step setup at by act.Stop s h = h

filled_after : {F : Type 0} (setup : Setup F) (count : ℕ) (journal : List Entry) (s : State) → AreFilled s.exports → AreFilled (after setup count journal s).exports
filled_after setup count [] s h = h
filled_after setup count (e ∷ es) s h = filled_after setup (count + 1) es (step setup (count + 1) e.pass e.act s) (filled_step setup (count + 1) e.pass e.act s h)

-- an export that a caller holds has a frame
pub filled : {M K F : Type 0} (library : M → Library F) (d : DeskOf M K) (pass n : ℕ) (name : List ℕ) (line : List Cell) → HoldsExport (state_of library d) pass n name line → 1 ≤ length line
filled library d pass n name line h = filled-at (state_of library d).exports (n - 1) _ (filled_after (setup_of library d) 0 d.seen start tt) h.is_export
