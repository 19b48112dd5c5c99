-- A held job stays held, and a session goes on, until the caller itself ends them.
use Rattle.std.proofs.Common.{◌≡◌, ℕ, ◌+◌, ◌-◌, cond, Bool, true, false, List, [], ◌∷◌, ◌++◌, length, take, Option, Some, None, Result, Ok, Err, refl, sym, ap, subst, ◌∙◌, arith}
use Rattle.std.specs.Prelude.{slice_get, ◌==◌}
use Rattle.std.specs.List.{position}
use Rattle.std.proofs.lemmas.Bool.Decides.{nat_tests}
use Rattle.std.proofs.lemmas.List.{append_cancel_left}
use Rattle.tl_model.specs.Cells.{recipes, is_among}
use Rattle.tl_model.specs.Media.{Library}
use Rattle.tl_model.specs.declared.recipe.Recipe.{Recipe}
use Rattle.tl_model.specs.declared.edit.EditReply.{EditReply}
use Rattle.tl_model.specs.declared.journal.Act.{Act}
use Rattle.tl_model.specs.declared.journal.Act.TheVariants as act
use Rattle.tl_model.specs.declared.journal.Entry.{Entry}
use Rattle.edit_undo.specs.History.{History, edit_outcome, undo_outcome, redo_outcome}
use Rattle.render_core.specs.declared.job.Job.{Job}
use Rattle.render_core.specs.Calls.{CallOf, calls_from, own_calls}
use Rattle.render_core.specs.Claim.{EndsJob, EndsNone}
use Rattle.render_core.specs.Export.{is_untaken}
use Rattle.render_core.specs.State.{State, start, is_open, is_queued, with_result, without_holder, update, put_first, Holds}
use Rattle.render_core.specs.Step.{Setup, IsLegal, step, reply, after, AreLegal, IsJournal, is_past, is_empty, with_history, jobs_after_want, jobs_after_cancel, after_claim, after_file, after_play, new_export, after_take}
use Rattle.render_core.proofs.Claims.{claim_lasts}
use Rattle.render_core.proofs.Journals.{legal_rest, after_rest}
use Rattle.edit_desk.specs.Desk.{DeskOf, IsDesk, Hears, setup_of, state_of, heard}
use Rattle.edit_desk.proofs.Heard.{heard_more}
use Rattle.edit_desk.proofs.Later.{desk_is}

-- None of the calls is such an act.
abbrev pub HasNone : {F : Type 0} → (Act → Type 0) → List (CallOf F) → Type 0
HasNone ends [] = Unit {0}
HasNone ends (call ∷ calls) = (ends call.act → ⊥) × HasNone ends calls

ends_by : {F : Type 0} (ends : Act → Type 0) (pass : ℕ) (e : Entry) (es : List Entry) (call : CallOf F) (rest : List (CallOf F)) (b : Bool) → (e.pass == pass) ≡ b → call.act ≡ e.act → HasNone ends (cond b (call ∷ rest) rest) → (HasNone ends rest → EndsNone ends pass es) → EndsNone ends pass (e ∷ es)
ends_by ends pass e es call rest true t same h k = (λ own end. h.0 (subst ends (sym same) end), k h.1)
ends_by ends pass e es call rest false t same h k = (λ own end. absurd (grind (arith, nat_tests, t, own)), k h)

-- entries whose calls of a pass are none such
ends_none : {F : Type 0} (ends : Act → Type 0) (setup : Setup F) (pass count : ℕ) (es : List Entry) (s : State) → HasNone ends (own_calls pass (calls_from setup count es s)) → EndsNone ends pass es
ends_none ends setup pass count [] s h = tt
ends_none ends setup pass count (e ∷ es) s h =
    let next = step setup (count + 1) e.pass e.act s in
    ends_by ends pass e es (record { pass = e.pass; act = e.act; told = reply setup.library e.act s }) (own_calls pass (calls_from setup (count + 1) es next)) (e.pass == pass) refl refl h (ends_none ends setup pass (count + 1) es next)

-- ---- only a stop stops

going_if : (b : Bool) (s t : State) → s.is_stopped ≡ false → t.is_stopped ≡ false → (cond b s t).is_stopped ≡ false
going_if true s t h k = h
going_if false s t h k = k

going_history : (at : ℕ) (o : Result History EditReply) (s : State) → s.is_stopped ≡ false → (with_history at o s).is_stopped ≡ false
going_history at (Err why) s e = e
going_history at (Ok next) s e = e

going_claim : (by : ℕ) (o : Option ℕ) (s : State) → s.is_stopped ≡ false → (after_claim by o s).is_stopped ≡ false
going_claim by None s e = e
going_claim by (Some i) s e = e

going_file : (cache at i : ℕ) (o : Option Job) (s : State) → s.is_stopped ≡ false → (after_file cache at i o s).is_stopped ≡ false
going_file cache at i None s e = e
going_file cache at i (Some job) s e =
    going_if (is_open job) (record s { jobs = update i (with_result at) s.jobs; filed = take cache (job.recipe ∷ s.filed) }) (record s { jobs = update i without_holder s.jobs }) e e

going_play : (o : Option Recipe) (s : State) → s.is_stopped ≡ false → (after_play o s).is_stopped ≡ false
going_play None s e = e
going_play (Some r) s e = going_if (is_among r s.filed) (record s { filed = put_first r s.filed }) s e e

going_take : (by : ℕ) (o : Option ℕ) (s : State) → s.is_stopped ≡ false → (after_take by o s).is_stopped ≡ false
going_take by None s e = e
going_take by (Some i) s e = e

abbrev pub IsStop : Act → Type 0
IsStop what = what ≡ act.Stop

going_step : {F : Type 0} (setup : Setup F) (at by : ℕ) (what : Act) (s : State) → IsLegal by what s → (by ≡ 0 → IsStop what → ⊥) → s.is_stopped ≡ false → (step setup at by what s).is_stopped ≡ false
going_step setup at by (act.Edit edit) s legal other e = going_history at (edit_outcome setup.library edit s.history) s e
going_step setup at by act.Undo s legal other e = going_history at (undo_outcome s.history) s e
going_step setup at by act.Redo s legal other e = going_history at (redo_outcome s.history) s e
going_step setup at by (act.Want first len) s legal other e = going_if (is_past first len s) s (record s { jobs = jobs_after_want first len s }) e e
going_step setup at by (act.Cancel first len) s legal other e = going_if (is_past first len s) s (record s { jobs = jobs_after_cancel at first len s }) e e
going_step setup at by act.Claim s legal other e = going_claim by (position is_queued s.jobs) s e
going_step setup at by (act.File job) s legal other e = going_file setup.cache at (job - 1) (slice_get s.jobs (job - 1)) s e
going_step setup at by (act.Release job) s legal other e = e
going_step setup at by (act.Play n) s legal other e = going_play (slice_get (recipes s.history.line) n) s e
going_step setup at by (act.Show n) s legal other e = going_play (slice_get (recipes s.history.line) n) s e
going_step setup at by (act.Ask name) s legal other e = going_if (is_empty s) s (record s { exports = s.exports ++ new_export name s ∷ [] }) e e
going_step setup at by act.Take s legal other e = going_take by (position is_untaken s.exports) s e
going_step setup at by (act.End export ending) s legal other e = e
going_step setup at by (act.Mark turns) s legal other e = e
going_step setup at by act.Skip s legal other e = e
going_step setup at by act.Stop s legal other e = absurd (other legal.0 refl)

going_after : {F : Type 0} (setup : Setup F) (count : ℕ) (es : List Entry) (s : State) → AreLegal setup count es s → EndsNone IsStop 0 es → s.is_stopped ≡ false → (after setup count es s).is_stopped ≡ false
going_after setup count [] s legal ends e = e
going_after setup count (x ∷ es) s legal ends e =
    going_after setup (count + 1) es (step setup (count + 1) x.pass x.act s) legal.1 ends.1 (going_step setup (count + 1) x.pass x.act s legal.0 ends.0 e)

module _ {M K F : Type 0} (library : M → Library F) where
  -- the calls that are heard are those of the entries that were seen
  own_heard : (old new : DeskOf M K) (calls : List (CallOf F)) (h : Hears library old new calls) → own_calls old.fixed.number (calls_from (setup_of library old) (0 + length old.seen) h.more (state_of library old)) ≡ calls
  own_heard old new calls h =
      append_cancel_left (heard library old) (own_calls old.fixed.number (calls_from (setup_of library old) (0 + length old.seen) h.more (state_of library old))) calls
      (sym (ap (heard library) (desk_is old new h.more h.fixed h.seen) ∙ heard_more library old h.more) ∙ h.heard)

  legal_there : (old new : DeskOf M K) (calls : List (CallOf F)) (h : Hears library old new calls) → IsDesk library new → IsJournal (setup_of library old) (old.seen ++ h.more)
  legal_there old new calls h known = subst (λ (d : DeskOf M K). IsJournal (setup_of library d) d.seen) (desk_is old new h.more h.fixed h.seen) known.legal

  -- a job that the caller holds stays held until the caller ends it, whatever others enter
  pub holds_hears : (old new : DeskOf M K) (calls : List (CallOf F)) (n : ℕ) (recipe : Recipe) → IsDesk library new → Hears library old new calls → HasNone (EndsJob n) calls → Holds (state_of library old) old.fixed.number n recipe → Holds (state_of library new) new.fixed.number n recipe
  holds_hears old new calls n recipe known h none held =
      let ends = ends_none (EndsJob n) (setup_of library old) old.fixed.number (0 + length old.seen) h.more (state_of library old) (subst (HasNone (EndsJob n)) (sym (own_heard old new calls h)) none) in
      subst (λ (d : DeskOf M K). Holds (state_of library d) d.fixed.number n recipe) (sym (desk_is old new h.more h.fixed h.seen))
      (claim_lasts (setup_of library old) old.seen h.more old.fixed.number n recipe (legal_there old new calls h known) held ends)

  -- a session whose caller 0 makes no stop isn't stopped
  pub goes_on : (old new : DeskOf M K) (calls : List (CallOf F)) → IsDesk library new → Hears library old new calls → HasNone IsStop calls → old.fixed.number ≡ 0 → (state_of library old).is_stopped ≡ false → (state_of library new).is_stopped ≡ false
  goes_on old new calls known h none zero going =
      let ends = ends_none IsStop (setup_of library old) old.fixed.number (0 + length old.seen) h.more (state_of library old) (subst (HasNone IsStop) (sym (own_heard old new calls h)) none) in
      ap (λ (d : DeskOf M K). (state_of library d).is_stopped) (desk_is old new h.more h.fixed h.seen)
      ∙ ap (λ (s : State). s.is_stopped) (after_rest (setup_of library old) 0 old.seen h.more start)
      ∙ going_after (setup_of library old) (0 + length old.seen) h.more (state_of library old) (legal_rest (setup_of library old) 0 old.seen h.more start (legal_there old new calls h known)) (subst (λ (p : ℕ). EndsNone IsStop p h.more) zero ends) going
