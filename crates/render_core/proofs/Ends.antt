-- A taken export stays taken until its end is entered. Only caller 0 stops a session.
use Rattle.std.proofs.Common.{◌≡◌, ◌≢◌, ℕ, ◌+◌, ◌-◌, cond, Bool, true, false, List, [], ◌∷◌, ◌++◌, length, take, Option, Some, None, Result, Ok, Err, refl, sym, ap, subst, ◌∙◌, arith}
use Rattle.std.specs.Prelude.{slice_get, ◌==◌}
use Rattle.std.specs.List.{position}
use Rattle.std.proofs.lemmas.Bool.Decides.{nat_tests}
use Rattle.std.proofs.lemmas.List.Quantifiers.{position-Some}
use Rattle.std.proofs.lemmas.Option.{get_or_from_slice_get}
use Rattle.tl_model.specs.declared.recipe.Recipe.{Recipe}
use Rattle.tl_model.specs.declared.edit.EditReply.{EditReply}
use Rattle.tl_model.specs.declared.journal.Act.{Act}
use Rattle.tl_model.specs.declared.journal.Act.TheVariants as act
use Rattle.tl_model.specs.declared.journal.Entry.{Entry}
use Rattle.tl_model.specs.Cells.{Cell, recipes, is_among}
use Rattle.edit_undo.specs.History.{History, edit_outcome, undo_outcome, redo_outcome}
use Rattle.render_core.specs.declared.job.Job.{Job}
use Rattle.render_core.specs.declared.export.Stage.{Stage}
use Rattle.render_core.specs.declared.export.Stage.TheVariants as stage
use Rattle.render_core.specs.Export.{ExportOf, is_untaken, with_taker, with_ending}
use Rattle.render_core.specs.State.{State, start, is_open, is_queued, with_result, without_holder, update, put_first, HoldsExport}
use Rattle.render_core.specs.Step.{Setup, IsLegal, step, after, state_after, AreLegal, IsJournal, is_past, is_empty, with_history, jobs_after_want, jobs_after_cancel, after_claim, after_file, after_play, new_export, after_take, Reply, Taken, place_of, take_reply}
use Rattle.render_core.specs.Calls.{own}
use Rattle.render_core.specs.Waiting.{Took}
use Rattle.render_core.specs.Claim.{EndsExport, EndsNone}
use Rattle.render_core.proofs.Claims.{update_other, at_push, at_update}
use Rattle.render_core.proofs.Journals.{legal_rest, after_rest}

-- the exports and the stop change at their own entries alone
abbrev Stays : State → State → Type 0
Stays s next = (next.exports ≡ s.exports) × (next.is_stopped ≡ s.is_stopped)

stays_history : (at : ℕ) (o : Result History EditReply) (s : State) → Stays s (with_history at o s)
stays_history at (Err why) s = (refl, refl)
stays_history at (Ok next) s = (refl, refl)

stays_if : (b : Bool) (s next : State) → Stays s next → Stays s (cond b s next)
stays_if true s next h = (refl, refl)
stays_if false s next h = h

stays_if_else : (b : Bool) (s next other : State) → Stays s next → Stays s other → Stays s (cond b next other)
stays_if_else true s next other h k = h
stays_if_else false s next other h k = k

stays_claim : (by : ℕ) (o : Option ℕ) (s : State) → Stays s (after_claim by o s)
stays_claim by None s = (refl, refl)
stays_claim by (Some i) s = (refl, refl)

stays_file : (cache at i : ℕ) (o : Option Job) (s : State) → Stays s (after_file cache at i o s)
stays_file cache at i None s = (refl, refl)
stays_file cache at i (Some job) s =
    stays_if_else (is_open job) s (record s { jobs = update i (with_result at) s.jobs; filed = take cache (job.recipe ∷ s.filed) }) (record s { jobs = update i without_holder s.jobs }) (refl, refl) (refl, refl)

stays_play : (o : Option Recipe) (s : State) → Stays s (after_play o s)
stays_play None s = (refl, refl)
stays_play (Some r) s = stays_if_else (is_among r s.filed) s (record s { filed = put_first r s.filed }) s (refl, refl) (refl, refl)

going_take : (by : ℕ) (o : Option ℕ) (s : State) → (after_take by o s).is_stopped ≡ s.is_stopped
going_take by None s = refl
going_take by (Some i) s = refl

going_ask : (b : Bool) (s next : State) → next.is_stopped ≡ s.is_stopped → (cond b s next).is_stopped ≡ s.is_stopped
going_ask true s next e = refl
going_ask false s next e = e

going_step : {F : Type 0} (setup : Setup F) (at by : ℕ) (what : Act) (s : State) → IsLegal by what s → (by ≡ 0 → ⊥) → s.is_stopped ≡ false → (step setup at by what s).is_stopped ≡ false
going_step setup at by (act.Edit edit) s legal other e = (stays_history at (edit_outcome setup.library edit s.history) s).1 ∙ e
going_step setup at by act.Undo s legal other e = (stays_history at (undo_outcome s.history) s).1 ∙ e
going_step setup at by act.Redo s legal other e = (stays_history at (redo_outcome s.history) s).1 ∙ e
going_step setup at by (act.Want first len) s legal other e = (stays_if (is_past first len s) s (record s { jobs = jobs_after_want first len s }) (refl, refl)).1 ∙ e
going_step setup at by (act.Cancel first len) s legal other e = (stays_if (is_past first len s) s (record s { jobs = jobs_after_cancel at first len s }) (refl, refl)).1 ∙ e
going_step setup at by act.Claim s legal other e = (stays_claim by (position is_queued s.jobs) s).1 ∙ e
going_step setup at by (act.File job) s legal other e = (stays_file setup.cache at (job - 1) (slice_get s.jobs (job - 1)) s).1 ∙ e
going_step setup at by (act.Release job) s legal other e = e
going_step setup at by (act.Play n) s legal other e = (stays_play (slice_get (recipes s.history.line) n) s).1 ∙ e
going_step setup at by (act.Show n) s legal other e = (stays_play (slice_get (recipes s.history.line) n) s).1 ∙ e
going_step setup at by (act.Ask name) s legal other e = going_ask (is_empty s) s (record s { exports = s.exports ++ new_export name s ∷ [] }) refl ∙ e
going_step setup at by act.Take s legal other e = going_take by (position is_untaken s.exports) s ∙ e
going_step setup at by (act.End export ending) s legal other e = e
going_step setup at by (act.Mark turns) s legal other e = e
going_step setup at by act.Skip s legal other e = e
going_step setup at by act.Stop s legal other e = absurd (other legal.0)

-- none of the entries is of this pass
abbrev pub AreOthers : ℕ → List Entry → Type 0
AreOthers pass [] = Unit {0}
AreOthers pass (e ∷ es) = (e.pass ≡ pass → ⊥) × AreOthers pass es

others_by : (pass : ℕ) (e : Entry) (es : List Entry) (b : Bool) → (e.pass == pass) ≡ b → cond b (e ∷ own pass es) (own pass es) ≡ [] → (own pass es ≡ [] → AreOthers pass es) → AreOthers pass (e ∷ es)
others_by pass e es true t h rest = absurd cc
others_by pass e es false t h rest = (λ same. grind (arith, nat_tests, t, same), rest h)

pub own-others : (pass : ℕ) (es : List Entry) → own pass es ≡ [] → AreOthers pass es
own-others pass [] h = tt
own-others pass (e ∷ es) h = others_by pass e es (e.pass == pass) refl h (own-others pass es)

pub others_end : (ends : Act → Type 0) (pass : ℕ) (es : List Entry) → AreOthers pass es → EndsNone ends pass es
others_end ends pass [] h = tt
others_end ends pass (e ∷ es) h = (λ same end. h.0 same, others_end ends pass es h.1)

going_after : {F : Type 0} (setup : Setup F) (count : ℕ) (es : List Entry) (s : State) → AreLegal setup count es s → AreOthers 0 es → s.is_stopped ≡ false → (after setup count es s).is_stopped ≡ false
going_after setup count [] s legal others e = e
going_after setup count (x ∷ es) s legal others e =
    going_after setup (count + 1) es (step setup (count + 1) x.pass x.act s) legal.1 others.1 (going_step setup (count + 1) x.pass x.act s legal.0 others.0 e)

pub goes_on : {F : Type 0} (setup : Setup F) (journal more : List Entry) → IsJournal setup (journal ++ more) → own 0 more ≡ [] → (state_after setup journal).is_stopped ≡ false → (state_after setup (journal ++ more)).is_stopped ≡ false
goes_on setup journal more legal others e =
    ap (λ (s : State). s.is_stopped) (after_rest setup 0 journal more start)
    ∙ going_after setup (0 + length journal) more (state_after setup journal) (legal_rest setup 0 journal more start legal) (own-others 0 more others) e

-- a taken export
abbrev taken_export : ℕ → List ℕ → List Cell → ExportOf
taken_export pass name line = record { name = name; line = line; stage = stage.Taken pass }

export_stays : (s next : State) (pass n : ℕ) (name : List ℕ) (line : List Cell) → Stays s next → HoldsExport s pass n name line → HoldsExport next pass n name line
export_stays s next pass n name line e h = record { counted = h.counted; is_export = ap (λ (xs : List ExportOf). slice_get xs (n - 1)) e.0 ∙ h.is_export }

export_else : (s next : State) (pass n : ℕ) (name : List ℕ) (line : List Cell) → slice_get next.exports (n - 1) ≡ slice_get s.exports (n - 1) → HoldsExport s pass n name line → HoldsExport next pass n name line
export_else s next pass n name line e h = record { counted = h.counted; is_export = e ∙ h.is_export }

export_ask : (b : Bool) (s : State) (asked : ExportOf) (pass n : ℕ) (name : List ℕ) (line : List Cell) → HoldsExport s pass n name line → HoldsExport (cond b s (record s { exports = s.exports ++ asked ∷ [] })) pass n name line
export_ask true s asked pass n name line h = h
export_ask false s asked pass n name line h = record { counted = h.counted; is_export = at_push s.exports asked (taken_export pass name line) (n - 1) h.is_export }

export_take : (by : ℕ) (o : Option ℕ) (s : State) (pass n : ℕ) (name : List ℕ) (line : List Cell) → position is_untaken s.exports ≡ o → HoldsExport s pass n name line → HoldsExport (after_take by o s) pass n name line
export_take by None s pass n name line e h = h
export_take by (Some i) s pass n name line e h =
    let x = taken_export pass name line in
    let found = position-Some is_untaken s.exports i x e in
    let apart : (n - 1) ≢ i = λ same. (let is : false ≡ true = sym (ap is_untaken (get_or_from_slice_get s.exports i x x (ap (slice_get s.exports) (sym same) ∙ h.is_export))) ∙ found.1 in absurd cc) in
    export_else s (after_take by (Some i) s) pass n name line (update_other (with_taker by) s.exports (n - 1) i apart) h

-- an export is taken by one pass
taker_in : Option ExportOf → Option Stage
taker_in None = None
taker_in (Some x) = Some x.stage

same_taker : (s : State) (pass by n m : ℕ) (name name' : List ℕ) (line line' : List Cell) → HoldsExport s pass n name line → HoldsExport s by m name' line' → (n - 1) ≡ (m - 1) → by ≡ pass
unfolding taker_in
same_taker s pass by n m name name' line line' h k e =
    let stages : Some (stage.Taken by) ≡ Some (stage.Taken pass) =
    sym (ap taker_in k.is_export) ∙ ap (λ (i : ℕ). taker_in (slice_get s.exports i)) (sym e) ∙ ap taker_in h.is_export in
    cc

export_step : {F : Type 0} (setup : Setup F) (at by : ℕ) (what : Act) (s : State) (pass n : ℕ) (name : List ℕ) (line : List Cell) → HoldsExport s pass n name line → IsLegal by what s → (by ≡ pass → EndsExport n what → ⊥) → HoldsExport (step setup at by what s) pass n name line
export_step setup at by (act.Edit edit) s pass n name line h legal ends = export_stays s _ pass n name line (stays_history at (edit_outcome setup.library edit s.history) s) h
export_step setup at by act.Undo s pass n name line h legal ends = export_stays s _ pass n name line (stays_history at (undo_outcome s.history) s) h
export_step setup at by act.Redo s pass n name line h legal ends = export_stays s _ pass n name line (stays_history at (redo_outcome s.history) s) h
export_step setup at by (act.Want first len) s pass n name line h legal ends = export_stays s _ pass n name line (stays_if (is_past first len s) s (record s { jobs = jobs_after_want first len s }) (refl, refl)) h
export_step setup at by (act.Cancel first len) s pass n name line h legal ends = export_stays s _ pass n name line (stays_if (is_past first len s) s (record s { jobs = jobs_after_cancel at first len s }) (refl, refl)) h
export_step setup at by act.Claim s pass n name line h legal ends = export_stays s _ pass n name line (stays_claim by (position is_queued s.jobs) s) h
export_step setup at by (act.File job) s pass n name line h legal ends = export_stays s _ pass n name line (stays_file setup.cache at (job - 1) (slice_get s.jobs (job - 1)) s) h
export_step setup at by (act.Release job) s pass n name line h legal ends = export_else s (record s { jobs = update (job - 1) without_holder s.jobs }) pass n name line refl h
export_step setup at by (act.Play m) s pass n name line h legal ends = export_stays s _ pass n name line (stays_play (slice_get (recipes s.history.line) m) s) h
export_step setup at by (act.Show m) s pass n name line h legal ends = export_stays s _ pass n name line (stays_play (slice_get (recipes s.history.line) m) s) h
export_step setup at by (act.Ask other) s pass n name line h legal ends = export_ask (is_empty s) s (new_export other s) pass n name line h
export_step setup at by act.Take s pass n name line h legal ends = export_take by (position is_untaken s.exports) s pass n name line refl h
export_step setup at by (act.End export ending) s pass n name line h legal ends =
    let apart : (n - 1) ≢ (export - 1) = λ e. ends (same_taker s pass by n export name legal.0 line legal.1 h legal.2 e) (let same : export ≡ n = omega (arith, e, h.counted, legal.2.counted) in same) in
    export_else s (record s { exports = update (export - 1) (with_ending ending) s.exports }) pass n name line (update_other (with_ending ending) s.exports (n - 1) (export - 1) apart) h
export_step setup at by (act.Mark turns) s pass n name line h legal ends = h
export_step setup at by act.Skip s pass n name line h legal ends = h
export_step setup at by act.Stop s pass n name line h legal ends = export_else s (record s { is_stopped = true }) pass n name line refl h

export_after : {F : Type 0} (setup : Setup F) (count : ℕ) (more : List Entry) (s : State) (pass n : ℕ) (name : List ℕ) (line : List Cell) → HoldsExport s pass n name line → AreLegal setup count more s → EndsNone (EndsExport n) pass more → HoldsExport (after setup count more s) pass n name line
export_after setup count [] s pass n name line h legal ends = h
export_after setup count (e ∷ es) s pass n name line h legal ends =
    export_after setup (count + 1) es (step setup (count + 1) e.pass e.act s) pass n name line (export_step setup (count + 1) e.pass e.act s pass n name line h legal.0 ends.0) legal.1 ends.1

pub export_lasts : {F : Type 0} (setup : Setup F) (journal more : List Entry) (pass n : ℕ) (name : List ℕ) (line : List Cell) → IsJournal setup (journal ++ more) → HoldsExport (state_after setup journal) pass n name line → EndsNone (EndsExport n) pass more → HoldsExport (state_after setup (journal ++ more)) pass n name line
export_lasts setup journal more pass n name line legal h ends =
    subst (λ (s : State). HoldsExport s pass n name line) (sym (after_rest setup 0 journal more start))
    (export_after setup (0 + length journal) more (state_after setup journal) pass n name line h (legal_rest setup 0 journal more start legal) ends)

-- an export that was just taken is held
pub take_holds : (pass place : ℕ) (x : ExportOf) (s next : State) → next ≡ after_take pass (Some place) s → slice_get s.exports place ≡ Some x → HoldsExport next pass (place + 1) x.name x.line
take_holds pass place x s next turn e =
    let i : (place + 1) - 1 ≡ place = omega arith in
    record {
      counted = omega arith;
      is_export = ap (λ (n : State). slice_get n.exports ((place + 1) - 1)) turn ∙ ap (slice_get (update place (with_taker pass) s.exports)) i ∙ at_update (with_taker pass) s.exports place x e;
    }

pub took_holds : (pass place : ℕ) (o : Option ExportOf) (name : List ℕ) (line : List Cell) (s next : State) → next ≡ after_take pass (Some place) s → slice_get s.exports place ≡ o → Took name line o → HoldsExport next pass (place + 1) name line
took_holds pass place None name line s next turn e t = absurd t
took_holds pass place (Some x) name line s next turn e t =
    subst (λ (n : List ℕ). HoldsExport next pass (place + 1) n line) (sym t.0)
    (subst (λ (l : List Cell). HoldsExport next pass (place + 1) x.name l) (sym t.1) (take_holds pass place x s next turn e))

-- what a take tells
took_told : {F : Type 0} (place : ℕ) (o : Option ExportOf) (name : List ℕ) (line : List Cell) → Took name line o → ◌≡◌ {A = Reply F} (Taken (place + 1) name line) (take_reply (Some place) o)
took_told place None name line t = absurd t
took_told {F} place (Some x) name line t = ap (λ (n : List ℕ). Taken (place + 1) n line) t.0 ∙ ap (λ (l : List Cell). Taken (place + 1) x.name l) t.1

pub take_told : {F : Type 0} (s : State) (place export : ℕ) (name : List ℕ) (line : List Cell) → position is_untaken s.exports ≡ Some place → export ≡ place + 1 → Took name line (slice_get s.exports place) → ◌≡◌ {A = Reply F} (Taken export name line) (take_reply (position is_untaken s.exports) (slice_get s.exports (place_of (position is_untaken s.exports))))
take_told {F} s place export name line e n t =
    ap (λ (k : ℕ). Taken k name line) n ∙ took_told {F = F} place (slice_get s.exports place) name line t
    ∙ ap (λ (o : Option ℕ). take_reply {F = F} o (slice_get s.exports (place_of o))) (sym e)
