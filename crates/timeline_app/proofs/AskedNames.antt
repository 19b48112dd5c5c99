-- The exports that a script's calls ask for.
use Rattle.std.proofs.Common.{◌≡◌, ℕ, ◌+◌, ◌-◌, cond, Bool, true, false, List, [], ◌∷◌, ◌++◌, map, length, take, Option, Some, None, Result, Ok, Err, refl, sym, ap, ◌∙◌, true≢false}
use Rattle.std.specs.Prelude.{slice_get}
use Rattle.std.specs.List.{position}
use Rattle.std.proofs.lemmas.List.{append-nil, append_assoc, map-append}
use Rattle.tl_model.specs.Cells.{recipes, is_among}
use Rattle.tl_model.specs.declared.edit.EditReply.{EditReply}
use Rattle.tl_model.specs.declared.recipe.Recipe.{Recipe}
use Rattle.tl_model.specs.declared.journal.Act.{Act}
use Rattle.tl_model.specs.declared.journal.Act.TheVariants as act
use Rattle.edit_undo.specs.History.{History, edit_outcome, undo_outcome, redo_outcome}
use Rattle.render_core.specs.declared.job.Job.{Job}
use Rattle.render_core.specs.Calls.{CallOf}
use Rattle.render_core.specs.Export.{ExportOf, is_untaken}
use Rattle.render_core.specs.State.{State, is_open, is_queued, with_result, without_holder, update, put_first}
use Rattle.render_core.specs.Step.{Setup, Reply, Asked, EmptyTimeline}
use Rattle.render_core.specs.Step.{step, reply, is_past, is_empty, with_history, jobs_after_want, jobs_after_cancel, after_claim, after_file, after_play, new_export}

-- An act that takes or ends an export.
abbrev pub is_carrying : Act → Bool
is_carrying (act.Edit edit) = false
is_carrying act.Undo = false
is_carrying act.Redo = false
is_carrying (act.Want first len) = false
is_carrying (act.Cancel first len) = false
is_carrying act.Claim = false
is_carrying (act.File job) = false
is_carrying (act.Release job) = false
is_carrying (act.Play n) = false
is_carrying (act.Show n) = false
is_carrying (act.Ask name) = false
is_carrying act.Take = true
is_carrying (act.End export ending) = true
is_carrying (act.Mark turns) = false
is_carrying act.Skip = false
is_carrying act.Stop = false

-- ---- the names that are asked for

abbrev pub name_asked : {F : Type 0} → List ℕ → Reply F → List (List ℕ)
name_asked name (Asked export) = name ∷ []
name_asked name other = []

abbrev pub act_asked : {F : Type 0} → Act → Reply F → List (List ℕ)
act_asked (act.Ask name) told = name_asked name told
act_asked other told = []

-- the name of a call that asks for an export, where it gets one
abbrev pub asked_names : {F : Type 0} → CallOf F → List (List ℕ)
asked_names call = act_asked call.act call.told

abbrev pub names_of : List ExportOf → List (List ℕ)
names_of exports = map (λ (x : ExportOf). x.name) exports

-- Nobody took any of these.
abbrev pub AreUntaken : List ExportOf → Type 0
AreUntaken [] = Unit {0}
AreUntaken (x ∷ xs) = (is_untaken x ≡ true) × AreUntaken xs

pub untaken-append : (xs ys : List ExportOf) → AreUntaken xs → AreUntaken ys → AreUntaken (xs ++ ys)
untaken-append [] ys h k = k
untaken-append (x ∷ xs) ys h k = (h.0, untaken-append xs ys h.1 k)

-- Exports of these names came to those that were there.
pub record AddsExports (s next : State) (asked : List (List ℕ)) : Type 0 where
  pub more : List ExportOf
  pub exports : next.exports ≡ s.exports ++ more
  pub untaken : AreUntaken more
  pub names : names_of more ≡ asked

adds_none : (s next : State) → next.exports ≡ s.exports → AddsExports s next []
adds_none s next e = record { more = []; exports = e ∙ sym (append-nil s.exports); untaken = tt; names = refl }

adds_then : (s mid next : State) (names others : List (List ℕ)) → AddsExports s mid names → AddsExports mid next others → AddsExports s next (names ++ others)
adds_then s mid next names others h k = record {
  more = h.more ++ k.more;
  exports = k.exports ∙ ap (λ (xs : List ExportOf). xs ++ k.more) h.exports ∙ append_assoc s.exports h.more k.more;
  untaken = untaken-append h.more k.more h.untaken k.untaken;
  names = map-append (λ (x : ExportOf). x.name) h.more k.more ∙ ap (λ (ns : List (List ℕ)). ns ++ names_of k.more) h.names ∙ ap (λ (ns : List (List ℕ)). names ++ ns) k.names;
}

-- ---- the exports change at their own entries alone

abbrev Keeps : State → State → Type 0
Keeps s next = next.exports ≡ s.exports

keeps_history : (at : ℕ) (o : Result History EditReply) (s : State) → Keeps s (with_history at o s)
keeps_history at (Err why) s = refl
keeps_history at (Ok next) s = refl

keeps_if : (b : Bool) (s next other : State) → Keeps s next → Keeps s other → Keeps s (cond b next other)
keeps_if true s next other h k = h
keeps_if false s next other h k = k

keeps_claim : (by : ℕ) (o : Option ℕ) (s : State) → Keeps s (after_claim by o s)
keeps_claim by None s = refl
keeps_claim by (Some i) s = refl

keeps_file : (cache at i : ℕ) (o : Option Job) (s : State) → Keeps s (after_file cache at i o s)
keeps_file cache at i None s = refl
keeps_file cache at i (Some job) s =
    keeps_if (is_open job) s (record s { jobs = update i (with_result at) s.jobs; filed = take cache (job.recipe ∷ s.filed) }) (record s { jobs = update i without_holder s.jobs }) refl refl

keeps_play : (o : Option Recipe) (s : State) → Keeps s (after_play o s)
keeps_play None s = refl
keeps_play (Some r) s = keeps_if (is_among r s.filed) s (record s { filed = put_first r s.filed }) s refl refl

adds_asked : (F : Type 0) (name : List ℕ) (count : ℕ) (s : State) (b : Bool) → AddsExports s (cond b s (record s { exports = s.exports ++ new_export name s ∷ [] })) (name_asked {F = F} name (cond b EmptyTimeline (Asked count)))
adds_asked F name count s true = adds_none s s refl
adds_asked F name count s false = record { more = new_export name s ∷ []; exports = refl; untaken = (refl, tt); names = refl }

-- a step that takes and ends no export, whichever pass makes it
pub adds_step : {F : Type 0} (setup : Setup F) (at by : ℕ) (what : Act) (s : State) → is_carrying what ≡ false → AddsExports s (step setup at by what s) (act_asked what (reply setup.library what s))
adds_step setup at by (act.Edit edit) s other = adds_none s _ (keeps_history at (edit_outcome setup.library edit s.history) s)
adds_step setup at by act.Undo s other = adds_none s _ (keeps_history at (undo_outcome s.history) s)
adds_step setup at by act.Redo s other = adds_none s _ (keeps_history at (redo_outcome s.history) s)
adds_step setup at by (act.Want first len) s other = adds_none s _ (keeps_if (is_past first len s) s s (record s { jobs = jobs_after_want first len s }) refl refl)
adds_step setup at by (act.Cancel first len) s other = adds_none s _ (keeps_if (is_past first len s) s s (record s { jobs = jobs_after_cancel at first len s }) refl refl)
adds_step setup at by act.Claim s other = adds_none s _ (keeps_claim by (position is_queued s.jobs) s)
adds_step setup at by (act.File job) s other = adds_none s _ (keeps_file setup.cache at (job - 1) (slice_get s.jobs (job - 1)) s)
adds_step setup at by (act.Release job) s other = adds_none s (record s { jobs = update (job - 1) without_holder s.jobs }) refl
adds_step setup at by (act.Play n) s other = adds_none s _ (keeps_play (slice_get (recipes s.history.line) n) s)
adds_step setup at by (act.Show n) s other = adds_none s _ (keeps_play (slice_get (recipes s.history.line) n) s)
adds_step {F} setup at by (act.Ask name) s other = adds_asked F name (length s.exports + 1) s (is_empty s)
adds_step setup at by act.Take s other = absurd (true≢false other)
adds_step setup at by (act.End export ending) s other = absurd (true≢false other)
adds_step setup at by (act.Mark turns) s other = adds_none s s refl
adds_step setup at by act.Skip s other = adds_none s s refl
adds_step setup at by act.Stop s other = adds_none s (record s { is_stopped = true }) refl
