-- Lists of calls, by induction from one call.
use Rattle.std.proofs.Common.{◌≡◌, ℕ, ◌+◌, List, [], ◌∷◌, ◌++◌, map, length, Option, Some, None, refl, sym, ap, subst, ◌∙◌, arith}
use Rattle.std.proofs.lemmas.List.{length_push, append_assoc, append-nil}
use Rattle.tl_model.specs.Media.{Library}
use Rattle.tl_model.specs.declared.journal.Entry.{Entry}
use Rattle.render_core.specs.State.{State, start}
use Rattle.render_core.specs.Step.{Setup, Reply, IsLegal, step, reply, state_after, AreLegal}
use Rattle.render_core.specs.Board.{BoardOf, setup_of}
use Rattle.render_core.specs.Calls.{CallOf, entry_of, calls_from}
use Rattle.render_core.specs.Runs.{entered_calls, Runs, Journals}
use Rattle.render_core.proofs.Grows.{after-append}

-- the same journal of a board of the same library and cache
moved : {M F : Type 0} (library : M → Library F) (old mid : BoardOf M) (before new : List Entry) (calls : List (CallOf F)) → mid.library ≡ old.library → mid.cache ≡ old.cache → mid.journal ≡ before → Journals (setup_of library mid) mid.journal new calls → Journals (setup_of library old) before new calls
moved {M} {F} library old mid before new calls l c j h =
    let setup : setup_of library mid ≡ setup_of library old = ap (λ m. record { library = library m; cache = mid.cache }) l ∙ ap (λ (n : ℕ). record { library = library old.library; cache = n }) c in
    subst (λ (k : List Entry). Journals (setup_of library old) k new calls) j
    (subst (λ (x : Setup F). Journals x mid.journal new calls) setup h)

-- one call before others
one_more : {F : Type 0} (setup : Setup F) (old new : List Entry) (call : CallOf F) (calls : List (CallOf F)) → IsLegal call.pass call.act (state_after setup old) → call.told ≡ reply setup.library call.act (state_after setup old) → Journals setup (old ++ entry_of call ∷ []) new calls → Journals setup old new (call ∷ calls)
one_more {F} setup old new call calls legal told h =
    let n : length (old ++ entry_of call ∷ []) ≡ length old + 1 = length_push old (entry_of call) in
    let z : 0 + length old + 1 ≡ length old + 1 = omega arith in
    let turned : state_after setup (old ++ entry_of call ∷ []) ≡ step setup (length old + 1) call.pass call.act (state_after setup old) =
    after-append setup 0 old (entry_of call) start ∙ ap (λ (k : ℕ). step setup k call.pass call.act (state_after setup old)) z in
    let es = map entry_of calls in
    let first : CallOf F = record call { told = reply setup.library call.act (state_after setup old) } in
    record {
      added = h.added ∙ append_assoc old (entry_of call ∷ []) es;
      legal = (legal, subst (λ (s : State). AreLegal setup (length old + 1) es s) turned (subst (λ (k : ℕ). AreLegal setup k es (state_after setup (old ++ entry_of call ∷ []))) n h.legal));
      answered = ap (λ (r : Reply F). record call { told = r } ∷ calls) told
          ∙ ap (λ (cs : List (CallOf F)). first ∷ cs) (h.answered ∙ ap (λ (k : ℕ). calls_from setup k es (state_after setup (old ++ entry_of call ∷ []))) n ∙ ap (calls_from setup (length old + 1) es) turned);
    }

pub calls_entered : {M F : Type 0} (library : M → Library F) (old new : BoardOf M) (calls : List (Option (CallOf F))) → Runs library old new calls → Journals (setup_of library old) old.journal new.journal (entered_calls calls)
calls_entered {M} library old new [] h = record {
  added = ap (λ (b : BoardOf M). b.journal) h ∙ sym (append-nil old.journal);
  legal = tt;
  answered = refl;
}
calls_entered library old new (None ∷ calls) h =
    moved library old h.0 old.journal new.journal (entered_calls calls) h.1.library h.1.cache h.1.journal (calls_entered library h.0 new calls h.2)
calls_entered library old new (Some call ∷ calls) h =
    one_more (setup_of library old) old.journal new.journal call (entered_calls calls) h.1.0.legal h.1.1
    (moved library old h.0 (old.journal ++ entry_of call ∷ []) new.journal (entered_calls calls) h.1.0.library_stays h.1.0.cache h.1.0.journal (calls_entered library h.0 new calls h.2))
