-- A run over a store that was made.
use Rattle.std.proofs.Common.{◌≡◌, ℕ, true, List, Option, Some, None, inl, inr, refl, sym, ap, subst, ◌∙◌}
use Rattle.tl_ports.specs.Seen.{StoreSeen}
use Rattle.timeline_app.specs.declared.outcome.Outcome.{Outcome}
use Rattle.timeline_app.specs.declared.words.Asked.{Asked}
use Rattle.timeline_app.specs.Made.{Around, IsMade, IsOverBy, with_store}
use Rattle.timeline_app.specs.Runs.{RunsAsked, RunsForm}
use Rattle.timeline_app.specs.Words.{AsksFor, AsksWords, made_frames}

-- what the words ask for
pub asks_for : (words : List (List ℕ)) (o : Option Asked) (asked : Asked) → o ≡ Some asked → AsksWords words o → AsksFor words asked
asks_for words o asked is asks = let all : AsksWords words (Some asked) = subst (λ (o : Option Asked). AsksWords words o) is asks in record { form = all.0; is = all.1 }

module _ (others : ℕ → ℕ) (asked : Asked) where
  -- No run changes a file of its store.
  files_stay : (around : Around) (outcome : Outcome) → RunsAsked (others asked.workers) asked around outcome → around.new.store.file ≡ around.old.store.file
  files_stay around outcome (inl u) = u.quiet.files
  files_stay around outcome (inr r) = r.runs.store

  -- so one that has no faults is as it was
  store_stays : (old new : StoreSeen) → new.file ≡ old.file → new.faults ≡ 0 → old.faults ≡ 0 → new ≡ old
  store_stays old new files now before =
      ap (λ (f : List ℕ → Option (List ℕ)). record { file = f; faults = new.faults }) files
      ∙ ap (λ (n : ℕ). record { file = old.file; faults = n }) (now ∙ sym before)

  -- the script is a file of the store that was given
  pub runs_given : (given : Around) (outcome : Outcome) → made_frames asked.script.now ≡ None → RunsAsked (others asked.workers) asked given outcome
      → RunsForm others asked given outcome
  runs_given given outcome none runs =
      (given, subst (λ (o : Option ℕ). IsOverBy o asked.script.now given given) (sym none) refl, runs)

  -- it is made, and there are this store before the run and that one after it
  pub runs_made : (frames : ℕ) (given : Around) (made later : StoreSeen) (outcome : Outcome) → made_frames asked.script.now ≡ Some frames
      → IsMade asked.script.now frames made → later.faults ≡ 0 → given.new.store ≡ given.old.store
      → RunsAsked (others asked.workers) asked (record { old = record given.old { store = made }; new = record given.new { store = later }; tells = record given.tells { store = true } }) outcome
      → RunsForm others asked given outcome
  runs_made frames given made later outcome some is calm store runs =
      let over : Around = with_store made given in
      let there : Around = record { old = record given.old { store = made }; new = record given.new { store = later }; tells = record given.tells { store = true } } in
      let stays : later ≡ made = store_stays made later (files_stay there outcome runs) calm is.faults in (
        over,
        subst (λ (o : Option ℕ). IsOverBy o asked.script.now given over) (sym some) (record { made = made; is = is; over_made = refl; store = store }),
        subst (λ (s : StoreSeen). RunsAsked (others asked.workers) asked (record { old = record given.old { store = made }; new = record given.new { store = s }; tells = record given.tells { store = true } }) outcome) stays runs,
      )
