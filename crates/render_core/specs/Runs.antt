-- Lists of calls: what led from one board to another, and what the journal then has.
use Rattle.std.specs.Prelude.{◌≡◌, List, [], ◌∷◌, ◌++◌, map, length, Option, Some, None}
use Rattle.tl_model.specs.Media.{Library}
use Rattle.tl_model.specs.declared.journal.Entry.{Entry}
use Rattle.render_core.specs.Step.{Setup, state_after, AreLegal}
use Rattle.render_core.specs.Calls.{CallOf, entry_of, calls_from}
use Rattle.render_core.specs.Board.{BoardOf, Makes}

-- The calls that have entries.
abbrev pub entered_calls : {F : Type 0} → List (Option (CallOf F)) → List (CallOf F)
entered_calls [] = []
entered_calls (None ∷ calls) = entered_calls calls
entered_calls (Some call ∷ calls) = call ∷ entered_calls calls

module _ {M F : Type 0} where
  -- The calls, one after the other, lead from one board to another.
  abbrev pub Runs : (M → Library F) → (old new : BoardOf M) → List (Option (CallOf F)) → Type 0
  Runs library old new [] = new ≡ old
  Runs library old new (call ∷ calls) = (mid : BoardOf M) × Makes library old mid call × Runs library mid new calls

-- A journal has gained the entries of the calls in order. Each may come there, and each call was told the machine's reply to its entry.
pub record Journals {F : Type 0} (setup : Setup F) (old new : List Entry) (calls : List (CallOf F)) : Type 0 where
  pub added : new ≡ old ++ map entry_of calls
  pub legal : AreLegal setup (length old) (map entry_of calls) (state_after setup old)
  pub answered : calls ≡ calls_from setup (length old) (map entry_of calls) (state_after setup old)
