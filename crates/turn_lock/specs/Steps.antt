-- What each step on the word tells its caller, of the view and the slot before, the word that was found or stored, and the
-- view and the slot after.
use Rattle.std.specs.Prelude.{◌≡◌, ℕ, true, ◌*◌, ◌/◌, ◌%◌, List, [], ◌∷◌, length, Option, Some, IfSome}
use Rattle.atomic_table.specs.Table.{Me, Step}
use Rattle.tl_model.specs.declared.journal.Entry.{Entry}
use Rattle.turn_lock.specs.declared.view.View.{View}
use Rattle.turn_lock.specs.Entries.{entries_of, IsFront}
use Rattle.turn_lock.specs.Views.{with_look, with_word, with_turn, with_leave}
use Rattle.turn_lock.specs.Rule.{Telling}

abbrev Sat : Type 0 → Type 0
Sat B = Me (Option B) (View B)

module _ {B : Type 0} (tells : Telling B) where
  -- the view names the start of the turn, and a list meets the test under the start's fixed part
  abbrev pub MeetsFor : View B → List Entry → Type 0
  MeetsFor v log = IfSome v.start (λ start. tells.meets (tells.fixed start) log)

  -- what the value that was found tells
  pub record Finds (v : View B) (value : B) : Type 0 where
    pub extends : IsFront v.seen (tells.entries value)
    pub own : entries_of v.number (tells.entries value) ≡ v.mine
    pub fixed : IfSome v.start (λ start. tells.fixed value ≡ tells.fixed start)
    pub meets : MeetsFor v (tells.entries value)

  abbrev pub TakesAll : Sat B → ℕ → Sat B → Type 0
  TakesAll before word after =
      (value : B) × (after ≡ (with_turn (tells.entries value) before.0, (0, Some value) ∷ []))
      × (word ≡ 2 * length (tells.entries value)) × Finds before.0 value

  -- a take at an even word has the slot with the value; one at an odd word has nothing
  abbrev pub takes : Step (Option B) → Sat B → ℕ → Sat B → Type 0
  takes step before word after =
      (word % 2 ≡ 0 → TakesAll before word after)
      × (word % 2 ≡ 1 → (after ≡ (with_word word before.0, before.1)) × MeetsFor before.0 before.0.seen)

  -- a leave gives the slot back, with the value that stands in it
  abbrev pub leaves : Step (Option B) → Sat B → ℕ → Sat B → Type 0
  leaves step before word after =
      (value : B) → before.1 ≡ (0, Some value) ∷ []
      → after ≡ (with_leave (tells.entries value) (entries_of before.0.number (tells.entries value)) before.0, [])

  -- a look sees the whole list
  abbrev pub looks : Step (Option B) → Sat B → ℕ → Sat B → Type 0
  looks step before word after =
      (log : List Entry)
      × (after ≡ (with_look log before.0, before.1)) × (length log ≡ word / 2) × IsFront before.0.seen log
      × (entries_of before.0.number log ≡ before.0.mine) × (before.0.holds ≡ true → log ≡ before.0.seen) × MeetsFor before.0 log

  -- a look that changes nothing tells that the lists of the last join are fronts of one list, and that the view has seen its own entries
  abbrev pub compares : Step (Option B) → Sat B → ℕ → Sat B → Type 0
  compares step before word after =
      (after ≡ before) × ((log : List Entry) × IsFront before.0.seen log × IsFront before.0.behind log)
      × MeetsFor before.0 before.0.seen × (entries_of before.0.number before.0.seen ≡ before.0.mine)
