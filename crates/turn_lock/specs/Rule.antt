-- The rule of the turn: what holds of its word, its slot and all views, between any two steps.
use Rattle.std.specs.Prelude.{◌≡◌, ◌≢◌, ℕ, ◌+◌, ◌*◌, ◌^◌, ◌<◌, ◌≤◌, ◌⊎◌, true, false, List, [], ◌∷◌, length, Contains, Option, Some, IfSome}
use mathlib.Core.Option.{none, some}
use lib.ListN.{get_elem?}
use Rattle.atomic_table.specs.Table.{State}
use Rattle.tl_model.specs.declared.journal.Entry.{Entry}
use Rattle.turn_lock.specs.declared.view.Joined.{Joined}
use Rattle.turn_lock.specs.declared.view.View.{View}
use Rattle.turn_lock.specs.Entries.{entries_of, IsFront}

-- what a value behind the turn tells: `Journaled`, for one type
pub record Telling (B : Type 0) : Type 1 where
  pub Fixed : Type 0
  pub entries : B → List Entry
  pub fixed : B → Fixed
  pub meets : Fixed → List Entry → Type 0

-- the view stands in the list at this place
abbrev pub IsAt : {B : Type 0} → List (View B) → ℕ → View B → Type 0
IsAt views place v = get_elem? views place ≡ some v

module _ {B : Type 0} where
  -- a named view knows the start, its own entries, which it has seen, and those of each pass that was joined into it
  pub record IsNamed (start : B) (log : List Entry) (made : ℕ) (v : View B) : Type 0 where
    pub starts : v.start ≡ Some start
    pub numbered : v.number ≤ made
    pub counts : v.number ≡ 0 → v.made ≡ made
    pub own : v.mine ≡ entries_of v.number log
    pub seen_own : entries_of v.number v.seen ≡ v.mine
    pub joined : (j : Joined) → Contains v.joined j → (1 ≤ j.number) × (j.number ≤ made) × (j.own ≡ entries_of j.number log)

  -- what a view has seen is a front of the list; one without a number holds nothing and has no entries
  pub record Fits (start : B) (log : List Entry) (made : ℕ) (v : View B) : Type 0 where
    pub seen : IsFront v.seen log
    pub behind : IsFront v.behind log
    pub starts : IfSome v.start (λ b. b ≡ start)
    pub named : v.named ≡ true → IsNamed start log made v
    pub nameless : v.named ≡ false → (v.holds ≡ false) × (v.mine ≡ []) × (v.joined ≡ [])

  -- the numbers of passes differ
  abbrev pub AreApart : List (View B) → Type 0
  AreApart views =
      (i j : ℕ) (v w : View B) → IsAt views i v → IsAt views j w
      → v.named ≡ true → w.named ≡ true → v.number ≡ w.number → i ≡ j

  -- no pass has the number of one that was joined
  abbrev pub AreEnded : List (View B) → Type 0
  AreEnded views =
      (i j : ℕ) (v w : View B) → IsAt views i v → IsAt views j w
      → v.named ≡ true → (ended : Joined) → Contains w.joined ended → v.number ≢ ended.number

  -- nobody holds the turn
  abbrev pub NoneHolds : List (View B) → Type 0
  NoneHolds views = (i : ℕ) (v : View B) → IsAt views i v → v.holds ≡ false

  -- the view at this place holds the turn, as the only one, and has seen the list
  abbrev pub Holds : List Entry → List (View B) → ℕ → View B → Type 0
  Holds log views place v =
      IsAt views place v × (v.holds ≡ true) × (v.seen ≡ log)
      × ((i : ℕ) (w : View B) → IsAt views i w → w.holds ≡ true → i ≡ place)

  -- the word is even, and the value is at home with the list
  pub record IsFree (tells : Telling B) (start : B) (log : List Entry) (s : State (Option B) (View B)) : Type 0 where
    pub value : B
    pub word : s.words ≡ (2 * length log) ∷ []
    pub home : s.homes ≡ some (Some value) ∷ []
    pub list : tells.entries value ≡ log
    pub fixed : tells.fixed value ≡ tells.fixed start
    pub none_holds : NoneHolds s.views

  -- the word is odd, and the value is with the holder
  pub record IsTaken (log : List Entry) (s : State (Option B) (View B)) : Type 0 where
    pub place : ℕ
    pub holder : View B
    pub word : s.words ≡ (2 * length log + 1) ∷ []
    pub home : s.homes ≡ none ∷ []
    pub holds : Holds log s.views place holder

  -- the rule: the list at home, or that at the holder's take, and how many passes pass 0 made
  pub record IsTurn (tells : Telling B) (start : B) (s : State (Option B) (View B)) : Type 0 where
    pub log : List Entry
    pub made : ℕ
    pub few : length log < 2 ^ 62
    pub meets : tells.meets (tells.fixed start) log
    pub turn : IsFree tells start log s ⊎ IsTaken log s
    pub fits : (i : ℕ) (v : View B) → IsAt s.views i v → Fits start log made v
    pub apart : AreApart s.views
    pub ended : AreEnded s.views
    pub beyond : (number : ℕ) → made < number → entries_of number log ≡ []
