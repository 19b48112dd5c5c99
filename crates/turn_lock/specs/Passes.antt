-- Turns, passes and notes as contracts see them, and what the calls make of them.
use Rattle.std.specs.Prelude.{◌≡◌, ℕ, ◌*◌, ◌/◌, ◌%◌, Bool, true, false, List, [], ◌∷◌, ◌++◌, length, Contains, Option, Some, None}
use Rattle.atomic_table.specs.Seated.{TableId}
use Rattle.atomic_table.specs.Table.{Me}
use Rattle.tl_model.specs.declared.journal.Entry.{Entry}
use Rattle.turn_lock.specs.declared.view.Joined.{Joined}
use Rattle.turn_lock.specs.declared.view.View.{View}
use Rattle.turn_lock.specs.Entries.{entries_of, longer}

-- which turn it is, and the value that it started with
pub record TurnOf (B : Type 0) : Type 0 where
  pub id : TableId
  pub start : B

-- the turn and its start, the pass's number, what it has seen, its own entries, how many passes it made, those that were
-- joined into it, the word that its last take read, and whether it holds the turn
pub record PassOf (B : Type 0) : Type 0 where
  pub turn : TableId
  pub start : Option B
  pub number : ℕ
  pub seen : List Entry
  pub own : List Entry
  pub made : ℕ
  pub joined : List Joined
  pub word : ℕ
  pub holds : Bool

-- a note has no number, and no entries of its own
pub record NoteOf (B : Type 0) : Type 0 where
  pub turn : TableId
  pub start : Option B
  pub seen : List Entry
  pub own : List Entry

-- a pass with this number was joined
abbrev pub Names : List Joined → ℕ → Type 0
Names joined number = (ended : Joined) × Contains joined ended × (ended.number ≡ number)

module _ {B : Type 0} where
  abbrev pub pass_of : TableId → View B → PassOf B
  pass_of turn v = record {
    turn = turn;
    start = v.start;
    number = v.number;
    seen = v.seen;
    own = v.mine;
    made = v.made;
    joined = v.joined;
    word = v.word;
    holds = v.holds;
  }

  abbrev pub note_as : TableId → View B → NoteOf B
  note_as turn v = record { turn = turn; start = v.start; seen = v.seen; own = v.mine }

  -- who holds the turn has the slot, from which it took the value
  abbrev pub slots_of : Bool → List (ℕ × Option B)
  slots_of true = (0, None) ∷ []
  slots_of false = []

  pub record IsPass (number made : ℕ) (me : Me (Option B) (View B)) : Type 0 where
    pub named : me.0.named ≡ true
    pub numbered : me.0.number ≡ number
    pub makes : me.0.made ≡ made
    pub slots : me.1 ≡ slots_of me.0.holds

  pub record IsNote (me : Me (Option B) (View B)) : Type 0 where
    pub nameless : me.0.named ≡ false
    pub slots : me.1 ≡ []

  -- the pass is one of this turn
  abbrev pub IsOf : TurnOf B → PassOf B → Type 0
  IsOf turn pass = (pass.turn ≡ turn.id) × (pass.start ≡ Some turn.start)

  -- a pass with this number of a turn, which has seen this and done nothing
  abbrev pub new_pass : TableId → Option B → ℕ → List Entry → PassOf B
  new_pass turn start number seen = record {
    turn = turn;
    start = start;
    number = number;
    seen = seen;
    own = [];
    made = 0;
    joined = [];
    word = 0;
    holds = false;
  }

  abbrev pub first_pass : TurnOf B → PassOf B
  first_pass turn = new_pass turn.id (Some turn.start) 0 []

  -- the pass read an odd word, of which the half was told, and is otherwise as before
  abbrev pub IsTurnedAway : (before after : PassOf B) → ℕ → Type 0
  IsTurnedAway before after seen = (after.word % 2 ≡ 1) × (seen ≡ after.word / 2) × (after ≡ record before { word = after.word })

  -- the pass read an even word, twice the number of entries, and holds the turn over these
  abbrev pub HasTaken : (before after : PassOf B) → List Entry → Type 0
  HasTaken before after log = after ≡ record before { seen = log; word = 2 * length log; holds = true }

  -- the pass that pass 0 made last
  abbrev pub pass_from : PassOf B → PassOf B
  pass_from pass = new_pass pass.turn pass.start pass.made pass.seen

  abbrev pub note_from : PassOf B → NoteOf B
  note_from pass = record { turn = pass.turn; start = pass.start; seen = pass.seen; own = [] }

  abbrev pub named_by : PassOf B → Joined
  named_by pass = record { number = pass.number; own = pass.own }

  -- the pass gave the turn back over these entries
  abbrev pub HasLeft : (before after : PassOf B) → List Entry → Type 0
  HasLeft before after log = after ≡ record before { seen = log; own = entries_of before.number log; holds = false }

  -- the pass names the other and all that it named
  abbrev pub HasJoined : (before other after : PassOf B) → Type 0
  HasJoined before other after =
      after ≡ record before { seen = longer before.seen other.seen; joined = before.joined ++ named_by other ∷ other.joined }
