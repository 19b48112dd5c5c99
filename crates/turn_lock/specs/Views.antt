-- What a seat at the table knows, and what the steps that need no word make of it.
use Rattle.std.specs.Prelude.{ℕ, ◌+◌, ◌*◌, true, false, List, [], ◌∷◌, ◌++◌, length, Some, None}
use Rattle.tl_model.specs.declared.journal.Entry.{Entry}
use Rattle.turn_lock.specs.declared.view.Joined.{Joined}
use Rattle.turn_lock.specs.declared.view.View.{View}
use Rattle.turn_lock.specs.Entries.{longer, shorter}

-- a pass that was joined, as the other names it
abbrev pub as_joined : {B : Type 0} → View B → Joined
as_joined v = record { number = v.number; own = v.mine }

-- what names nothing
abbrev pub spent : {B : Type 0} → View B
spent =
    record { named = false; number = 0; holds = false; seen = []; behind = []; mine = []; made = 0; joined = []; start = None; word = 0 }

-- a pass with this number that has made nothing
abbrev pub new_view : {B : Type 0} → ℕ → B → View B
new_view number start = record spent { named = true; number = number; start = Some start }

-- pass 0 after a split, and the new pass
abbrev pub split_from : {B : Type 0} → View B → View B
split_from v = record v { made = v.made + 1 }

abbrev pub split_off : {B : Type 0} → View B → View B
split_off v = record v { number = v.made + 1; holds = false; behind = []; mine = []; made = 0; joined = []; word = 0 }

-- a note: it has no number
abbrev pub note_of : {B : Type 0} → View B → View B
note_of v = record v { named = false; number = 0; holds = false; behind = []; mine = []; made = 0; joined = []; word = 0 }

-- what took in a note, or another pass
abbrev pub with_seen : {B : Type 0} → View B → View B → View B
with_seen v w = record v { seen = longer v.seen w.seen; behind = shorter v.seen w.seen }

abbrev pub with_joined : {B : Type 0} → View B → View B → View B
with_joined v w = record v { seen = longer v.seen w.seen; behind = shorter v.seen w.seen; joined = v.joined ++ as_joined w ∷ w.joined }

-- what looked at the whole list, what tried to take the turn in vain, what took it, and what gave it back
abbrev pub with_look : {B : Type 0} → List Entry → View B → View B
with_look log v = record v { seen = log }

abbrev pub with_word : {B : Type 0} → ℕ → View B → View B
with_word word v = record v { word = word }

abbrev pub with_turn : {B : Type 0} → List Entry → View B → View B
with_turn log v = record v { seen = log; word = 2 * length log; holds = true }

abbrev pub with_leave : {B : Type 0} → (log own : List Entry) → View B → View B
with_leave log own v = record v { seen = log; mine = own; holds = false }
