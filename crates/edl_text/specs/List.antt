-- An edit list: what all of its lines say together.
use Rattle.std.specs.Prelude.{◌≡◌, ℕ, ◌+◌, ◌==◌, List, [], ◌∷◌, Option, Some, None, Result, Ok, Err}
use Rattle.std.specs.Map.{lookup}
use Rattle.std.specs.Str.Lines.{lines}
use Rattle.edl_text.specs.declared.event.Edl.{Edl}
use Rattle.edl_text.specs.declared.event.Event.{Event}
use Rattle.edl_text.specs.declared.fault.EdlWhy.{EdlWhy}
use Rattle.edl_text.specs.declared.fault.EdlFault.{EdlFault}
use Rattle.edl_text.specs.declared.fault.EdlFault.TheVariants as faults
use Rattle.edl_text.specs.declared.row.Edit.{Edit}
use Rattle.edl_text.specs.declared.row.Side.{Side}
use Rattle.edl_text.specs.declared.row.Side.TheVariants as sides
use Rattle.edl_text.specs.Row.{Said, Passed, Title, From, To, Other, Video}
use Rattle.edl_text.specs.Line.{row_of}

infixl 10 ◌>>=◌
abbrev pub ◌>>=◌ : {A B : Type 0} → Result A EdlFault → (A → Result B EdlFault) → Result B EdlFault
(Ok x) >>= f = f x
(Err e) >>= f = Err e

abbrev pub at_line : {A : Type 0} → (n : ℕ) → Result A EdlWhy → Result A EdlFault
at_line n (Ok x) = Ok x
at_line n (Err why) = Err (faults.Line n why)

-- What the lines from line n on say, or the first fault.
unfoldable pub said_from : (rate n : ℕ) → List (List ℕ) → Result (List Said) EdlFault
said_from rate n [] = Ok []
said_from rate n (line ∷ more) = do
  row ← at_line n (row_of rate line)
  rows ← said_from rate (n + 1) more
  Ok (row ∷ rows)

-- The first title counts; without one it is empty.
unfoldable pub title_of : List Said → List ℕ
title_of [] = []
title_of (Title text ∷ rows) = text
title_of (row ∷ rows) = title_of rows

-- the number of the event line last above, once a row is passed
abbrev pub number_after : Option ℕ → Said → Option ℕ
number_after above (Other number) = Some number
number_after above (Video number reel edit) = Some number
number_after above row = above

-- the name of one side that a row has
abbrev pub name_in : Side → Said → Option (List ℕ)
name_in sides.From (From text) = Some text
name_in sides.To (To text) = Some text
name_in side row = None

abbrev pub with_name : Option ℕ → Option (List ℕ) → List (ℕ × List ℕ) → List (ℕ × List ℕ)
with_name (Some number) (Some text) more = (number, text) ∷ more
with_name number text more = more

-- The names of one side, each with the number of the event line last above it. A name before any event is passed over.
unfoldable pub names_from : Side → (above : Option ℕ) → List Said → List (ℕ × List ℕ)
names_from side above [] = []
names_from side above (row ∷ rows) = with_name above (name_in side row) (names_from side (number_after above row) rows)

-- The first name of each side counts for all events of its number.
unfoldable pub name_of : Side → List Said → (number : ℕ) → Option (List ℕ)
name_of side rows number = lookup (λ other. other == number) (names_from side None rows)

-- The names of both sides by the number of an event.
pub record Names : Type 0 where
  pub from : ℕ → Option (List ℕ)
  pub to : ℕ → Option (List ℕ)

abbrev pub names_of : List Said → Names
names_of rows = record { from = name_of sides.From rows; to = name_of sides.To rows }

abbrev pub event : Names → (line number : ℕ) → (reel : List ℕ) → Edit → Event
event names line number reel edit = record {
  line = line;
  number = number;
  reel = reel;
  duration = edit.duration;
  source_in = edit.times.source_in;
  source_out = edit.times.source_out;
  record_in = edit.times.record_in;
  record_out = edit.times.record_out;
  from = names.from number;
  to = names.to number;
}

-- The video events of the rows from line n on.
unfoldable pub events_from : Names → (n : ℕ) → List Said → List Event
events_from names n [] = []
events_from names n (Video number reel edit ∷ rows) = event names n number reel edit ∷ events_from names (n + 1) rows
events_from names n (row ∷ rows) = events_from names (n + 1) rows

-- The edit list that a text is at a rate, or its first faulty line.
unfoldable pub edl : (rate : ℕ) → List ℕ → Result Edl EdlFault
edl rate text = do
  rows ← said_from rate 1 (lines text)
  Ok (record { title = title_of rows; events = events_from (names_of rows) 1 rows })

-- What a reader answers, seen by view, is what the definition gives, unless memory was wanting.
abbrev pub Fails : {Y : Type 0} → EdlFault → Result Y EdlFault → Type 0
Fails faults.NoMemory read = Unit {0}
Fails (faults.Line n why) read = read ≡ Err (faults.Line n why)

abbrev pub Gives : {X Y : Type 0} → (X → Y) → Result X EdlFault → Result Y EdlFault → Type 0
Gives view (Ok x) read = read ≡ Ok (view x)
Gives view (Err fault) read = Fails fault read
