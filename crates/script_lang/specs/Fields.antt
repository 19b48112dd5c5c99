-- Words of a script's line: numbers and names.
use Rattle.std.specs.Prelude.{◌≡◌, ℕ, ℤ, Bool, true, false, List, [], ◌∷◌, Result, Ok, Err}
use Rattle.std.specs.Option.{ok_or}
use Rattle.tl_limits.specs.Limits.{max_frames}
use Rattle.text_words.specs.Blanks.{text}
use Rattle.text_words.specs.Number.{number, signed_number}
use Rattle.script_lang.specs.declared.script.ScriptFault.{ScriptFault}
use Rattle.script_lang.specs.declared.script.ScriptFault.TheVariants as faults
use Rattle.script_lang.specs.declared.fields.LineRefusal.{LineRefusal}
use Rattle.script_lang.specs.declared.fields.LineRefusal.TheVariants.{Fault, NoMemory}
use Rattle.script_lang.specs.Lists.{Words}

-- One step after another, up to the first fault.
infixl 10 ◌>>=◌
abbrev pub ◌>>=◌ : {A B E : Type 0} → Result A E → (A → Result B E) → Result B E
(Ok x) >>= f = f x
(Err e) >>= f = Err e

-- A test that has a fault where it fails.
abbrev pub checked : Bool → ScriptFault → Result (Unit {0}) ScriptFault
checked true fault = Ok tt
checked false fault = Err fault

-- A number of 1 to 7 digits, from low to high.
unfoldable pub within : (low high : ℕ) → List ℕ → Result ℕ ScriptFault
within low high word = ok_or (number 7 low high word) faults.Number

-- The same to 1,000,000.
abbrev pub whole : (low : ℕ) → List ℕ → Result ℕ ScriptFault
whole low word = within low max_frames word

-- A number of 1 to 7 digits up to 1,000,000, with a minus before it or not.
unfoldable pub signed : List ℕ → Result ℤ ScriptFault
signed word = ok_or (signed_number 7 max_frames word) faults.Number

-- A name is text. The words of a line that is UTF-8 are.
unfoldable pub name_of : List ℕ → Result (List ℕ) ScriptFault
name_of word = ok_or (text word) faults.Utf8

-- One number, and a number of at least low after a place.
unfoldable pub one_number : (low : ℕ) → Words → Result ℕ ScriptFault
one_number low (a ∷ []) = whole low a
one_number low other = Err faults.Count

unfoldable pub pair_of : (low : ℕ) → (a b : List ℕ) → Result (ℕ × ℕ) ScriptFault
pair_of low a b = do
  at ← whole 0 a
  n ← whole low b
  Ok (at, n)

unfoldable pub two_numbers : (low : ℕ) → Words → Result (ℕ × ℕ) ScriptFault
two_numbers low (a ∷ b ∷ []) = pair_of low a b
two_numbers low other = Err faults.Count

-- A place and by how much.
unfoldable pub place_by : Words → Result (ℕ × ℤ) ScriptFault
place_by (a ∷ b ∷ []) = do
  at ← whole 0 a
  by ← signed b
  Ok (at, by)
place_by other = Err faults.Count

unfoldable pub one_name : Words → Result (List ℕ) ScriptFault
one_name (a ∷ []) = name_of a
one_name other = Err faults.Count

-- A function of the code, its answer seen by view, answers what the definition does.
abbrev pub Answers : {X Y : Type 0} → (X → Y) → Result X ScriptFault → Result Y ScriptFault → Type 0
Answers view (Ok x) read = read ≡ Ok (view x)
Answers view (Err why) read = read ≡ Err why

-- The same, unless memory was wanting.
abbrev pub Stops : {Y : Type 0} → LineRefusal → Result Y ScriptFault → Type 0
Stops NoMemory read = Unit {0}
Stops (Fault why) read = read ≡ Err why

abbrev pub Reads : {X Y : Type 0} → (X → Y) → Result X LineRefusal → Result Y ScriptFault → Type 0
Reads view (Ok x) read = read ≡ Ok (view x)
Reads view (Err refusal) read = Stops refusal read
