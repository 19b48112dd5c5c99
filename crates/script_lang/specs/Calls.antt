-- The lines of a script's body: what each says by its words, or its first fault.
use Rattle.std.specs.Prelude.{◌≡◌, ℕ, List, [], ◌∷◌, if◌then◌else◌, codes, Result, Ok, Err}
use Rattle.std.specs.Str.{bytes_eq}
use Rattle.script_lang.specs.declared.calls.Piece.{Piece}
use Rattle.script_lang.specs.declared.script.Call.{Call}
use Rattle.script_lang.specs.declared.script.Call.TheVariants as call
use Rattle.script_lang.specs.declared.script.ScriptFault.{ScriptFault}
use Rattle.script_lang.specs.declared.script.ScriptFault.TheVariants as faults
use Rattle.script_lang.specs.Fields.{◌>>=◌, whole, name_of, one_number, pair_of, two_numbers, place_by, one_name}
use Rattle.script_lang.specs.Lists.{Words}

-- the first word of each line of a body
abbrev pub call_names : Words
call_names =
    codes "insert" ∷ codes "overwrite" ∷ codes "extract" ∷ codes "lift" ∷ codes "split" ∷ codes "trimin" ∷ codes "trimout" ∷ codes "slip"
    ∷ codes "dissolve" ∷ codes "relink" ∷ codes "edl" ∷ codes "undo" ∷ codes "redo" ∷ codes "want" ∷ codes "cancel" ∷ codes "play"
    ∷ codes "show" ∷ codes "roll" ∷ codes "work" ∷ codes "export" ∷ []

-- a place, a first frame, and a length of at least one frame
unfoldable pub span_of : (a b c : List ℕ) → Result (ℕ × ℕ × ℕ) ScriptFault
span_of a b c = do
  at ← whole 0 a
  x ← pair_of 1 b c
  Ok (at, x.0, x.1)

-- The same with a clip's name after the place.
unfoldable pub piece_of : Words → Result Piece ScriptFault
piece_of (a ∷ word ∷ b ∷ c ∷ []) = do
  x ← span_of a b c
  name ← name_of word
  Ok (record { at = x.0; name = name; first = x.1; len = x.2 })
piece_of other = Err faults.Count

-- A place, a clip's name, and its frame for that place.
unfoldable pub relink_of : Words → Result Call ScriptFault
relink_of (a ∷ word ∷ b ∷ []) = do
  x ← pair_of 0 a b
  name ← name_of word
  Ok (call.Relink x.0 name x.1)
relink_of other = Err faults.Count

-- Nothing follows the first word.
abbrev pub no_words : Words → Result (Unit {0}) ScriptFault
no_words [] = Ok tt
no_words (word ∷ more) = Err faults.Count

-- undo, redo, and work, whose number of turns is at least 1
unfoldable pub journal_call : (first : List ℕ) (rest : Words) → Result Call ScriptFault
journal_call first rest =
    if bytes_eq first (codes "undo") then (do
      bare ← no_words rest
      Ok call.Undo)
    else if bytes_eq first (codes "redo") then (do
      bare ← no_words rest
      Ok call.Redo)
    else if bytes_eq first (codes "work") then (do
      turns ← one_number 1 rest
      Ok (call.Work turns))
    else Err faults.Word

-- what is looked at
unfoldable pub view_call : (first : List ℕ) (rest : Words) → Result Call ScriptFault
view_call first rest =
    if bytes_eq first (codes "play") then (do
      n ← one_number 0 rest
      Ok (call.Play n))
    else if bytes_eq first (codes "show") then (do
      n ← one_number 0 rest
      Ok (call.Show n))
    else if bytes_eq first (codes "roll") then (do
      x ← two_numbers 1 rest
      Ok (call.Roll x.0 x.1))
    else if bytes_eq first (codes "want") then (do
      x ← two_numbers 1 rest
      Ok (call.Want x.0 x.1))
    else if bytes_eq first (codes "cancel") then (do
      x ← two_numbers 1 rest
      Ok (call.Cancel x.0 x.1))
    else journal_call first rest

-- edits at a place
unfoldable pub place_call : (first : List ℕ) (rest : Words) → Result Call ScriptFault
place_call first rest =
    if bytes_eq first (codes "split") then (do
      at ← one_number 0 rest
      Ok (call.Split at))
    else if bytes_eq first (codes "trimin") then (do
      x ← place_by rest
      Ok (call.TrimIn x.0 x.1))
    else if bytes_eq first (codes "trimout") then (do
      x ← place_by rest
      Ok (call.TrimOut x.0 x.1))
    else if bytes_eq first (codes "slip") then (do
      x ← place_by rest
      Ok (call.Slip x.0 x.1))
    else if bytes_eq first (codes "relink") then relink_of rest
    else view_call first rest

-- A line of a body by its first word, but for `edl` and `export`. A length is at least 1, but for that of a dissolve.
unfoldable pub call_of : (first : List ℕ) (rest : Words) → Result Call ScriptFault
call_of first rest =
    if bytes_eq first (codes "insert") then (do
      p ← piece_of rest
      Ok (call.Insert p.at p.name p.first p.len))
    else if bytes_eq first (codes "overwrite") then (do
      p ← piece_of rest
      Ok (call.Overwrite p.at p.name p.first p.len))
    else if bytes_eq first (codes "extract") then (do
      x ← two_numbers 1 rest
      Ok (call.Extract x.0 x.1))
    else if bytes_eq first (codes "lift") then (do
      x ← two_numbers 1 rest
      Ok (call.Lift x.0 x.1))
    else if bytes_eq first (codes "dissolve") then (do
      x ← two_numbers 0 rest
      Ok (call.Dissolve x.0 x.1))
    else place_call first rest
