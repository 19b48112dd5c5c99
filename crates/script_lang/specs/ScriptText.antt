-- A script: what its lines say one after another.
use Rattle.std.specs.Prelude.{◌≡◌, ℕ, ◌+◌, Bool, true, false, ◌&&◌, ◌||◌, not, ◌==◌, nat_le, List, [], ◌∷◌, ◌++◌, length, map, flat_map, if◌then◌else◌, codes, Option, Some, None, is_some, is_none, Result, Ok, Err}
use Rattle.std.specs.Option.{ok_or}
use Rattle.std.specs.Str.{bytes_eq, is_utf8}
use Rattle.std.specs.Str.Lines.{lines}
use Rattle.tl_limits.specs.Limits.{max_clips, max_lines}
use Rattle.text_words.specs.declared.blanks.Blanks.TheVariants.{SpaceTabReturn}
use Rattle.text_words.specs.Blanks.{words}
use Rattle.script_lang.specs.declared.script.BodyLine.{BodyLine}
use Rattle.script_lang.specs.declared.script.Call.{Call}
use Rattle.script_lang.specs.declared.script.Call.TheVariants as call
use Rattle.script_lang.specs.declared.script.ClipLine.{ClipLine}
use Rattle.script_lang.specs.declared.script.FormatLine.{FormatLine}
use Rattle.script_lang.specs.declared.script.Script.{Script}
use Rattle.script_lang.specs.declared.script.ScriptFault.{ScriptFault}
use Rattle.script_lang.specs.declared.script.ScriptFault.TheVariants as faults
use Rattle.script_lang.specs.declared.script.ScriptRefusal.{ScriptRefusal}
use Rattle.script_lang.specs.declared.script.ScriptRefusal.TheVariants as refusals
use Rattle.script_lang.specs.Calls.{call_names, call_of}
use Rattle.script_lang.specs.Fields.{◌>>=◌, checked, one_name}
use Rattle.script_lang.specs.Header.{rate_of, clip_of, format_of}
use Rattle.script_lang.specs.Line.{is_one_of}
use Rattle.script_lang.specs.Lists.{Words}

-- What the lines before a line say.
pub record Begun : Type 0 where
  pub rate : Option ℕ
  pub clips : List ClipLine
  pub format : Option FormatLine
  pub body : List BodyLine

abbrev pub nothing : Begun
nothing = record { rate = None; clips = []; format = None; body = [] }

-- The files that a call reads and those that it writes.
abbrev pub list_files : Call → Words
list_files (call.Edl file) = file ∷ []
list_files other = []

abbrev pub export_files : Call → Words
export_files (call.Export file) = file ∷ []
export_files other = []

-- The names of clips, the files that clips and edit lists are read from, and those that are exported.
abbrev pub names : Begun → Words
names b = map (λ clip. clip.name) b.clips

abbrev pub read_files : Begun → Words
read_files b = map (λ clip. clip.file) b.clips ++ flat_map (λ line. list_files line.call) b.body

abbrev pub exported : Begun → Words
exported b = flat_map (λ line. export_files line.call) b.body

-- The rate is the first line.
unfoldable pub with_rate : Begun → (rest : Words) → Result Begun ScriptFault
with_rate b rest = do
  placed ← checked (is_none b.rate) faults.Order
  rate ← rate_of rest
  Ok (record b { rate = Some rate })

-- Clips and the format stand after the rate, and up to the format.
unfoldable pub header_rate : Begun → Result ℕ ScriptFault
header_rate b = do
  open_header ← checked (is_none b.format) faults.Order
  ok_or b.rate faults.Order

abbrev pub with_clip_line : Begun → ClipLine → Begun
with_clip_line b clip = record b { clips = b.clips ++ clip ∷ [] }

-- A clip has a name of its own, which isn't `black`.
unfoldable pub with_clip : Begun → (n : ℕ) → (rest : Words) → Result Begun ScriptFault
with_clip b n rest = do
  rate ← header_rate b
  clip ← clip_of n rate rest
  fresh ← checked (not (bytes_eq clip.name (codes "black") || is_one_of (names b) clip.name)) faults.SameName
  Ok (with_clip_line b clip)

unfoldable pub with_format : Begun → (rest : Words) → Result Begun ScriptFault
with_format b rest = do
  rate ← header_rate b
  format ← format_of (names b) rest
  Ok (record b { format = Some format })

abbrev pub with_body : Begun → (n : ℕ) → Call → Begun
with_body b n call = record b { body = b.body ++ record { n = n; call = call } ∷ [] }

-- An edit list isn't a file that was exported before it.
unfoldable pub with_edl : Begun → (n : ℕ) → (rest : Words) → Result Begun ScriptFault
with_edl b n rest = do
  file ← one_name rest
  fresh ← checked (not (is_one_of (exported b) file)) faults.SameExport
  Ok (with_body b n (call.Edl file))

-- A file is exported that no line before it names.
unfoldable pub with_export : Begun → (n : ℕ) → (rest : Words) → Result Begun ScriptFault
with_export b n rest = do
  file ← one_name rest
  fresh ← checked (not (is_one_of (read_files b) file || is_one_of (exported b) file)) faults.SameExport
  Ok (with_body b n (call.Export file))

unfoldable pub with_other : Begun → (n : ℕ) → (first : List ℕ) → (rest : Words) → Result Begun ScriptFault
with_other b n first rest = do
  call ← call_of first rest
  Ok (with_body b n call)

-- An edit list and an export name a file.
unfoldable pub with_known : Begun → (n : ℕ) → (first : List ℕ) → (rest : Words) → Result Begun ScriptFault
with_known b n first rest =
    if bytes_eq first (codes "edl") then with_edl b n rest
    else if bytes_eq first (codes "export") then with_export b n rest
    else with_other b n first rest

-- Calls stand after the format.
unfoldable pub with_call : Begun → (n : ℕ) → (first : List ℕ) → (rest : Words) → Result Begun ScriptFault
with_call b n first rest = do
  known ← checked (is_one_of call_names first) faults.Word
  placed ← checked (is_some b.format) faults.Order
  with_known b n first rest

-- A line of words goes by the first of them.
unfoldable pub with_words : Begun → (n : ℕ) → (first : List ℕ) → (rest : Words) → Result Begun ScriptFault
with_words b n first rest =
    if bytes_eq first (codes "rate") then with_rate b rest
    else if bytes_eq first (codes "clip") then with_clip b n rest
    else if bytes_eq first (codes "format") then with_format b rest
    else with_call b n first rest

-- There is room for a line unless it is a clip past the 1,000th.
abbrev pub has_room : Begun → (first : List ℕ) → Bool
has_room b first = not (bytes_eq first (codes "clip") && nat_le max_clips (length b.clips))

-- A blank line is passed over.
unfoldable pub with_split : Begun → (n : ℕ) → (line : List ℕ) → Words → Result Begun ScriptFault
with_split b n line [] = Ok b
with_split b n line (first ∷ rest) = do
  room ← checked (has_room b first) faults.Limit
  text ← checked (is_utf8 line) faults.Utf8
  with_words b n first rest

-- So is one that begins with `#`.
abbrev pub is_comment : List ℕ → Bool
is_comment [] = false
is_comment (byte ∷ rest) = byte == 35

-- What line n adds, or its first fault. None is past the 100,000th.
unfoldable pub with_line : Begun → (n : ℕ) → List ℕ → Result Begun ScriptFault
with_line b n line = do
  within ← checked (nat_le n max_lines) faults.Limit
  if is_comment line then Ok b else with_split b n line (words SpaceTabReturn line)

-- Where the lines end before the format, the line after the last is faulty.
unfoldable pub ended : Begun → (n : ℕ) → Option ℕ → Option FormatLine → Result Script ScriptRefusal
ended b n (Some rate) (Some format) = Ok (record { rate = rate; clips = b.clips; format = format; body = b.body })
ended b n rate format = Err (refusals.Fault n faults.Order)

abbrev pub at_line : {A : Type 0} → (n : ℕ) → Result A ScriptFault → Result A ScriptRefusal
at_line n (Ok x) = Ok x
at_line n (Err why) = Err (refusals.Fault n why)

-- The script of what stands before line n and the lines from it on, or the first faulty line.
unfoldable pub script_from : Begun → (n : ℕ) → List (List ℕ) → Result Script ScriptRefusal
script_from b n [] = ended b n b.rate b.format
script_from b n (line ∷ more) = do
  next ← at_line n (with_line b n line)
  script_from next (n + 1) more

-- The script that a text is, or its first faulty line.
abbrev pub script : List ℕ → Result Script ScriptRefusal
script text = script_from nothing 1 (lines text)
