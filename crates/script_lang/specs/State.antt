-- What the reader of a script keeps.
use Rattle.std.specs.Prelude.{◌≡◌, ◌≤◌, ℕ, Bool, List, Option, Some, None, Result, Ok, Err, IfSome, [], true, is_none}
use Rattle.std.specs.Borrow.{Bor}
use Rattle.std.specs.declared.hash.FoldHasher.{FoldHasher}
use Rattle.std.specs.declared.hash.BuildHasherDefault.{BuildHasherDefault}
use Rattle.std.specs.HashSet.{HashSet, contains_by}
use Rattle.std.specs.Str.{bytes_eq}
use Rattle.tl_limits.specs.Limits.{IsRate}
use Rattle.script_lang.specs.declared.script.ScriptFault.{ScriptFault}
use Rattle.script_lang.specs.declared.script.ScriptRefusal.{ScriptRefusal}
use Rattle.script_lang.specs.declared.script.Script.{Script}
use Rattle.script_lang.specs.declared.script.ScriptRefusal.TheVariants as refusals
use Rattle.script_lang.specs.declared.fields.LineRefusal.{LineRefusal}
use Rattle.script_lang.specs.declared.script.ClipLine.{ClipLine}
use Rattle.script_lang.specs.declared.header.ClipWords.{ClipWords}
use Rattle.script_lang.specs.declared.state.State.{State}
use Rattle.script_lang.specs.Fields.{Stops}
use Rattle.script_lang.specs.Line.{is_one_of}
use Rattle.script_lang.specs.ScriptText.{Begun, names, read_files, exported}
use Rattle.script_lang.specs.ScriptSound.{IsBegun}

-- Whether a set has a word.
abbrev pub has_word : HashSet (Bor (List ℕ)) (BuildHasherDefault FoldHasher) → List ℕ → Bool
has_word set word = contains_by (λ key. bytes_eq word key.now) set

abbrev pub begun : State → Begun
begun s = record { rate = s.rate; clips = s.clips.items; format = s.format; body = s.body.items }

-- a clip of line n by its words
abbrev pub clip_line : (n : ℕ) → ClipWords → ClipLine
clip_line n clip = record { n = n; name = clip.name.now; file = clip.file.now; start = clip.start }

-- Its sets have the names and the files of what was read, which is sound. Before the format there is no call.
pub record Keeps (s : State) : Type 0 where
  pub rate : IfSome s.rate IsRate
  pub names : (word : List ℕ) → has_word s.names word ≡ is_one_of (names (begun s)) word
  pub read : (word : List ℕ) → has_word s.read word ≡ is_one_of (read_files (begun s)) word
  pub sound : IsBegun (begun s)
  pub bare : is_none s.format ≡ true → s.body.items ≡ []
  pub exported : (word : List ℕ) → has_word s.exported word ≡ is_one_of (exported (begun s)) word

-- A step of the code does what the definition does, unless memory was wanting.
pub record Took (s : State) (step : Result Begun ScriptFault) : Type 0 where
  pub same : step ≡ Ok (begun s)
  pub keeps : Keeps s

abbrev pub Takes : {X : Type 0} → Result X LineRefusal → State → Result Begun ScriptFault → Type 0
Takes (Ok x) s step = Took s step
Takes (Err refusal) s step = Stops refusal step

-- What a reader answers is what the definition gives, unless memory was wanting.
abbrev pub Fails : ScriptRefusal → Result Script ScriptRefusal → Type 0
Fails refusals.NoMemory read = Unit {0}
Fails (refusals.Fault n why) read = read ≡ Err (refusals.Fault n why)

abbrev pub Gives : Result Script ScriptRefusal → Result Script ScriptRefusal → Type 0
Gives (Ok script) read = read ≡ Ok script
Gives (Err refusal) read = Fails refusal read
