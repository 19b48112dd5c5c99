-- Which scripts are written so that they are read back.
use Rattle.std.specs.Prelude.{◌≡◌, ℕ, ◌+◌, ◌*◌, ◌<◌, ◌≤◌, IsTrue, List, [], ◌∷◌, length, Ok}
use Rattle.std.specs.List.{list_all}
use Rattle.tl_limits.specs.Limits.{max_lines}
use Rattle.script_lang.specs.declared.script.BodyLine.{BodyLine}
use Rattle.script_lang.specs.declared.script.Call.{Call}
use Rattle.script_lang.specs.declared.script.Call.TheVariants as call
use Rattle.script_lang.specs.declared.script.ClipLine.{ClipLine}
use Rattle.script_lang.specs.declared.script.Script.{Script}
use Rattle.script_lang.specs.Line.{is_name}
use Rattle.script_lang.specs.Lists.{Words}
use Rattle.script_lang.specs.ScriptText.{script}
use Rattle.script_lang.specs.ScriptSound.{IsScript}
use Rattle.script_lang.specs.Writing.{script_text}

-- the names and the files of a call
abbrev pub call_texts : Call → Words
call_texts (call.Insert at name first len) = name ∷ []
call_texts (call.Overwrite at name first len) = name ∷ []
call_texts (call.Relink at name first) = name ∷ []
call_texts (call.Edl file) = file ∷ []
call_texts (call.Export file) = file ∷ []
call_texts other = []

abbrev pub AreWritableCalls : List BodyLine → Type 0
AreWritableCalls [] = Unit {0}
AreWritableCalls (line ∷ more) = IsTrue (list_all is_name (call_texts line.call)) × AreWritableCalls more

-- A clip's name and file are single words, and it starts within 24 hours.
pub record IsWritableClip (rate : ℕ) (clip : ClipLine) : Type 0 where
  pub name : IsTrue (is_name clip.name)
  pub file : IsTrue (is_name clip.file)
  pub start : clip.start < 86400 * rate

abbrev pub AreWritableClips : (rate : ℕ) → List ClipLine → Type 0
AreWritableClips rate [] = Unit {0}
AreWritableClips rate (clip ∷ more) = IsWritableClip rate clip × AreWritableClips rate more

-- A script that can be read, of single words, in no more lines than a script may have.
pub record IsWritable (s : Script) : Type 0 where
  pub sound : IsScript s
  pub clips : AreWritableClips s.rate s.clips
  pub calls : AreWritableCalls s.body
  pub lines : 2 + length s.clips + length s.body ≤ max_lines

-- Clips and calls on the lines from n on.
unfoldable pub clips_from : (n : ℕ) → List ClipLine → List ClipLine
clips_from n [] = []
clips_from n (clip ∷ more) = record clip { n = n } ∷ clips_from (n + 1) more

unfoldable pub calls_from : (n : ℕ) → List BodyLine → List BodyLine
calls_from n [] = []
calls_from n (line ∷ more) = record line { n = n } ∷ calls_from (n + 1) more

-- A script by the lines on which it is written: the rate on line 1, then the clips, the format and the calls.
abbrev pub renumbered : Script → Script
renumbered s = record s { clips = clips_from 2 s.clips; body = calls_from (3 + length s.clips) s.body }

-- What is written is read back, by its own line numbers.
abbrev pub ScriptsReadBack : Type 0
ScriptsReadBack = (s : Script) → IsWritable s → script (script_text s) ≡ Ok (renumbered s)
