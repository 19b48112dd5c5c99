-- How a script is written: each line is its words parted by single blanks, and a line feed.
use Rattle.std.specs.Prelude.{ℕ, ◌+◌, ℤ, pos, negsuc, List, [], ◌∷◌, ◌++◌, map, flat_map, codes}
use Rattle.text_words.specs.Number.{number_text}
use Rattle.text_words.specs.Timecode.{timecode_text}
use Rattle.script_lang.specs.declared.script.BodyLine.{BodyLine}
use Rattle.script_lang.specs.declared.script.Call.{Call}
use Rattle.script_lang.specs.declared.script.Call.TheVariants as call
use Rattle.script_lang.specs.declared.script.ChromaWord.{ChromaWord}
use Rattle.script_lang.specs.declared.script.ChromaWord.TheVariants as chroma
use Rattle.script_lang.specs.declared.script.ClipLine.{ClipLine}
use Rattle.script_lang.specs.declared.script.CoderWord.{CoderWord}
use Rattle.script_lang.specs.declared.script.CoderWord.TheVariants as coder
use Rattle.script_lang.specs.declared.script.FormatLine.{FormatLine}
use Rattle.script_lang.specs.declared.script.FormatLine.TheVariants as format
use Rattle.script_lang.specs.declared.script.Script.{Script}
use Rattle.script_lang.specs.Lists.{Words}
use Rattle.script_lang.specs.Line.{joined}

abbrev pub digits : ℕ → List ℕ
digits n = number_text 1 n

abbrev pub signed_digits : ℤ → List ℕ
signed_digits (pos n) = digits n
signed_digits (negsuc n) = 45 ∷ digits (n + 1)

unfoldable pub call_words : Call → Words
call_words (call.Insert at name first len) = codes "insert" ∷ digits at ∷ name ∷ digits first ∷ digits len ∷ []
call_words (call.Overwrite at name first len) = codes "overwrite" ∷ digits at ∷ name ∷ digits first ∷ digits len ∷ []
call_words (call.Extract at len) = codes "extract" ∷ digits at ∷ digits len ∷ []
call_words (call.Lift at len) = codes "lift" ∷ digits at ∷ digits len ∷ []
call_words (call.Split at) = codes "split" ∷ digits at ∷ []
call_words (call.TrimIn at by) = codes "trimin" ∷ digits at ∷ signed_digits by ∷ []
call_words (call.TrimOut at by) = codes "trimout" ∷ digits at ∷ signed_digits by ∷ []
call_words (call.Slip at by) = codes "slip" ∷ digits at ∷ signed_digits by ∷ []
call_words (call.Dissolve at len) = codes "dissolve" ∷ digits at ∷ digits len ∷ []
call_words (call.Relink at name first) = codes "relink" ∷ digits at ∷ name ∷ digits first ∷ []
call_words (call.Edl file) = codes "edl" ∷ file ∷ []
call_words call.Undo = codes "undo" ∷ []
call_words call.Redo = codes "redo" ∷ []
call_words (call.Want first len) = codes "want" ∷ digits first ∷ digits len ∷ []
call_words (call.Cancel first len) = codes "cancel" ∷ digits first ∷ digits len ∷ []
call_words (call.Play n) = codes "play" ∷ digits n ∷ []
call_words (call.Show n) = codes "show" ∷ digits n ∷ []
call_words (call.Roll first len) = codes "roll" ∷ digits first ∷ digits len ∷ []
call_words (call.Work turns) = codes "work" ∷ digits turns ∷ []
call_words (call.Export file) = codes "export" ∷ file ∷ []

abbrev pub chroma_word : ChromaWord → List ℕ
chroma_word chroma.Grey = codes "grey"
chroma_word chroma.C444 = codes "444"
chroma_word chroma.C440 = codes "440"
chroma_word chroma.C422 = codes "422"
chroma_word chroma.C420 = codes "420"
chroma_word chroma.C411 = codes "411"
chroma_word chroma.C410 = codes "410"

abbrev pub coder_word : CoderWord → List ℕ
coder_word coder.Range = codes "range"
coder_word coder.Rice = codes "rice"

unfoldable pub format_words : FormatLine → Words
format_words (format.As name) = codes "format" ∷ codes "as" ∷ name ∷ []
format_words (format.Own width height chroma coder columns rows) =
    codes "format" ∷ digits width ∷ digits height ∷ chroma_word chroma ∷ coder_word coder ∷ digits columns ∷ digits rows ∷ []

-- A clip's line always has the timecode of its first frame.
abbrev pub clip_words : (rate : ℕ) → ClipLine → Words
clip_words rate c = codes "clip" ∷ c.name ∷ c.file ∷ timecode_text rate c.start ∷ []

unfoldable pub ended_line : Words → List ℕ
ended_line words = joined words ++ 10 ∷ []

-- The rate, the clips, the format and the calls.
abbrev pub script_text : Script → List ℕ
script_text s =
    ended_line (codes "rate" ∷ digits s.rate ∷ [])
    ++ (flat_map (λ clip. ended_line (clip_words s.rate clip)) s.clips
    ++ (ended_line (format_words s.format) ++ flat_map (λ line. ended_line (call_words line.call)) s.body))
