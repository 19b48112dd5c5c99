-- Which scripts can be read: each text that is read gives one.
use Rattle.std.specs.Prelude.{◌≡◌, ◌≤◌, ◌<◌, ℕ, ◌+◌, Bool, true, false, List, [], ◌∷◌, length, map, flat_map, codes, All, Option, Some, None, Ok}
use Rattle.tl_limits.specs.Limits.{IsRate, IsFrameCount, IsSmall, max_clips, max_lines, timecode_frames}
use Rattle.tl_model.specs.Edit.{IsNear}
use Rattle.script_lang.specs.declared.script.BodyLine.{BodyLine}
use Rattle.script_lang.specs.declared.script.Call.{Call}
use Rattle.script_lang.specs.declared.script.Call.TheVariants as call
use Rattle.script_lang.specs.declared.script.ClipLine.{ClipLine}
use Rattle.script_lang.specs.declared.script.FormatLine.{FormatLine}
use Rattle.script_lang.specs.declared.script.FormatLine.TheVariants as format
use Rattle.script_lang.specs.declared.script.Script.{Script}
use Rattle.script_lang.specs.Header.{is_covered}
use Rattle.script_lang.specs.Line.{is_one_of}
use Rattle.script_lang.specs.Lists.{Words}
use Rattle.script_lang.specs.ScriptText.{Begun, list_files, export_files, names, read_files, exported, script}

-- A length is at least one frame, but for that of a dissolve, and no number passes 1,000,000.
abbrev pub IsCall : Call → Type 0
IsCall (call.Insert at name first len) = IsSmall at × IsSmall first × IsFrameCount len
IsCall (call.Overwrite at name first len) = IsSmall at × IsSmall first × IsFrameCount len
IsCall (call.Extract at len) = IsSmall at × IsFrameCount len
IsCall (call.Lift at len) = IsSmall at × IsFrameCount len
IsCall (call.Split at) = IsSmall at
IsCall (call.TrimIn at by) = IsSmall at × IsNear by
IsCall (call.TrimOut at by) = IsSmall at × IsNear by
IsCall (call.Slip at by) = IsSmall at × IsNear by
IsCall (call.Dissolve at len) = IsSmall at × IsSmall len
IsCall (call.Relink at name first) = IsSmall at × IsSmall first
IsCall (call.Edl file) = Unit {0}
IsCall call.Undo = Unit {0}
IsCall call.Redo = Unit {0}
IsCall (call.Want first len) = IsSmall first × IsFrameCount len
IsCall (call.Cancel first len) = IsSmall first × IsFrameCount len
IsCall (call.Play n) = IsSmall n
IsCall (call.Show n) = IsSmall n
IsCall (call.Roll first len) = IsSmall first × IsFrameCount len
IsCall (call.Work turns) = IsFrameCount turns
IsCall (call.Export file) = Unit {0}

abbrev pub AreCalls : List BodyLine → Type 0
AreCalls [] = Unit {0}
AreCalls (line ∷ more) = IsCall line.call × AreCalls more

-- the frame number of a timecode
abbrev pub AreClips : List ClipLine → Type 0
AreClips [] = Unit {0}
AreClips (clip ∷ more) = (clip.start < timecode_frames) × AreClips more

-- A format of its own covers its planes, and another is that of a clip.
abbrev pub IsFormat : (names : Words) → FormatLine → Type 0
IsFormat names (format.As name) = is_one_of names name ≡ true
IsFormat names (format.Own width height kind coding columns rows) = is_covered columns rows width height kind ≡ true

abbrev pub IsFormatOrNone : (names : Words) → Option FormatLine → Type 0
IsFormatOrNone names None = Unit {0}
IsFormatOrNone names (Some format) = IsFormat names format

-- No word stands twice.
abbrev pub AreDistinct : Words → Type 0
AreDistinct [] = Unit {0}
AreDistinct (word ∷ more) = (is_one_of more word ≡ false) × AreDistinct more

-- No word of the first list is in the second.
abbrev pub AreApart : Words → Words → Type 0
AreApart [] others = Unit {0}
AreApart (word ∷ more) others = (is_one_of others word ≡ false) × AreApart more others

-- The names of clips differ, and none is `black`. Exported files differ from one another, from those of clips, and from edit lists.
pub record IsBegun (b : Begun) : Type 0 where
  pub clip_count : length b.clips ≤ max_clips
  pub clips : AreClips b.clips
  pub distinct : AreDistinct (names b)
  pub black : is_one_of (names b) (codes "black") ≡ false
  pub format : IsFormatOrNone (names b) b.format
  pub calls : AreCalls b.body
  pub exports : AreDistinct (exported b)
  pub apart : AreApart (exported b) (read_files b)

-- all that a script says
abbrev pub whole_script : Script → Begun
whole_script s = record { rate = Some s.rate; clips = s.clips; format = Some s.format; body = s.body }

-- A script that can be read, however its lines are numbered.
pub record IsScript (s : Script) : Type 0 where
  pub rate : IsRate s.rate
  pub said : IsBegun (whole_script s)
