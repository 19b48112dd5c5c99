-- What each line of a script's body asks an editing core for.
use Rattle.std.specs.Prelude.{◌≡◌, ℕ, List, [], ◌∷◌, length, codes, Option, Some, None, Result, Ok, Err, if◌then◌else◌}
use Rattle.std.specs.Str.{bytes_eq}
use Rattle.tl_model.specs.declared.edit.Edit.{Edit}
use Rattle.tl_model.specs.declared.edit.Edit.TheVariants as edit
use Rattle.tl_model.specs.declared.journal.Act.{Act}
use Rattle.tl_model.specs.declared.journal.Act.TheVariants as act
use Rattle.tl_model.specs.declared.recipe.Side.{Side}
use Rattle.tl_model.specs.declared.recipe.Side.TheVariants as side
use Rattle.tl_model.specs.declared.segment.Segment.{Segment}
use Rattle.edl_text.specs.declared.event.Edl.{Edl}
use Rattle.edl_text.specs.declared.fault.EdlFault.{EdlFault}
use Rattle.edl_text.specs.List.{edl}
use Rattle.edl_build.specs.Build.{IsBuilt}
use Rattle.edl_build.specs.Clip.{clip_from}
use Rattle.script_lang.specs.declared.script.Call.{Call}
use Rattle.script_lang.specs.declared.script.Call.TheVariants as call
use Rattle.play_head.specs.Roll.{roll_calls}

-- the number of the first clip of a name, or the number of clips where none has it
abbrev pub number_or : ℕ → Option (ℕ × ℕ) → ℕ
number_or count None = count
number_or count (Some clip) = clip.0

abbrev pub clip_number : (clips : List (List ℕ × ℕ)) → (name : List ℕ) → ℕ
clip_number clips name = number_or (length clips) (clip_from 0 clips name)

-- the frames of a clip from one on, or black
abbrev pub side_of : (clips : List (List ℕ × ℕ)) → (name : List ℕ) → (first : ℕ) → Side
side_of clips name first = if bytes_eq name (codes "black") then side.Black else side.Clip (clip_number clips name) first

-- The edit that a line asks for, if its call is an edit of a place.
abbrev pub place_edit : Call → Option Edit
place_edit (call.Extract at len) = Some (edit.Extract at len)
place_edit (call.Lift at len) = Some (edit.Lift at len)
place_edit (call.Split at) = Some (edit.Split at)
place_edit (call.TrimIn at by) = Some (edit.TrimIn at by)
place_edit (call.TrimOut at by) = Some (edit.TrimOut at by)
place_edit (call.Slip at by) = Some (edit.Slip at by)
place_edit (call.Dissolve at len) = Some (edit.Dissolve at len)
place_edit other = None

abbrev pub edit_for : (clips : List (List ℕ × ℕ)) → Call → Option Edit
edit_for clips (call.Insert at name first len) = Some (edit.Insert at (side_of clips name first) len)
edit_for clips (call.Overwrite at name first len) = Some (edit.Overwrite at (side_of clips name first) len)
edit_for clips (call.Relink at name first) = Some (edit.Relink at (clip_number clips name) first)
edit_for clips other = place_edit other

-- An edit list replaces the timeline; a faulty one is passed over.
abbrev pub list_act : Result (List Segment) EdlFault → Act
list_act (Ok segments) = act.Edit (edit.Replace segments)
list_act (Err fault) = act.Skip

-- The calls of a line, turns of work aside.
abbrev pub line_acts : (clips : List (List ℕ × ℕ)) → Call → Result (List Segment) EdlFault → List Act
line_acts clips (call.Insert at name first len) list = act.Edit (edit.Insert at (side_of clips name first) len) ∷ []
line_acts clips (call.Overwrite at name first len) list = act.Edit (edit.Overwrite at (side_of clips name first) len) ∷ []
line_acts clips (call.Extract at len) list = act.Edit (edit.Extract at len) ∷ []
line_acts clips (call.Lift at len) list = act.Edit (edit.Lift at len) ∷ []
line_acts clips (call.Split at) list = act.Edit (edit.Split at) ∷ []
line_acts clips (call.TrimIn at by) list = act.Edit (edit.TrimIn at by) ∷ []
line_acts clips (call.TrimOut at by) list = act.Edit (edit.TrimOut at by) ∷ []
line_acts clips (call.Slip at by) list = act.Edit (edit.Slip at by) ∷ []
line_acts clips (call.Dissolve at len) list = act.Edit (edit.Dissolve at len) ∷ []
line_acts clips (call.Relink at name first) list = act.Edit (edit.Relink at (clip_number clips name) first) ∷ []
line_acts clips (call.Edl file) list = list_act list ∷ []
line_acts clips call.Undo list = act.Undo ∷ []
line_acts clips call.Redo list = act.Redo ∷ []
line_acts clips (call.Want first len) list = act.Want first len ∷ []
line_acts clips (call.Cancel first len) list = act.Cancel first len ∷ []
line_acts clips (call.Play n) list = act.Play n ∷ []
line_acts clips (call.Show n) list = act.Show n ∷ []
line_acts clips (call.Roll first len) list = roll_calls first len
line_acts clips (call.Work turns) list = act.Mark turns ∷ []
line_acts clips (call.Export file) list = act.Ask file ∷ []

-- What an edit list that was read gives over the clips, or the fault of its reading.
abbrev pub BuildsTo : (clips : List (List ℕ × ℕ)) → Result Edl EdlFault → Result (List Segment) EdlFault → Type 0
BuildsTo clips (Err fault) answer = answer ≡ Err fault
BuildsTo clips (Ok list) answer = IsBuilt clips list.events answer

-- What an edit list's text gives over the clips: its segments, or its first faulty line.
abbrev pub ListsAs : (clips : List (List ℕ × ℕ)) → (rate : ℕ) → (text : List ℕ) → Result (List Segment) EdlFault → Type 0
ListsAs clips rate text answer = BuildsTo clips (edl rate text) answer
