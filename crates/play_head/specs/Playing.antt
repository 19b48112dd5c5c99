-- What the lines of a script's body do, as one caller of an editing core.
use Rattle.std.specs.Prelude.{◌≡◌, ◌⊎◌, ◌<◌, ◌≤◌, ℕ, Bool, true, false, IsTrue, List, [], ◌∷◌, ◌++◌, length, map, filter, Option, Some, Result, Ok, Err}
use Rattle.std.specs.List.{count_by, flat_map}
use Rattle.tl_limits.specs.Limits.{max_text_bytes}
use Rattle.tl_model.specs.Media.{Library}
use Rattle.tl_model.specs.declared.journal.Act.{Act}
use Rattle.tl_model.specs.declared.journal.Act.TheVariants as act
use Rattle.tl_model.specs.declared.fault.RenderFault.{RenderFault}
use Rattle.tl_model.specs.declared.segment.Segment.{Segment}
use Rattle.tl_ports.specs.Seen.{StoreSeen, SinkSeen}
use Rattle.render_core.specs.Calls.{CallOf}
use Rattle.render_core.specs.State.{State}
use Rattle.render_core.specs.Step.{Reply, Edited, Wanted, Cancelled, PastEnd, Claimed, Filed, Released, Closed, Picture, Fault, Pending, Render, Asked, EmptyTimeline, Taken, Silent}
use Rattle.edit_desk.specs.Desk.{DeskOf}
use Rattle.edit_desk.specs.Was.{Was}
use Rattle.edl_text.specs.declared.fault.EdlFault.{EdlFault}
use Rattle.edl_text.specs.declared.fault.EdlFault.TheVariants as faults
use Rattle.edl_text.specs.Fault.{edl_word}
use Rattle.script_lang.specs.declared.out_line.OutLine.{OutLine}
use Rattle.script_lang.specs.declared.out_line.OutLine.TheVariants as out
use Rattle.script_lang.specs.declared.script.BodyLine.{BodyLine}
use Rattle.script_lang.specs.declared.script.Call.{Call}
use Rattle.script_lang.specs.declared.script.Call.TheVariants as call
use Rattle.play_head.specs.Acts.{line_acts, ListsAs}
use Rattle.play_head.specs.Told.{line_of, frame_of}
use Rattle.play_head.specs.Work.{Turn, turns_calls, is_filed, AreTurns, EndsReleased, IsIdle}

-- Which objects tell what they hold.
pub record Tells : Type 0 where
  pub store : Bool
  pub screen : Bool
  pub out : Bool

-- What a script is played with: what its library means, the clips' names and starts, the frames a second, the store's files, and the rows
-- of a picture as they go to the screen.
pub record Setting (M F : Type 0) : Type 0 where
  pub library : M → Library F
  pub rows : F → List (List ℕ)
  pub clips : List (List ℕ × ℕ)
  pub rate : ℕ
  pub files : List ℕ → Option (List ℕ)
  pub tells : Tells

-- What a player has: what it knows of the core, and what is seen of the store, the screen and `out`.
pub record Player (M K : Type 0) : Type 0 where
  pub desk : DeskOf M K
  pub store : StoreSeen
  pub screen : SinkSeen
  pub out : SinkSeen

abbrev pub player : {M K : Type 0} → DeskOf M K → StoreSeen → (screen out : SinkSeen) → Player M K
player desk store screen out = record { desk = desk; store = store; screen = screen; out = out }

-- What a line did: its calls with those of its turns of work, in order, each with what it was told; and, where it names an edit list,
-- the list's segments or its first faulty line.
pub record Played (F : Type 0) : Type 0 where
  pub line : BodyLine
  pub list : Result (List Segment) EdlFault
  pub calls : List (CallOf F)

-- ---- what a line's calls are

-- A claim, its end, a take, its end and a stop are no calls of a script's lines.
abbrev pub is_kept : Act → Bool
is_kept act.Claim = false
is_kept (act.File job) = false
is_kept (act.Release job) = false
is_kept act.Take = false
is_kept (act.End export ending) = false
is_kept act.Stop = false
is_kept other = true

abbrev pub kept : {F : Type 0} → List (CallOf F) → List (CallOf F)
kept calls = filter (λ call. is_kept call.act) calls

abbrev pub acts_of : {F : Type 0} → List (CallOf F) → List Act
acts_of calls = map (λ call. call.act) calls

-- The edit list at a line was read: its text, and what that gives.
abbrev pub IsRead : {M F : Type 0} → Setting M F → (file : List ℕ) → Result (List Segment) EdlFault → Type 0
IsRead s file list = (text : List ℕ) × (length text ≤ max_text_bytes) × (IsTrue s.tells.store → s.files file ≡ Some text)
    × ListsAs s.clips s.rate text list

-- Only a line that names an edit list reads one.
abbrev pub ReadsList : {M F : Type 0} → Setting M F → Call → Result (List Segment) EdlFault → Type 0
ReadsList s (call.Edl file) list = IsRead s file list
ReadsList s other list = Unit {0}

-- A line of work marks its number of turns, and then makes at most so many.
abbrev pub mark_call : {F : Type 0} → (number turns : ℕ) → CallOf F
mark_call number turns = record { pass = number; act = act.Mark turns; told = Silent }

pub record HasTurns {F : Type 0} (number turns : ℕ) (calls : List (CallOf F)) (done : List (Turn F)) : Type 0 where
  pub is : calls ≡ mark_call number turns ∷ turns_calls number done
  pub are_turns : AreTurns done
  pub few : length done ≤ turns

-- No turn of work is left to be made, or another claim is.
abbrev pub LeavesTurns : (made turns : ℕ) → (left : List Act) → Type 0
LeavesTurns made turns left = (left ≡ []) ⊎ ((made < turns) × (left ≡ act.Claim ∷ []))

module _ {M K F : Type 0} where
  -- Why no more turns of work were made: there were as many as were asked for; the last gave its job back; or, with just these calls
  -- of the caller's, no job was queued or the session was stopped. `calls` are all that it had heard by then.
  abbrev pub HasReason : Setting M F → DeskOf M K → (calls : List (CallOf F)) → (turns : ℕ) → List (Turn F) → Type 0
  HasReason s d calls turns done =
      (length done ≡ turns) ⊎ (EndsReleased done
      ⊎ (Was s.library d calls IsIdle ⊎ Was s.library d calls (λ (state : State). IsTrue state.is_stopped)))

  -- The calls of a whole line, after those heard before it.
  abbrev pub HasCalls : Setting M F → DeskOf M K → (before : List (CallOf F)) → Played F → Call → Type 0
  HasCalls s d before p (call.Work turns) = (done : List (Turn F)) × HasTurns d.fixed.number turns p.calls done
      × HasReason s d (before ++ p.calls) turns done
  HasCalls s d before p other = acts_of p.calls ≡ line_acts s.clips other p.list

  -- A line was played to its end.
  pub record IsWhole (s : Setting M F) (d : DeskOf M K) (before : List (CallOf F)) (p : Played F) : Type 0 where
    pub calls : HasCalls s d before p p.line.call
    pub list : ReadsList s p.line.call p.list

  -- Lines that were played one after another.
  abbrev pub AreWhole : Setting M F → DeskOf M K → (before : List (CallOf F)) → List (Played F) → Type 0
  AreWhole s d before [] = Unit {0}
  AreWhole s d before (p ∷ more) = IsWhole s d before p × AreWhole s d (before ++ p.calls) more

  -- The calls of a line that was begun: a front of those of the whole line, of which these acts are left.
  abbrev pub HasSomeCalls : Setting M F → DeskOf M K → Played F → Call → (left : List Act) → Type 0
  HasSomeCalls s d p (call.Work turns) left = ((p.calls ≡ []) × (left ≡ act.Mark turns ∷ []))
      ⊎ ((done : List (Turn F)) × HasTurns d.fixed.number turns p.calls done × LeavesTurns (length done) turns left)
  HasSomeCalls s d p other left = line_acts s.clips other p.list ≡ acts_of p.calls ++ left

-- ---- what is put of it

-- The line of an edit list that is passed over. A call is passed over for nothing else.
abbrev pub list_line : Result (List Segment) EdlFault → OutLine
list_line (Err (faults.Line n why)) = out.EdlLine n (edl_word why)
list_line (Err faults.NoMemory) = out.NoMemory
list_line (Ok segments) = out.NoMemory

-- The line of a call of this line.
abbrev pub act_line : {F : Type 0} → Library F → Played F → Act → Reply F → OutLine
act_line lib p act.Skip told = list_line p.list
act_line lib p other told = line_of lib (frame_of other) (count_by (λ call. is_filed call.told) p.calls) told

abbrev pub lines_of : {F : Type 0} → Library F → Played F → List OutLine
lines_of lib p = map (λ call. act_line lib p call.act call.told) (kept p.calls)

abbrev pub picture_rows : {F : Type 0} → (F → List (List ℕ)) → Result F RenderFault → List (List ℕ)
picture_rows rows (Ok frame) = rows frame
picture_rows rows (Err fault) = []

-- The rows that a call puts to the screen: those of the picture that it was given, or, where a show was to render one, of that.
abbrev pub rows_given : {M F : Type 0} → Setting M F → Library F → Reply F → List (List ℕ)
rows_given s lib (Picture frame) = s.rows frame
rows_given s lib (Render recipe) = picture_rows s.rows (lib.render recipe)
rows_given s lib other = []

abbrev pub rows_of : {M F : Type 0} → Setting M F → Library F → Played F → List (List ℕ)
rows_of s lib p = flat_map (λ call. rows_given s lib call.told) p.calls
