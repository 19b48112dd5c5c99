-- What calls of a script do that have a line each: what was heard, the lines, and the rows of their pictures.
use Rattle.std.specs.Prelude.{◌≡◌, ◌⊎◌, ◌≤◌, ℕ, Bool, List, [], ◌∷◌, ◌++◌, map, Result, Ok, Err}
use Rattle.std.specs.List.{flat_map}
use Rattle.pic_planes.specs.Picture.{Image}
use Rattle.tl_model.specs.Media.{Library}
use Rattle.tl_model.specs.declared.journal.Act.{Act}
use Rattle.tl_model.specs.declared.journal.Act.TheVariants as act
use Rattle.tl_model.specs.declared.recipe.Recipe.{Recipe}
use Rattle.tl_ports.specs.Outside.{Rose}
use Rattle.tl_ports.specs.Seen.{SinkSeen}
use Rattle.render_core.specs.Calls.{CallOf}
use Rattle.render_core.specs.Step.{Reply, need, Edited, Wanted, Cancelled, PastEnd, Claimed, Filed, Released, Closed, Picture, Fault, Pending, Render, Asked, EmptyTimeline, Taken, Silent}
use Rattle.render_core.specs.declared.reply.Full.TheVariants as full
use Rattle.edit_desk.specs.Desk.{DeskOf, Hears, IsFull, state_of}
use Rattle.script_lang.specs.declared.out_line.OutLine.{OutLine}
use Rattle.play_head.specs.declared.halt.Halt.{Halt}
use Rattle.play_head.specs.declared.halt.Halt.TheVariants as halt
use Rattle.play_head.specs.Playing.{acts_of, picture_rows}
use Rattle.play_head.specs.PlayingLine.{Output, no_output, texts}
use Rattle.play_head.specs.Putting.{GotAll, GotFront}
use Rattle.play_head.specs.Told.{line_of, frame_of}

-- The rows of a picture, plane after plane.
abbrev pub image_rows : Image → List (List ℕ)
image_rows image = flat_map (λ rows. rows) image.planes

-- How calls are given out: what the library means, the rows of a picture, and whether the screen and `out` tell what they got.
pub record Manner (M F : Type 0) : Type 0 where
  pub library : M → Library F
  pub rows : F → List (List ℕ)
  pub screen : Bool
  pub out : Bool

-- What such calls change: what the caller knows of the core, and what the screen and `out` got.
pub record Scene (M K : Type 0) : Type 0 where
  pub desk : DeskOf M K
  pub screen : SinkSeen
  pub out : SinkSeen

-- These acts have a line of their own.
abbrev pub IsSaid : Act → Type 0
IsSaid (act.Edit edit) = Unit {0}
IsSaid act.Undo = Unit {0}
IsSaid act.Redo = Unit {0}
IsSaid (act.Want first len) = Unit {0}
IsSaid (act.Cancel first len) = Unit {0}
IsSaid (act.Play n) = Unit {0}
IsSaid (act.Show n) = Unit {0}
IsSaid (act.Ask name) = Unit {0}
IsSaid other = ⊥

-- These are told to such an act. None is that a result was filed.
abbrev pub IsAnswer : {F : Type 0} → Reply F → Type 0
IsAnswer (Edited reply) = Unit {0}
IsAnswer (Wanted count) = Unit {0}
IsAnswer (Cancelled count) = Unit {0}
IsAnswer (PastEnd len) = Unit {0}
IsAnswer (Picture frame) = Unit {0}
IsAnswer (Fault why) = Unit {0}
IsAnswer (Pending recipe) = Unit {0}
IsAnswer (Render recipe) = Unit {0}
IsAnswer (Asked export) = Unit {0}
IsAnswer EmptyTimeline = Unit {0}
IsAnswer other = ⊥

-- A call that has a line of its own.
pub record IsSpoken {F : Type 0} (call : CallOf F) : Type 0 where
  pub said : IsSaid call.act
  pub told : IsAnswer call.told

abbrev pub AllSpoken : {F : Type 0} → List (CallOf F) → Type 0
AllSpoken [] = Unit {0}
AllSpoken (call ∷ calls) = IsSpoken call × AllSpoken calls

-- The rows of the picture that a call was given, or, where a show was to render one, of that.
abbrev pub told_rows : {F : Type 0} → (F → List (List ℕ)) → Library F → Reply F → List (List ℕ)
told_rows rows lib (Picture frame) = rows frame
told_rows rows lib (Render recipe) = picture_rows rows (lib.render recipe)
told_rows rows lib other = []

-- The line of each call, and the rows that it puts.
abbrev pub call_line : {F : Type 0} → Library F → CallOf F → OutLine
call_line lib call = line_of lib (frame_of call.act) 0 call.told

abbrev pub calls_output : {M F : Type 0} → Manner M F → Library F → List (CallOf F) → Output
calls_output m lib calls = record {
  lines = map (call_line lib) calls;
  rows = flat_map (λ call. told_rows m.rows lib call.told) calls;
}

-- A single show of a frame that was to be rendered, for which memory ran out.
abbrev pub IsLostShow : {F : Type 0} → List (CallOf F) → Type 0
IsLostShow calls = (number n : ℕ) × (recipe : Recipe)
    × (calls ≡ record { pass = number; act = act.Show n; told = Render recipe } ∷ [])

module _ {M K F : Type 0} where
  -- Both sinks got all of it, or each some front.
  abbrev pub GivesAll : Manner M F → (old new : Scene M K) → Output → Type 0
  GivesAll m old new output = GotAll m.out old.out new.out (texts output.lines) × GotAll m.screen old.screen new.screen output.rows

  abbrev pub GivesSome : Manner M F → (old new : Scene M K) → Output → Type 0
  GivesSome m old new output = GotFront m.out old.out new.out (texts output.lines)
      × GotFront m.screen old.screen new.screen output.rows

  -- All lines were put.
  abbrev pub GivesLines : Manner M F → (old new : Scene M K) → Output → Type 0
  GivesLines m old new output = GotAll m.out old.out new.out (texts output.lines)

  -- The entries that the next act needs don't fit.
  abbrev pub HasNoRoom : Manner M F → Scene M K → (left : List Act) → (len owing : ℕ) → Type 0
  HasNoRoom m new [] len owing = ⊥
  HasNoRoom m new (next ∷ left) len owing =
      IsFull m.library new.desk (need next (state_of m.library new.desk)) (full.JournalFull len owing)

  -- What calls and their lines ended with, where these acts were left.
  abbrev pub StopsActs : Manner M F → (old new : Scene M K) → List (CallOf F) × List Act → Halt → Type 0
  StopsActs m old new (calls, left) (halt.Store fault) = ⊥
  StopsActs m old new (calls, left) halt.Screen = GivesSome m old new (calls_output m (m.library old.desk.fixed.library) calls)
      × GivesLines m old new (calls_output m (m.library old.desk.fixed.library) calls) × Rose old.screen.faults new.screen.faults
  StopsActs m old new (calls, left) halt.Out = GivesSome m old new (calls_output m (m.library old.desk.fixed.library) calls)
      × Rose old.out.faults new.out.faults
  StopsActs m old new (calls, left) halt.OutMemory = GivesSome m old new (calls_output m (m.library old.desk.fixed.library) calls)
  StopsActs m old new (calls, left) halt.NoMemory =
      (GivesSome m old new (calls_output m (m.library old.desk.fixed.library) calls)
      × GivesLines m old new (calls_output m (m.library old.desk.fixed.library) calls))
      ⊎ (IsLostShow calls × GivesAll m old new no_output)
  StopsActs m old new (calls, left) (halt.JournalFull len owing) =
      GivesAll m old new (calls_output m (m.library old.desk.fixed.library) calls) × HasNoRoom m new left len owing

  abbrev pub EndsActs : Manner M F → (old new : Scene M K) → List (CallOf F) × List Act → Result Unit Halt → Type 0
  EndsActs m old new (calls, left) (Ok done) = (left ≡ [])
      × GivesAll m old new (calls_output m (m.library old.desk.fixed.library) calls)
  EndsActs m old new played (Err why) = StopsActs m old new played why

  -- These acts were made one after another, each with its line and the rows of its picture; or only a front of them, and why.
  pub record PlaysActs (m : Manner M F) (old new : Scene M K) (acts : List Act) (result : Result Unit Halt) : Type 0 where
    pub calls : List (CallOf F)
    pub left : List Act
    pub is : acts ≡ acts_of calls ++ left
    pub spoken : AllSpoken calls
    pub hears : Hears m.library old.desk new.desk calls
    pub ends : EndsActs m old new (calls, left) result
    pub screen : old.screen.faults ≤ new.screen.faults
    pub out : old.out.faults ≤ new.out.faults
