-- A call of a script: the call of the desk, and its line.
use Rattle.std.specs.Prelude.{◌≡◌, ◌≤◌, Bool, [], ◌∷◌, Result, Ok, Err}
use Rattle.tl_model.specs.Media.{Library}
use Rattle.tl_model.specs.declared.journal.Act.{Act}
use Rattle.tl_ports.specs.Outside.{Rose}
use Rattle.tl_ports.specs.Seen.{SinkSeen}
use Rattle.render_core.specs.declared.reply.Full.{Full}
use Rattle.render_core.specs.declared.reply.Full.TheVariants as full
use Rattle.render_core.specs.Step.{Reply, Edited, Wanted, Cancelled, PastEnd, Asked, EmptyTimeline, need}
use Rattle.edit_desk.specs.Desk.{DeskOf, state_of}
use Rattle.script_lang.specs.declared.out_line.OutLine.{OutLine}
use Rattle.script_lang.specs.Line.{line_text}
use Rattle.play_head.specs.declared.halt.Halt.{Halt}
use Rattle.play_head.specs.declared.halt.Halt.TheVariants as halt
use Rattle.play_head.specs.Heard.{Refused}
use Rattle.play_head.specs.Putting.{GotAll, GotFront}
use Rattle.play_head.specs.Told.{line_of, frame_of}
use Rattle.play_head.specs.Working.{HearsAct}

-- A line was put whole; or some front of it, since `out` failed or memory ran out.
abbrev pub Speaks : Bool → (old new : SinkSeen) → OutLine → Result Unit Halt → Type 0
Speaks tells old new line (Ok done) = GotAll tells old new (line_text line ∷ []) × (new.faults ≡ old.faults)
Speaks tells old new line (Err halt.Out) = GotFront tells old new (line_text line ∷ []) × Rose old.faults new.faults
    × (old.faults ≤ new.faults)
Speaks tells old new line (Err halt.OutMemory) = GotFront tells old new (line_text line ∷ []) × (new.faults ≡ old.faults)
Speaks tells old new line (Err (halt.Store fault)) = ⊥
Speaks tells old new line (Err halt.Screen) = ⊥
Speaks tells old new line (Err halt.NoMemory) = ⊥
Speaks tells old new line (Err (halt.JournalFull len owing)) = ⊥

-- A reply that brings no picture and files nothing.
abbrev pub IsPlain : {F : Type 0} → Reply F → Type 0
IsPlain (Edited reply) = Unit {0}
IsPlain (Wanted count) = Unit {0}
IsPlain (Cancelled count) = Unit {0}
IsPlain (PastEnd len) = Unit {0}
IsPlain (Asked export) = Unit {0}
IsPlain EmptyTimeline = Unit {0}
IsPlain other = ⊥

-- What a player has: what it knows of the core, and what `out` got.
pub record Place (M K : Type 0) : Type 0 where
  pub desk : DeskOf M K
  pub out : SinkSeen

abbrev pub place : {M K : Type 0} → DeskOf M K → SinkSeen → Place M K
place desk out = record { desk = desk; out = out }

module _ {M K F : Type 0} where
  -- The caller hears the call, and its line is put.
  pub record Says (library : M → Library F) (tells : Bool) (old new : Place M K) (told : Act × Result Unit Halt) : Type 0 where
    pub answer : Reply F
    pub plain : IsPlain answer
    pub hears : HearsAct library old.desk new.desk told.0 answer
    pub says : Speaks tells old.out new.out (line_of (library old.desk.fixed.library) (frame_of told.0) 0 answer) told.1

  -- The call was refused, and nothing was put.
  abbrev pub RefusedBy : (M → Library F) → (old new : Place M K) → Act → Full → Type 0
  RefusedBy library old new what why =
      Refused library old.desk new.desk (need what (state_of library new.desk)) why × (new.out ≡ old.out)

  -- A call and its line, or why there is neither.
  abbrev pub SaysCall : (M → Library F) → Bool → (old new : Place M K) → Act × Result Unit Halt → Type 0
  SaysCall library tells old new (what, Ok done) = Says library tells old new (what, Ok done)
  SaysCall library tells old new (what, Err halt.Out) = Says library tells old new (what, Err halt.Out)
  SaysCall library tells old new (what, Err halt.OutMemory) = Says library tells old new (what, Err halt.OutMemory)
  SaysCall library tells old new (what, Err halt.NoMemory) = RefusedBy library old new what full.NoMemory
  SaysCall library tells old new (what, Err (halt.JournalFull len owing)) = RefusedBy library old new what (full.JournalFull len owing)
  SaysCall library tells old new (what, Err (halt.Store fault)) = ⊥
  SaysCall library tells old new (what, Err halt.Screen) = ⊥
