-- What a line put, whole or up to where it stopped.
use Rattle.std.specs.Prelude.{◌≡◌, ◌⊎◌, ◌≤◌, ℕ, List, [], ◌∷◌, ◌++◌, map, Result, Ok, Err}
use Rattle.tl_limits.specs.Limits.{max_text_bytes}
use Rattle.tl_model.specs.Media.{Library}
use Rattle.tl_model.specs.declared.journal.Act.{Act}
use Rattle.tl_model.specs.declared.journal.Act.TheVariants as act
use Rattle.tl_model.specs.declared.recipe.Recipe.{Recipe}
use Rattle.tl_ports.specs.declared.fault.FetchFault.{FetchFault}
use Rattle.tl_ports.specs.declared.fault.FetchFault.TheVariants as fetching
use Rattle.tl_ports.specs.Outside.{Rose, Wanted, FetchHasCause}
use Rattle.tl_ports.specs.Seen.{StoreSeen, SinkSeen}
use Rattle.render_core.specs.Calls.{CallOf}
use Rattle.render_core.specs.State.{State}
use Rattle.render_core.specs.Step.{need, Render}
use Rattle.render_core.specs.declared.reply.Full.TheVariants as full
use Rattle.edit_desk.specs.Desk.{DeskOf, Hears, IsFull, state_of, heard}
use Rattle.script_lang.specs.declared.out_line.OutLine.{OutLine}
use Rattle.script_lang.specs.declared.script.BodyLine.{BodyLine}
use Rattle.script_lang.specs.declared.script.Call.{Call}
use Rattle.script_lang.specs.declared.script.Call.TheVariants as call
use Rattle.script_lang.specs.Line.{line_text}
use Rattle.play_head.specs.declared.halt.Halt.{Halt}
use Rattle.play_head.specs.declared.halt.Halt.TheVariants as halt
use Rattle.play_head.specs.Playing.{Setting, Player, Played, IsWhole, HasSomeCalls, ReadsList, lines_of, rows_of}
use Rattle.play_head.specs.Putting.{GotAll, GotFront}

abbrev pub texts : List OutLine → List (List ℕ)
texts lines = map line_text lines

-- What goes to `out` and to the screen.
pub record Output : Type 0 where
  pub lines : List OutLine
  pub rows : List (List ℕ)

abbrev pub output_of : {M F : Type 0} → Setting M F → Library F → Played F → Output
output_of s lib p = record { lines = lines_of lib p; rows = rows_of s lib p }

abbrev pub no_output : Output
no_output = record { lines = []; rows = [] }

-- The need of the call that comes next. Where none does, nothing is needed.
abbrev pub next_need : List Act → State → ℕ
next_need [] s = 0
next_need (next ∷ left) s = need next s

-- The file that a line reads, and the most bytes that it may have.
abbrev pub file_wanted : Call → Wanted
file_wanted (call.Edl file) = record { name = file; limit = max_text_bytes }
file_wanted other = record { name = []; limit = 0 }

-- A show of a frame that was to be rendered, for which memory ran out: its entry is there, and nothing was put.
abbrev pub IsUnrendered : {F : Type 0} → Played F → Type 0
IsUnrendered p = (number n : ℕ) × (recipe : Recipe)
    × (p.calls ≡ record { pass = number; act = act.Show n; told = Render recipe } ∷ [])

module _ {M K : Type 0} where
  -- What stays, and what never falls.
  pub record Lasts (old new : Player M K) : Type 0 where
    pub files : new.store.file ≡ old.store.file
    pub store : old.store.faults ≤ new.store.faults
    pub screen : old.screen.faults ≤ new.screen.faults
    pub out : old.out.faults ≤ new.out.faults

module _ {M K F : Type 0} where
  -- Both sinks got all of it.
  abbrev pub PutsAll : Setting M F → (old new : Player M K) → Output → Type 0
  PutsAll s old new output = GotAll s.tells.out old.out new.out (texts output.lines)
      × GotAll s.tells.screen old.screen new.screen output.rows

  -- Each got some front of it.
  abbrev pub PutsSome : Setting M F → (old new : Player M K) → Output → Type 0
  PutsSome s old new output = GotFront s.tells.out old.out new.out (texts output.lines)
      × GotFront s.tells.screen old.screen new.screen output.rows

  -- Why a line stopped, with these acts left, and what it put by then. Only a line of an edit list stops for the store, before its call.
  abbrev pub StopsLine : Setting M F → (old new : Player M K) → Played F × List Act → Halt → Type 0
  StopsLine s old new (p, left) (halt.Store fault) = PutsAll s old new (output_of s (s.library old.desk.fixed.library) p)
      × FetchHasCause s.tells.store old.store new.store (file_wanted p.line.call) (Err fault) × (fault ≡ fetching.NoMemory → ⊥)
      × ((file : List ℕ) × (p.line.call ≡ call.Edl file)) × (p.calls ≡ [])
  StopsLine s old new (p, left) halt.Screen = PutsSome s old new (output_of s (s.library old.desk.fixed.library) p)
      × GotAll s.tells.out old.out new.out (texts (lines_of (s.library old.desk.fixed.library) p))
      × Rose old.screen.faults new.screen.faults
  StopsLine s old new (p, left) halt.Out = PutsSome s old new (output_of s (s.library old.desk.fixed.library) p)
      × Rose old.out.faults new.out.faults
  StopsLine s old new (p, left) halt.OutMemory = PutsSome s old new (output_of s (s.library old.desk.fixed.library) p)
  StopsLine s old new (p, left) halt.NoMemory =
      (PutsSome s old new (output_of s (s.library old.desk.fixed.library) p)
      × GotAll s.tells.out old.out new.out (texts (lines_of (s.library old.desk.fixed.library) p)))
      ⊎ (IsUnrendered p × PutsAll s old new no_output)
  StopsLine s old new (p, left) (halt.JournalFull len owing) = PutsAll s old new (output_of s (s.library old.desk.fixed.library) p)
      × IsFull s.library new.desk (next_need left (state_of s.library new.desk)) (full.JournalFull len owing)

  -- A line was played to its end, or it was begun and stopped.
  pub record PlaysWhole (s : Setting M F) (old new : Player M K) (line : BodyLine) : Type 0 where
    pub played : Played F
    pub is : played.line ≡ line
    pub whole : IsWhole s new.desk (heard s.library old.desk) played
    pub hears : Hears s.library old.desk new.desk played.calls
    pub puts : PutsAll s old new (output_of s (s.library old.desk.fixed.library) played)

  pub record PlaysPart (s : Setting M F) (old new : Player M K) (line : BodyLine) (why : Halt) : Type 0 where
    pub played : Played F
    pub is : played.line ≡ line
    pub left : List Act
    pub begun : HasSomeCalls s new.desk played line.call left
    pub list : (played.calls ≡ []) ⊎ ReadsList s line.call played.list
    pub hears : Hears s.library old.desk new.desk played.calls
    pub stops : StopsLine s old new (played, left) why

  abbrev pub PlaysLine : Setting M F → (old new : Player M K) → BodyLine → Result Unit Halt → Type 0
  PlaysLine s old new line (Ok done) = PlaysWhole s old new line × Lasts old new
  PlaysLine s old new line (Err why) = PlaysPart s old new line why × Lasts old new
