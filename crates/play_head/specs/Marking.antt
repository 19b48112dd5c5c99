-- What a line of work does: it marks its turns, makes them, and says how many results were filed.
use Rattle.std.specs.Prelude.{◌≡◌, ◌⊎◌, ◌≤◌, ℕ, Bool, List, ◌∷◌, length, Option, Some, None, Result, Ok, Err}
use Rattle.tl_model.specs.Media.{Library}
use Rattle.tl_model.specs.declared.journal.Act.TheVariants as act
use Rattle.tl_ports.specs.Seen.{SinkSeen}
use Rattle.render_core.specs.declared.reply.Full.{Full}
use Rattle.render_core.specs.declared.reply.Full.TheVariants as full
use Rattle.edit_desk.specs.Desk.{DeskOf, Hears}
use Rattle.script_lang.specs.declared.out_line.OutLine.TheVariants as out
use Rattle.play_head.specs.declared.halt.Halt.{Halt}
use Rattle.play_head.specs.declared.halt.Halt.TheVariants as halt
use Rattle.play_head.specs.declared.work.Worked.{Worked}
use Rattle.play_head.specs.Halting.{halt_for}
use Rattle.play_head.specs.Playing.{mark_call}
use Rattle.play_head.specs.Saying.{Speaks, Place, RefusedBy}
use Rattle.play_head.specs.Work.{Turn, turns_calls, filed_count, AreTurns}
use Rattle.play_head.specs.Working.{HasCause}

-- The number of filed results is put. Where a claim was refused its cause stops the line then.
abbrev pub EndsWork : Bool → (old new : SinkSeen) → Worked → Result Unit Halt → Type 0
EndsWork tells old new worked (Ok done) = (worked.refused ≡ None) × Speaks tells old new (out.Worked worked.filed) (Ok done)
EndsWork tells old new worked (Err halt.Out) = Speaks tells old new (out.Worked worked.filed) (Err halt.Out)
EndsWork tells old new worked (Err halt.OutMemory) = Speaks tells old new (out.Worked worked.filed) (Err halt.OutMemory)
EndsWork tells old new worked (Err halt.NoMemory) =
    (worked.refused ≡ Some full.NoMemory) × Speaks tells old new (out.Worked worked.filed) (Ok tt)
EndsWork tells old new worked (Err (halt.JournalFull len owing)) =
    (worked.refused ≡ Some (full.JournalFull len owing)) × Speaks tells old new (out.Worked worked.filed) (Ok tt)
EndsWork tells old new worked (Err (halt.Store fault)) = ⊥
EndsWork tells old new worked (Err halt.Screen) = ⊥

module _ {M K F : Type 0} where
  -- The caller marks a number of turns and makes at most so many, and why it made no more of them.
  pub record Marks (library : M → Library F) (old new : DeskOf M K) (turns : ℕ) (worked : Worked) : Type 0 where
    pub done : List (Turn F)
    pub hears : Hears library old new (mark_call old.fixed.number turns ∷ turns_calls old.fixed.number done)
    pub are_turns : AreTurns done
    pub filed : worked.filed ≡ filed_count done
    pub few : length done ≤ turns
    pub cause : HasCause library new turns done worked.refused

  -- The mark was refused.
  pub record RefusesMark (library : M → Library F) (old new : Place M K) (turns : ℕ) (result : Result Unit Halt) : Type 0 where
    pub why : Full
    pub is : result ≡ Err (halt_for why)
    pub refused : RefusedBy library old new (act.Mark turns) why

  pub record MarksAndSays (library : M → Library F) (tells : Bool) (old new : Place M K) (asked : ℕ × Result Unit Halt) : Type 0 where
    pub worked : Worked
    pub marks : Marks library old.desk new.desk asked.0 worked
    pub says : EndsWork tells old.out new.out worked asked.1

  abbrev pub SaysWork : (M → Library F) → Bool → (old new : Place M K) → ℕ × Result Unit Halt → Type 0
  SaysWork library tells old new (turns, result) =
      RefusesMark library old new turns result ⊎ MarksAndSays library tells old new (turns, result)
