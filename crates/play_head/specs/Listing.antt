-- What the line of an edit list does on its way: the list is fetched, read and built, or passed over.
use Rattle.std.specs.Prelude.{◌≡◌, ◌≤◌, ℕ, Bool, List, Result, Ok, Err}
use Rattle.std.specs.Global.{Vec}
use Rattle.tl_limits.specs.Limits.{max_text_bytes}
use Rattle.tl_model.specs.Media.{Library}
use Rattle.tl_model.specs.declared.journal.Act.TheVariants as act
use Rattle.tl_model.specs.declared.segment.Segment.{Segment}
use Rattle.tl_ports.specs.declared.fault.FetchFault.TheVariants as fetching
use Rattle.tl_ports.specs.Outside.{Wanted, IsFetched, FetchHasCause}
use Rattle.tl_ports.specs.Seen.{StoreSeen}
use Rattle.render_core.specs.declared.reply.Full.TheVariants as full
use Rattle.render_core.specs.Step.{Silent}
use Rattle.edl_text.specs.declared.fault.EdlFault.{EdlFault}
use Rattle.edl_text.specs.declared.fault.EdlFault.TheVariants as faults
use Rattle.script_lang.specs.declared.out_line.OutLine.{OutLine}
use Rattle.play_head.specs.declared.halt.Halt.{Halt}
use Rattle.play_head.specs.declared.halt.Halt.TheVariants as halt
use Rattle.play_head.specs.Acts.{ListsAs}
use Rattle.play_head.specs.Saying.{Speaks, Place, RefusedBy}
use Rattle.play_head.specs.Working.{HearsAct}

abbrev pub list_wanted : (file : List ℕ) → Wanted
list_wanted file = record { name = file; limit = max_text_bytes }

-- The list's text, or why it wasn't fetched.
abbrev pub FetchesList : Bool → (old new : StoreSeen) → (file : List ℕ) → Result (Vec ℕ) Halt → Type 0
FetchesList tells old new file (Ok text) = (new ≡ old) × IsFetched tells old (list_wanted file) text.items
FetchesList tells old new file (Err (halt.Store fault)) = FetchHasCause tells old new (list_wanted file) (Err fault)
    × (fault ≡ fetching.NoMemory → ⊥) × (new.file ≡ old.file) × (old.faults ≤ new.faults)
FetchesList tells old new file (Err halt.NoMemory) = new ≡ old
FetchesList tells old new file (Err halt.Screen) = ⊥
FetchesList tells old new file (Err halt.Out) = ⊥
FetchesList tells old new file (Err halt.OutMemory) = ⊥
FetchesList tells old new file (Err (halt.JournalFull len owing)) = ⊥

-- What the text gives over the clips, unless memory ran out.
abbrev pub ReadsAs : (clips : List (List ℕ × ℕ)) → (rate : ℕ) → (text : List ℕ) → Result (List Segment) EdlFault → Type 0
ReadsAs clips rate text (Ok segments) = ListsAs clips rate text (Ok segments)
ReadsAs clips rate text (Err (faults.Line n why)) = ListsAs clips rate text (Err (faults.Line n why))
ReadsAs clips rate text (Err faults.NoMemory) = Unit {0}

module _ {M K F : Type 0} where
  -- A call is passed over with this line, or why there is neither.
  abbrev pub Skips : (M → Library F) → Bool → (old new : Place M K) → OutLine × Result Unit Halt → Type 0
  Skips library tells old new (line, Ok done) =
      HearsAct library old.desk new.desk act.Skip Silent × Speaks tells old.out new.out line (Ok done)
  Skips library tells old new (line, Err halt.Out) =
      HearsAct library old.desk new.desk act.Skip Silent × Speaks tells old.out new.out line (Err halt.Out)
  Skips library tells old new (line, Err halt.OutMemory) =
      HearsAct library old.desk new.desk act.Skip Silent × Speaks tells old.out new.out line (Err halt.OutMemory)
  Skips library tells old new (line, Err halt.NoMemory) = RefusedBy library old new act.Skip full.NoMemory
  Skips library tells old new (line, Err (halt.JournalFull len owing)) = RefusedBy library old new act.Skip (full.JournalFull len owing)
  Skips library tells old new (line, Err (halt.Store fault)) = ⊥
  Skips library tells old new (line, Err halt.Screen) = ⊥
