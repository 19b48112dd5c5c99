-- How a session ends: its status, and the end line of each export.
use Rattle.std.specs.Prelude.{ℕ, Bool, true, false, if◌then◌else◌, List, [], ◌∷◌, map, slice_get, Option, Some, None, Result, Ok, Err}
use Rattle.std.specs.List.{list_any}
use Rattle.tl_model.specs.declared.fault.Ending.{Ending}
use Rattle.tl_model.specs.declared.fault.Ending.TheVariants as ending
use Rattle.tl_model.specs.declared.journal.Act.{Act}
use Rattle.tl_model.specs.declared.journal.Act.TheVariants as act
use Rattle.tl_model.specs.declared.journal.Entry.{Entry}
use Rattle.tl_ports.specs.declared.fault.PutFault.{PutFault}
use Rattle.tl_ports.specs.declared.fault.PutFault.TheVariants as putting
use Rattle.script_lang.specs.declared.out_line.OutLine.{OutLine}
use Rattle.script_lang.specs.declared.out_line.OutLine.TheVariants as out
use Rattle.play_head.specs.declared.stop.Stop.{Stop}
use Rattle.play_head.specs.declared.stop.Stop.TheVariants as stop
use Rattle.play_head.specs.Carrying.{Carried}
use Rattle.play_head.specs.Told.{fault_word}

-- ---- the end lines

-- the name of a clip by its number, from 0
abbrev pub name_or_none : Option (List ℕ × ℕ) → List ℕ
name_or_none None = []
name_or_none (Some clip) = clip.0

abbrev pub clip_name : (clips : List (List ℕ × ℕ)) → (clip : ℕ) → List ℕ
clip_name clips clip = name_or_none (slice_get clips clip)

-- The line of an export by its number. The clip of a fault goes by its name.
abbrev pub ending_line : (clips : List (List ℕ × ℕ)) → (export : ℕ) → Ending → OutLine
ending_line clips export (ending.Done count) = out.Done export count
ending_line clips export (ending.ClipFault at fault) =
    out.ExportFault export at (clip_name clips fault.clip) fault.frame (fault_word fault.kind)
ending_line clips export (ending.SliceTooLong at) = out.Long export at
ending_line clips export ending.Sink = out.Sink export
ending_line clips export ending.NoMemory = out.Memory export

abbrev pub end_lines : (clips : List (List ℕ × ℕ)) → List Carried → List OutLine
end_lines clips carried = map (λ c. ending_line clips c.export c.ending) carried

-- ---- the status

abbrev pub is_sink : Ending → Bool
is_sink (ending.Done count) = false
is_sink (ending.ClipFault at fault) = false
is_sink (ending.SliceTooLong at) = false
is_sink ending.Sink = true
is_sink ending.NoMemory = false

abbrev pub is_memory : Ending → Bool
is_memory (ending.Done count) = false
is_memory (ending.ClipFault at fault) = false
is_memory (ending.SliceTooLong at) = false
is_memory ending.Sink = false
is_memory ending.NoMemory = true

abbrev pub is_fault : Ending → Bool
is_fault (ending.Done count) = false
is_fault (ending.ClipFault at fault) = true
is_fault (ending.SliceTooLong at) = true
is_fault ending.Sink = false
is_fault ending.NoMemory = false

-- Of exports: 4 where one couldn't be written, else 5 where memory ran out in one, else 7 where one has a fault, else 0.
abbrev pub ending_status : List Ending → ℕ
ending_status endings =
    if list_any is_sink endings then 4
    else if list_any is_memory endings then 5
    else if list_any is_fault endings then 7
    else 0

-- Of what stopped a script: 4 where the outside failed, 5 for want of memory, 6 where the journal is full.
abbrev pub stop_status : Stop → ℕ
stop_status stop.Store = 4
stop_status stop.Screen = 4
stop_status stop.Out = 4
stop_status stop.NoMemory = 5
stop_status stop.OutMemory = 5
stop_status (stop.JournalFull len owing) = 6

-- What stopped the script gives the status, else this is it.
abbrev pub unless_stopped : ℕ → Option Stop → ℕ
unless_stopped status None = status
unless_stopped status (Some what) = stop_status what

-- Want of memory for a line or a put of `out` comes before all others, then what stopped the script, then a put of `out` that failed,
-- then the exports.
abbrev pub final_status : (said : Result Unit PutFault) → Option Stop → List Ending → ℕ
final_status (Ok done) what endings = unless_stopped (ending_status endings) what
final_status (Err putting.Failed) what endings = unless_stopped 4 what
final_status (Err putting.NoMemory) what endings = 5

-- The status of a session that didn't start or of words that aren't of the form, by how its one line was put.
abbrev pub status_unless : (said : Result Unit PutFault) → ℕ → ℕ
status_unless (Ok done) status = status
status_unless (Err putting.Failed) status = status
status_unless (Err putting.NoMemory) status = 5

-- ---- the same by a journal's entries

abbrev pub act_endings : Act → List Ending
act_endings (act.End export why) = why ∷ []
act_endings other = []

abbrev pub entry_endings : Entry → List Ending
entry_endings entry = act_endings entry.act

abbrev pub act_lines : (clips : List (List ℕ × ℕ)) → Act → List OutLine
act_lines clips (act.End export why) = ending_line clips export why ∷ []
act_lines clips other = []

abbrev pub entry_lines : (clips : List (List ℕ × ℕ)) → Entry → List OutLine
entry_lines clips entry = act_lines clips entry.act

-- It is an end of such a kind.
abbrev pub any_ending : (Ending → Bool) → Entry → Bool
any_ending is entry = list_any is (entry_endings entry)

-- what stopped a script
abbrev pub stop_in : Result Unit Stop → Option Stop
stop_in (Ok done) = None
stop_in (Err what) = Some what

-- How the puts to `out` went while a script was played.
abbrev pub said_by : (played : Result Unit Stop) → (silenced : Bool) → Result Unit PutFault
said_by played false = Ok tt
said_by (Ok done) true = Err putting.Failed
said_by (Err stop.Store) true = Err putting.Failed
said_by (Err stop.Screen) true = Err putting.Failed
said_by (Err stop.Out) true = Err putting.Failed
said_by (Err stop.NoMemory) true = Err putting.Failed
said_by (Err stop.OutMemory) true = Err putting.NoMemory
said_by (Err (stop.JournalFull len owing)) true = Err putting.Failed
