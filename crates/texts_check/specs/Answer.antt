-- What is printed of a text.
use Rattle.std.specs.Prelude.{ℕ, List, [], ◌∷◌, ◌++◌, flat_map, codes, Option, Some, None, Result, Ok, Err}
use Rattle.text_words.specs.Number.{number_text}
use Rattle.edl_text.specs.declared.event.Edl.{Edl}
use Rattle.edl_text.specs.declared.event.Event.{Event}
use Rattle.edl_text.specs.declared.fault.EdlFault.{EdlFault}
use Rattle.edl_text.specs.declared.fault.EdlFault.TheVariants as faults
use Rattle.script_lang.specs.declared.script.Script.{Script}
use Rattle.script_lang.specs.declared.script.ScriptRefusal.{ScriptRefusal}
use Rattle.script_lang.specs.declared.script.ScriptRefusal.TheVariants as refusals
use Rattle.edl_text.specs.Fault.{edl_word}
use Rattle.script_lang.specs.Fault.{script_word}
use Rattle.script_lang.specs.Writing.{script_text}

unfoldable pub fault_text : (n : ℕ) (why : List ℕ) → List ℕ
fault_text n why = codes "line " ++ (number_text 1 n ++ 32 ∷ (why ++ 10 ∷ []))

-- A number and a blank.
abbrev pub field : ℕ → List ℕ
field n = number_text 1 n ++ 32 ∷ []

-- What an event hasn't is a hyphen.
abbrev pub duration_text : Option ℕ → List ℕ
duration_text None = codes "- "
duration_text (Some frames) = field frames

abbrev pub name_text : Option (List ℕ) → List ℕ
name_text None = codes "-"
name_text (Some name) = name

abbrev pub times_text : Event → List ℕ
times_text e = field e.source_in ++ (field e.source_out ++ (field e.record_in ++ field e.record_out))

-- Number, reel, duration, source in and out, record in and out, and the names that the event comes from and goes to.
unfoldable pub event_text : Event → List ℕ
event_text e =
    field e.number
    ++ (e.reel ++ 32 ∷ (duration_text e.duration ++ (times_text e ++ (name_text e.from ++ 32 ∷ (name_text e.to ++ 10 ∷ [])))))

abbrev pub list_answer : Result Edl EdlFault → List ℕ
list_answer (Ok list) = flat_map event_text list.events
list_answer (Err (faults.Line n why)) = fault_text n (edl_word why)
list_answer (Err faults.NoMemory) = []

-- A script is printed as it is written.
abbrev pub script_answer : Result Script ScriptRefusal → List ℕ
script_answer (Ok script) = script_text script
script_answer (Err (refusals.Fault n why)) = fault_text n (script_word why)
script_answer (Err refusals.NoMemory) = []
