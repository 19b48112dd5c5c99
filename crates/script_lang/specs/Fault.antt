-- How a session tells what is wrong with a line of a script.
use Rattle.std.specs.Prelude.{ℕ, List, codes}
use Rattle.script_lang.specs.declared.script.ScriptFault.{ScriptFault}
use Rattle.script_lang.specs.declared.script.ScriptFault.TheVariants as fault

-- each fault by its name
abbrev pub script_word : ScriptFault → List ℕ
script_word fault.Limit = codes "Limit"
script_word fault.Utf8 = codes "Utf8"
script_word fault.Word = codes "Word"
script_word fault.Order = codes "Order"
script_word fault.Count = codes "Count"
script_word fault.Number = codes "Number"
script_word fault.Timecode = codes "Timecode"
script_word fault.Format = codes "Format"
script_word fault.SameName = codes "SameName"
script_word fault.UnknownClip = codes "UnknownClip"
script_word fault.SameExport = codes "SameExport"
