-- The words of the lines that a session puts itself are in their lists.
use Rattle.std.specs.Prelude.{ℕ, List, IsTrue, refl}
use Rattle.tl_model.specs.declared.fault.Ending.{Ending}
use Rattle.tl_model.specs.declared.fault.Ending.TheVariants as ending
use Rattle.tl_model.specs.declared.fault.FrameFault.{FrameFault}
use Rattle.tl_model.specs.declared.fault.FrameFault.TheVariants as frames
use Rattle.script_lang.specs.declared.out_line.OutLine.TheVariants as out
use Rattle.script_lang.specs.Line.{fields, is_listed}
use Rattle.play_head.specs.Told.{fault_word}
use Rattle.timeline_app.specs.Ending.{clip_name, ending_line}

pub usage_listed : IsTrue (is_listed out.Usage)
unfolding fields
usage_listed = refl

pub memory_listed : IsTrue (is_listed out.NoMemory)
unfolding fields
memory_listed = refl

fault_listed : (export at : ℕ) (clip : List ℕ) (frame : ℕ) (kind : FrameFault) → IsTrue (is_listed (out.ExportFault export at clip frame (fault_word kind)))
unfolding fields
fault_listed export at clip frame frames.Empty = refl
fault_listed export at clip frame frames.Chain = refl
fault_listed export at clip frame (frames.Parity slice) = refl
fault_listed export at clip frame frames.NotKey = refl
fault_listed export at clip frame (frames.Header slice) = refl
fault_listed export at clip frame (frames.TableIndex slice) = refl
fault_listed export at clip frame (frames.Cover cell) = refl
fault_listed export at clip frame (frames.Symbol slice) = refl
fault_listed export at clip frame (frames.Overrun slice) = refl

pub ending_listed : (clips : List (List ℕ × ℕ)) (export : ℕ) (why : Ending) → IsTrue (is_listed (ending_line clips export why))
unfolding fields
ending_listed clips export (ending.Done count) = refl
ending_listed clips export (ending.ClipFault at fault) = fault_listed export at (clip_name clips fault.clip) fault.frame fault.kind
ending_listed clips export (ending.SliceTooLong at) = refl
ending_listed clips export ending.Sink = refl
ending_listed clips export ending.NoMemory = refl
