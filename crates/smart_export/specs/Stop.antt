-- What stops an export, and how it ends then.
use Rattle.std.specs.Prelude.{◌≡◌, ℕ, Result, Ok, Err}
use Rattle.tl_model.specs.declared.fault.Ending.{Ending}
use Rattle.tl_model.specs.declared.fault.Ending.TheVariants as ending
use Rattle.tl_model.specs.declared.media.EncodeFault.{EncodeFault}
use Rattle.tl_model.specs.declared.media.EncodeFault.TheVariants as encoding
use Rattle.mkv_write.specs.declared.fault.WriteFault.{WriteFault}
use Rattle.mkv_write.specs.declared.fault.WriteFault.TheVariants as writing
use Rattle.smart_export.specs.declared.stop.Stop.{Stop}
use Rattle.smart_export.specs.declared.stop.Stop.TheVariants as stop

-- Where the frame is at a place.
abbrev pub ending_at : Stop → (at : ℕ) → Ending
ending_at (stop.Fault fault) at = ending.ClipFault at fault
ending_at stop.TooLong at = ending.SliceTooLong at
ending_at stop.Sink at = ending.Sink
ending_at stop.NoMemory at = ending.NoMemory

abbrev pub CodesTo : EncodeFault → Stop → Type 0
CodesTo encoding.SliceTooLong why = why ≡ stop.TooLong
CodesTo encoding.NoMemory why = why ≡ stop.NoMemory

abbrev pub WritesTo : WriteFault → Stop → Type 0
WritesTo writing.Sink why = why ≡ stop.Sink
WritesTo writing.NoMemory why = why ≡ stop.NoMemory

-- Where the start or the end of the file wasn't put.
abbrev pub ending_of : WriteFault → Ending
ending_of writing.Sink = ending.Sink
ending_of writing.NoMemory = ending.NoMemory

-- The frame's answer as that of frames of which it is the first, at this place.
abbrev pub placed : Result Unit Stop → (at : ℕ) → Result Unit Ending
placed (Ok done) at = Ok done
placed (Err why) at = Err (ending_at why at)
