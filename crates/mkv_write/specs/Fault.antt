-- Which fault a refused put is to the writer.
use Rattle.std.specs.Prelude.{◌≡◌}
use Rattle.tl_ports.specs.declared.fault.PutFault.{PutFault}
use Rattle.tl_ports.specs.declared.fault.PutFault.TheVariants as putting
use Rattle.mkv_write.specs.declared.fault.WriteFault.{WriteFault}
use Rattle.mkv_write.specs.declared.fault.WriteFault.TheVariants as writing

abbrev pub Becomes : PutFault → WriteFault → Type 0
Becomes putting.Failed fault = fault ≡ writing.Sink
Becomes putting.NoMemory fault = fault ≡ writing.NoMemory
