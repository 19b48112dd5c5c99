-- What stops a line where a call was refused.
use Rattle.render_core.specs.declared.reply.Full.{Full}
use Rattle.render_core.specs.declared.reply.Full.TheVariants as full
use Rattle.play_head.specs.declared.halt.Halt.{Halt}
use Rattle.play_head.specs.declared.halt.Halt.TheVariants as halt

abbrev pub halt_for : Full → Halt
halt_for (full.JournalFull len owing) = halt.JournalFull len owing
halt_for full.NoMemory = halt.NoMemory
