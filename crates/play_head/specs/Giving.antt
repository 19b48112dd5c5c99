-- The answer of a play or a show as it is given out: its line, and the rows of its picture.
use Rattle.std.specs.Prelude.{◌≡◌, ◌≤◌, ℕ, Bool, List, [], Result, Ok, Err}
use Rattle.std.specs.Arc.{arc_value}
use Rattle.pic_planes.specs.Picture.{Image}
use Rattle.tl_ports.specs.Outside.{Rose}
use Rattle.tl_ports.specs.Seen.{SinkSeen}
use Rattle.render_core.specs.declared.reply.PlayReply.{PlayReply}
use Rattle.render_core.specs.declared.reply.PlayReply.TheVariants as play
use Rattle.script_lang.specs.declared.out_line.OutLine.{OutLine}
use Rattle.script_lang.specs.declared.out_line.OutLine.TheVariants as out
use Rattle.play_head.specs.declared.halt.Halt.{Halt}
use Rattle.play_head.specs.declared.halt.Halt.TheVariants as halt
use Rattle.play_head.specs.PlayingActs.{image_rows}
use Rattle.play_head.specs.Putting.{GotAll, GotFront}
use Rattle.play_head.specs.Told.{fault_word}

-- the line of frame n
abbrev pub play_line : {F : Type 0} → (n : ℕ) → PlayReply F → OutLine
play_line n (play.Frame frame) = out.Frame n
play_line n (play.Fault why) = out.Fault n (fault_word why.kind)
play_line n (play.Pending recipe) = out.Pending n
play_line n (play.PastEnd len) = out.Past len

abbrev pub play_rows : PlayReply Image → List (List ℕ)
play_rows (play.Frame frame) = image_rows (arc_value frame)
play_rows (play.Fault why) = []
play_rows (play.Pending recipe) = []
play_rows (play.PastEnd len) = []

-- The rows were put; or some front of them, since the screen failed or memory ran out.
abbrev pub Screens : Bool → (old new : SinkSeen) → List (List ℕ) → Result Unit Halt → Type 0
Screens tells old new rows (Ok done) = GotAll tells old new rows × (new.faults ≡ old.faults)
Screens tells old new rows (Err halt.Screen) = GotFront tells old new rows × Rose old.faults new.faults × (old.faults ≤ new.faults)
Screens tells old new rows (Err halt.NoMemory) = GotFront tells old new rows × (new.faults ≡ old.faults)
Screens tells old new rows (Err (halt.Store fault)) = ⊥
Screens tells old new rows (Err halt.Out) = ⊥
Screens tells old new rows (Err halt.OutMemory) = ⊥
Screens tells old new rows (Err (halt.JournalFull len owing)) = ⊥
