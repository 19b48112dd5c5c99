-- What a line that stopped had put, and the same over a session.
use Rattle.std.proofs.Common.{◌≡◌, ℕ, ◌≤◌, Bool, true, false, List, [], ◌++◌, Option, Some, None, Ok, Err, inl, inr}
use Rattle.tl_model.specs.declared.journal.Act.{Act}
use Rattle.tl_ports.specs.declared.fault.PutFault.TheVariants as putting
use Rattle.tl_ports.specs.Outside.{Rose}
use Rattle.tl_ports.specs.Seen.{SinkSeen}
use Rattle.script_lang.specs.declared.script.BodyLine.{BodyLine}
use Rattle.play_head.specs.declared.halt.Halt.{Halt}
use Rattle.play_head.specs.declared.halt.Halt.TheVariants as halt
use Rattle.play_head.specs.declared.stop.Stop.{Stop}
use Rattle.play_head.specs.Playing.{Setting, Player, Played}
use Rattle.play_head.specs.PlayingLine.{PlaysPart, StopsLine, texts}
use Rattle.play_head.specs.PlayingScript.{SaysStop, is_silent, stop_lines}
use Rattle.play_head.specs.Putting.{GotAll, GotFront}
use Rattle.play_head.proofs.Pieces.{all_then}
use Rattle.timeline_app.specs.Course.{SaysBy, ShowsBy}
use Rattle.timeline_app.specs.Ending.{said_by}
use Rattle.timeline_app.proofs.Courses.{output_by}
use Rattle.timeline_app.proofs.Speaking.{rose_later, says_stop}

module _ {M K F : Type 0} (s : Setting M F) where
  -- where nothing keeps more from being put, `out` got all its lines
  spoken : (old new : Player M K) (p : Played F) (left : List Act) (why : Halt) (h : StopsLine s old new (p, left) why) → is_silent why ≡ false → GotAll s.tells.out old.out new.out (texts (output_by s old new p left why h).lines)
  spoken old new p left (halt.Store fault) h e = h.0.0
  spoken old new p left halt.Screen h e = h.1
  spoken old new p left halt.Out h e = absurd cc
  spoken old new p left halt.OutMemory h e = absurd cc
  spoken old new p left halt.NoMemory (inl h) e = h.1
  spoken old new p left halt.NoMemory (inr h) e = h.1.0
  spoken old new p left (halt.JournalFull len owing) h e = h.0.0

  -- else some front of them
  some_spoken : (old new : Player M K) (p : Played F) (left : List Act) (why : Halt) (h : StopsLine s old new (p, left) why) → is_silent why ≡ true → GotFront s.tells.out old.out new.out (texts (output_by s old new p left why h).lines)
  some_spoken old new p left (halt.Store fault) h e = absurd cc
  some_spoken old new p left halt.Screen h e = absurd cc
  some_spoken old new p left halt.Out h e = h.0.0
  some_spoken old new p left halt.OutMemory h e = h.0
  some_spoken old new p left halt.NoMemory h e = absurd cc
  some_spoken old new p left (halt.JournalFull len owing) h e = absurd cc

  out_rose : (old new : Player M K) (p : Played F) (left : List Act) (why : Halt) → StopsLine s old new (p, left) why → why ≡ halt.Out → Rose old.out.faults new.out.faults
  out_rose old new p left (halt.Store fault) h e = absurd cc
  out_rose old new p left halt.Screen h e = absurd cc
  out_rose old new p left halt.Out h e = h.1
  out_rose old new p left halt.OutMemory h e = absurd cc
  out_rose old new p left halt.NoMemory h e = absurd cc
  out_rose old new p left (halt.JournalFull len owing) h e = absurd cc

  -- what the screen got of its rows
  pub part_shows : (old new : Player M K) (p : Played F) (left : List Act) (why : Halt) (h : StopsLine s old new (p, left) why) → ShowsBy s.tells.screen old.screen new.screen (output_by s old new p left why h).rows (Some why)
  part_shows old new p left (halt.Store fault) h = h.0.1
  part_shows old new p left halt.Screen h = (h.0.1, h.2)
  part_shows old new p left halt.Out h = h.0.1
  part_shows old new p left halt.OutMemory h = h.1
  part_shows old new p left halt.NoMemory (inl h) = h.0.1
  part_shows old new p left halt.NoMemory (inr h) = λ t. ([], h.1.1 t, tt)
  part_shows old new p left (halt.JournalFull len owing) h = h.0.1

  -- the line and its stop line
  pub part_says : (old halted : Player M K) (new : SinkSeen) (line : BodyLine) (why : Halt) (h : PlaysPart s old halted line why) (what : Stop) (silenced : Bool) → old.out.faults ≤ halted.out.faults → SaysStop s.tells.out halted.out new (h.played.line.call, why) (what, silenced) → SaysBy s.tells.out old.out new ((output_by s old halted h.played h.left why h.stops).lines ++ stop_lines h.played.line.call why) (said_by (Err what) silenced)
  part_says old halted new line why h what silenced le k =
      says_stop s.tells.out old.out halted.out new (output_by s old halted h.played h.left why h.stops).lines h.played.line.call why what silenced
      (spoken old halted h.played h.left why h.stops) (some_spoken old halted h.played h.left why h.stops) (out_rose old halted h.played h.left why h.stops) le k

module _ (tells : Bool) where
  rows_on : (old mid new : SinkSeen) (first more : List (List ℕ)) → GotAll tells old mid first → GotAll tells mid new more → GotAll tells old new (first ++ more)
  rows_on old mid new first more h k = all_then tells old mid new first more (Ok tt) h k

  some_rows : (old mid new : SinkSeen) (first more : List (List ℕ)) → GotAll tells old mid first → GotFront tells mid new more → GotFront tells old new (first ++ more)
  some_rows old mid new first more h k = all_then tells old mid new first more (Err putting.Failed) h k

  -- rows that were put before
  pub shows_then : (old mid new : SinkSeen) (first more : List (List ℕ)) (why : Option Halt) → GotAll tells old mid first → old.faults ≤ mid.faults → ShowsBy tells mid new more why → ShowsBy tells old new (first ++ more) why
  shows_then old mid new first more None h le k = rows_on old mid new first more h k
  shows_then old mid new first more (Some (halt.Store fault)) h le k = rows_on old mid new first more h k
  shows_then old mid new first more (Some halt.Screen) h le k = (some_rows old mid new first more h k.0, rose_later old.faults mid.faults new.faults le k.1)
  shows_then old mid new first more (Some halt.Out) h le k = some_rows old mid new first more h k
  shows_then old mid new first more (Some halt.NoMemory) h le k = some_rows old mid new first more h k
  shows_then old mid new first more (Some halt.OutMemory) h le k = some_rows old mid new first more h k
  shows_then old mid new first more (Some (halt.JournalFull len owing)) h le k = rows_on old mid new first more h k
