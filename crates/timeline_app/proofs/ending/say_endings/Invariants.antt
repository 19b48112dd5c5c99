use Rattle.std.proofs.Common.{◌≤◌, take}
use Rattle.std.specs.List.{flat_map}
use Rattle.play_head.specs.PlayingLine.{texts}
use Rattle.play_head.specs.Putting.{GotAll}
use Rattle.timeline_app.specs.Ending.{entry_lines}
use Rattle.timeline_app.proofs.ending.say_endings.Given as goal

abbrev pub invariant-loop-entry : goal.invariant-loop-entry
invariant-loop-entry g l = record {
  got : GotAll g.O.Sink.tells (g.O.Sink.seen l.fn.out) (g.O.Sink.seen l.out) (texts (flat_map (entry_lines l.clips) (take l.entry-index l.journal)));
  later : (g.O.Sink.seen l.fn.out).faults ≤ (g.O.Sink.seen l.out).faults;
}
