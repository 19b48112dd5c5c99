use Rattle.std.proofs.Common.{◌≡◌, ◌++◌, drop, flat_map}
use Rattle.edl_text.specs.Writing.{joined, event_lines}
use Rattle.edl_text.proofs.writing.put_events.Given as goal

abbrev pub invariant-loop-event : goal.invariant-loop-event
invariant-loop-event l = l.out.items ++ joined (flat_map (event_lines l.rate) (drop l.event-index l.events)) ≡ l.fn.out.items ++ joined (flat_map (event_lines l.rate) l.events)
