use Rattle.std.proofs.Common.{◌≡◌, ◌∙◌, sym, arith, rules}
use Rattle.edl_text.proofs.Joining.{joined_next, joined_done}
use Rattle.edl_text.proofs.writing.put_events.Goals as goal

pub loop-event-preserved : goal.loop-event-preserved
loop-event-preserved c =
    joined_next c.args.rate c.args.events.now c.loop-event.event-index c.event-item.result c.loop-event.out.items c.put_event.new.out.items (omega arith) c.event-item.is c.in_ok-put_event.ensures ∙ c.loop-event.invariant

pub returns : goal.returns
returns c = sym (joined_done c.args.rate c.args.events.now c.loop-event.event-index c.loop-event.out.items (omega arith)) ∙ c.loop-event.invariant
