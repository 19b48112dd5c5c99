use Rattle.std.proofs.Common.{◌∙◌, ◌++◌, ap}
use Rattle.std.specs.Prelude.{option_to_list}
use Rattle.crew.proofs.Joins.{gave_front, none_left, rest_all, rest_more, stays_then}
use Rattle.crew.proofs.joining.join_all.Goals as goal

pub loop-slot-preserved : goal.loop-slot-preserved
loop-slot-preserved g c =
    let library = g.M.Media.library in
    let studio = c.args.studio.now in
    let now = c.loop-slot.slots.items in
    let next = c.pop.new.self.items in
    let popped = c.pop.ensures.items ∙ ap (λ o. next ++ option_to_list o) c.in-Some.is in
    record {
      stays = stays_then library studio c.args.main.now c.loop-slot.main c.join_slot.new.main c.loop-slot.invariant.stays c.join_slot.ensures.stays;
      slots = (gave_front library studio now next c.in-Some.slot popped c.loop-slot.invariant.slots).0;
      joined = rest_more library studio c.loop-slot.main c.join_slot.new.main c.args.slots.items now next c.in-Some.slot popped c.join_slot.ensures.stays c.join_slot.ensures.has c.loop-slot.invariant.joined;
    }

pub returns-clause-has : goal.returns-clause-has
returns-clause-has g c = rest_all g.M.Media.library c.args.studio.now c.loop-slot.main c.args.slots.items c.loop-slot.slots.items (none_left c.loop-slot.slots.items c.pop.result c.pop.ensures.variant c.in_default.not-Some) c.loop-slot.invariant.joined
