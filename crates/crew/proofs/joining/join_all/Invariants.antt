use Rattle.std.specs.Prelude.{All, List, length}
use Rattle.std.proofs.Common.{◌≡◌, ◌++◌}
use Rattle.turn_lock.specs.Passes.{PassOf}
use Rattle.render_core.specs.Board.{BoardOf}
use Rattle.crew.specs.declared.task.Slot.{Slot}
use Rattle.crew.specs.Joining.{GaveBack, Stays}
use Rattle.crew.proofs.Joins.{HasJoinedRest}
use Rattle.crew.proofs.joining.join_all.Given as goal

abbrev pub invariant-loop-slot : goal.invariant-loop-slot
invariant-loop-slot g l = record {
  stays : Stays g.M.Media.library l.studio l.fn.main l.main;
  slots : All (GaveBack g.M.Media.library l.studio) l.slots.items;
  joined : HasJoinedRest l.main l.fn.slots.items l.slots.items;
}

abbrev pub decreases-loop-slot : goal.decreases-loop-slot
decreases-loop-slot g l = length l.slots.items
