use Rattle.std.proofs.Common.{◌≡◌, ◌+◌, ◌-◌, ◌*◌, ◌≤◌, length}
use Rattle.mkv_read.specs.Elements.{elements}
use Rattle.mkv_read.specs.Faults.{element_fault}
use Rattle.mkv_read.specs.Blocks.{element_blocks}
use Rattle.mkv_read.specs.Taking.{Lie, taken_of}
use Rattle.mkv_read.proofs.Visiting.{taken_in}
use Rattle.mkv_read.proofs.visit.+visit.Given as goal

abbrev pub decreases-visit : goal.decreases-visit
decreases-visit l = 2 * l.inside.levels

abbrev pub decreases-visit_element : goal.decreases-visit_element
decreases-visit_element l = 2 * l.inside.levels + 1

abbrev pub invariant-visit-loop-element : goal.invariant-visit-loop-element
invariant-visit-loop-element l =
    let from_here = taken_in (element_fault l.below.levels l.bytes l.below.parent) (element_blocks l.below.levels l.bytes l.track l.below.parent l.below.time) in
    record {
      same : from_here (elements l.bytes l.place l.to) (taken_of l.blocks) ≡ from_here (elements l.bytes l.from l.to) (taken_of l.initial.blocks);
      order : l.place ≤ l.to;
      lie : Lie (length l.bytes) l.initial.blocks.packets.items → Lie (length l.bytes) l.blocks.packets.items;
    }

abbrev pub decreases-visit-loop-element : goal.decreases-visit-loop-element
decreases-visit-loop-element l = l.to - l.place
