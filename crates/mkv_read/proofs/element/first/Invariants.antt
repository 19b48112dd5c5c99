use Rattle.std.proofs.Common.{◌≡◌, ◌-◌, ◌≤◌}
use Rattle.mkv_read.specs.Elements.{elements, first}
use Rattle.mkv_read.proofs.element.first.Given as goal

abbrev pub invariant-loop-element : goal.invariant-loop-element
invariant-loop-element l = record {
  same : first l.id (elements l.bytes l.place l.to) ≡ first l.id (elements l.bytes l.from l.to);
  order : l.place ≤ l.to;
}

abbrev pub decreases-loop-element : goal.decreases-loop-element
decreases-loop-element l = l.to - l.place
