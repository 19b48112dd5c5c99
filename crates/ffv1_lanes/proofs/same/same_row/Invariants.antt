use Rattle.std.proofs.Common.{◌≡◌, ◌-◌, ◌≤◌, length, take}
use Rattle.ffv1_lanes.proofs.same.same_row.Given as goal

abbrev pub invariant-loop-first : goal.invariant-loop-first
invariant-loop-first l = record { within : l.first ≤ length l.a; same : take l.first l.a ≡ take l.first l.b }

abbrev pub decreases-loop-first : goal.decreases-loop-first
decreases-loop-first l = length l.a - l.first
