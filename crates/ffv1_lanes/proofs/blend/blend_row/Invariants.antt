use Rattle.std.proofs.Common.{◌≡◌, ℕ, ◌-◌, ◌<◌, ◌≤◌, length, get_or}
use Rattle.ffv1_lanes.specs.Blend.{blended}
use Rattle.ffv1_lanes.proofs.blend.blend_row.Given as goal

abbrev pub invariant-loop-into : goal.invariant-loop-into
invariant-loop-into l = record {
  within : l.first ≤ length l.into;
  done : (x : ℕ) → x < l.first → get_or l.into x 0 ≡ blended l.weight (get_or l.a x 0) (get_or l.b x 0);
}

abbrev pub decreases-loop-into : goal.decreases-loop-into
decreases-loop-into l = length l.into - l.first

abbrev pub invariant-loop-x : goal.invariant-loop-x
invariant-loop-x l = (x : ℕ) → x < l.x → get_or l.into x 0 ≡ blended l.weight (get_or l.a x 0) (get_or l.b x 0)
