use Rattle.std.proofs.Common.{◌≡◌, ℕ, ◌<◌, pos, get_or}
use Rattle.ffv1_lanes.specs.Residual.{residual}
use Rattle.ffv1_lanes.proofs.residual.residual_row.Given as goal

abbrev pub invariant-loop-x : goal.invariant-loop-x
invariant-loop-x l = (x : ℕ) → x < l.x → get_or l.into x (pos 0) ≡ residual (get_or l.sample x 0) (get_or l.predicted x 0)
