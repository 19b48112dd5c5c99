use Rattle.std.proofs.Common.{◌≡◌, ℕ, ◌-◌, ◌<◌, length}
use Rattle.std.specs.Prelude.{slice_index}
use Rattle.ffv1_range.specs.Transition.{zero_state}
use Rattle.ffv1_range.proofs.transition.zero_states.Given as goal

abbrev pub invariant-loop-state : goal.invariant-loop-state
invariant-loop-state l = record {
  entries : length l.zero ≡ 256;
  done : (k : ℕ) → 0 < k → k < l.state → 0 < slice_index l.one (256 - k) → slice_index l.zero k ≡ zero_state l.one k;
}
