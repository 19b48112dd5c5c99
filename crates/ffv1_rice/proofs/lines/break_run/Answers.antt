use Rattle.std.proofs.Common.{◌≡◌, ℕ, ◌<◌, ◌^◌, sym, subst}
use Rattle.ffv1_rice.specs.Runs.{run_bits, whole_run}
use Rattle.ffv1_rice.proofs.lines.break_run.Goals as goal

below : (count bits index : ℕ) → bits ≡ run_bits index → count < whole_run index → count < 2 ^ bits
unfolding whole_run
below count bits index e h = subst (λ (n : ℕ). count < 2 ^ n) (sym e) h

pub put-requires-clause-number : goal.put-requires-clause-number
put-requires-clause-number c = below c.in_ok-rest.rest.count c.run_bits.result c.in_ok-rest.rest.index c.run_bits.ensures.bits c.in_ok-rest.ensures.below
