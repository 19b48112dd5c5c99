use Rattle.std.proofs.Common.{ℕ, ◌<◌, ◌≤◌, map}
use Rattle.ffv1_record.specs.Tables.{set_of}
use Rattle.ffv1_frame.proofs.SliceSteps.{count_in}
use Rattle.ffv1_frame.proofs.samples.most_of.Given as goal

abbrev pub invariant-loop-set : goal.invariant-loop-set
invariant-loop-set l = (set : ℕ) → set < l.set-index → count_in (map set_of l.sets) set ≤ l.most
