use Rattle.std.proofs.Common.{◌≡◌, ◌<◌, ℕ, pos}
use Rattle.std.specs.Prelude.{slice_index_or}
use Rattle.ffv1_predict.proofs.flat.is_flat.Given as goal

abbrev pub invariant-loop-entry : goal.invariant-loop-entry
invariant-loop-entry l = (k : ℕ) → k < l.entry-index → slice_index_or l.table k (pos 0) ≡ pos 0
