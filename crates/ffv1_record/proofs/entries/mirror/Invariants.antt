use Rattle.std.proofs.Common.{◌≡◌, ℕ, ◌-◌, ◌<◌, ◌≤◌, get_or, pos, neg_ℤ}
use Rattle.ffv1_record.proofs.entries.mirror.Given as goal

abbrev pub invariant-loop-k : goal.invariant-loop-k
invariant-loop-k l = record {
  first : get_or l.rest 0 (pos 0) ≡ neg_ℤ (get_or l.half 127 (pos 0));
  others : (k : ℕ) → 1 ≤ k → k < l.k → get_or l.rest k (pos 0) ≡ neg_ℤ (get_or l.half (128 - k) (pos 0));
}
