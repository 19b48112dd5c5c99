use Rattle.std.proofs.Common.{ℕ, ◌<◌}
use Rattle.std.specs.Prelude.{slice_index}
use Rattle.ffv1_range.specs.Transition.{IsKept}
use Rattle.codec_c.proofs.bits.codec_c_read_bits.Given as goal

abbrev pub invariant-loop-coded : goal.invariant-loop-coded
invariant-loop-coded l = (k : ℕ) → k < 16384 → IsKept l.reader.table (slice_index l.states k)
