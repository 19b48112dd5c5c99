use Rattle.ffv1_range.specs.Transition.{IsKept}
use Rattle.codec_tests.proofs.range.written_bits.Given as goal

abbrev pub invariant-loop-bit : goal.invariant-loop-bit
invariant-loop-bit l = IsKept l.writer.table 128
