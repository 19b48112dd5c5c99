use Rattle.ffv1_range.specs.Transition.{IsKept}
use Rattle.codec_tests.proofs.range.written.Given as goal

abbrev pub invariant-loop-i : goal.invariant-loop-i
invariant-loop-i l = IsKept l.writer.table 128
