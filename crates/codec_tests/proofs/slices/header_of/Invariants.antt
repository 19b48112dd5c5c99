use Rattle.ffv1_range.specs.Transition.{AllKept}
use Rattle.codec_tests.proofs.slices.header_of.Given as goal

abbrev pub invariant-loop-number : goal.invariant-loop-number
invariant-loop-number l = AllKept l.writer.table l.set
