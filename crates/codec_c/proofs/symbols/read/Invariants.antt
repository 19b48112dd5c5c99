use Rattle.std.proofs.Common.{◌≡◌, length, All}
use Rattle.ffv1_range.specs.Transition.{AllKept}
use Rattle.codec_c.proofs.symbols.read.Given as goal

abbrev pub invariant-loop-coded : goal.invariant-loop-coded
invariant-loop-coded l = All (λ states. AllKept l.reader.table states) l.sets × (length l.sets ≡ 512)
