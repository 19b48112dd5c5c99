use Rattle.play_head.proofs.Naming.{IsAt}
use Rattle.play_head.proofs.edits.clip_number.Given as goal

abbrev pub invariant-loop-other : goal.invariant-loop-other
invariant-loop-other l = IsAt l.other-items l.name l.number l.other-index
