use Rattle.std.proofs.Common.{◌≡◌, length}
use Rattle.text_words.specs.Blanks.{without_trailing}
use Rattle.text_words.proofs.blanks.without_trailing.Given as goal

abbrev pub invariant-loop-kept : goal.invariant-loop-kept
invariant-loop-kept l = without_trailing l.blanks l.kept ≡ without_trailing l.fn.blanks l.fn.text

abbrev pub decreases-loop-kept : goal.decreases-loop-kept
decreases-loop-kept l = length l.kept
