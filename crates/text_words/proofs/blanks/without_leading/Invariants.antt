use Rattle.std.proofs.Common.{◌≡◌, length}
use Rattle.text_words.specs.Blanks.{without_leading}
use Rattle.text_words.proofs.blanks.without_leading.Given as goal

abbrev pub invariant-loop-kept : goal.invariant-loop-kept
invariant-loop-kept l = without_leading l.blanks l.kept ≡ without_leading l.fn.blanks l.fn.text

abbrev pub decreases-loop-kept : goal.decreases-loop-kept
decreases-loop-kept l = length l.kept
