use Rattle.std.proofs.Common.{◌≡◌, length}
use Rattle.test_runs.proofs.words.words_of.Given as goal

abbrev pub invariant-loop-word : goal.invariant-loop-word
invariant-loop-word l = length l.made.items ≡ l.word-index
