use Rattle.std.proofs.Common.{◌+◌}
use Rattle.text_words.proofs.numbers.+put_number.Given as goal

abbrev pub decreases-put_number : goal.decreases-put_number
decreases-put_number l = l.least + l.number
