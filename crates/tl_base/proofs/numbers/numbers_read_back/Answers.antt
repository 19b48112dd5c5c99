use Rattle.byteorder.specs.Numbers.{big_number-reads_back, little_number-reads_back}
use Rattle.tl_base.proofs.numbers.numbers_read_back.Goals as goal

pub returns-clause-big : goal.returns-clause-big
returns-clause-big c = big_number-reads_back

pub returns-clause-little : goal.returns-clause-little
returns-clause-little c = little_number-reads_back
