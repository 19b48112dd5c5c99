use Rattle.mkv_read.proofs.PlainClips.{plain-whole}
use Rattle.mkv_read.proofs.laws.plain_is_whole.Goals as goal

pub returns : goal.returns
returns c = λ bytes clip plain. plain-whole bytes clip plain
