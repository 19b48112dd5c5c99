use Rattle.mkv_write.proofs.Back.{written_back}
use Rattle.mkv_write.proofs.law.written_is_read_back.Goals as goal

pub returns : goal.returns
returns c = λ w limits. written_back w limits
