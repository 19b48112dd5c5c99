use Rattle.ffv1_frame.proofs.PictureBack.{read_back}
use Rattle.ffv1_frame.proofs.written.written_is_read_back.Goals as goal

pub returns : goal.returns
returns c = read_back c.numbers_read_back.ensures.big
