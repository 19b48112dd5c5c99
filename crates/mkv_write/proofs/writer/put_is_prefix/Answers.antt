use Rattle.mkv_write.proofs.Files.{put_of-prefix}
use Rattle.mkv_write.proofs.writer.put_is_prefix.Goals as goal

pub returns : goal.returns
returns c = λ w more. put_of-prefix w more
