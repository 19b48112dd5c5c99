use Rattle.mkv_read.proofs.PlainClips.{same_clips}
use Rattle.mkv_read.proofs.laws.one_clip.Goals as goal

pub returns : goal.returns
returns c = λ bytes a b ha hb. same_clips bytes a b ha hb
