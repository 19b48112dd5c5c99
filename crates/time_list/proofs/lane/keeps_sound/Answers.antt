use Rattle.time_list.proofs.Sound.{apply_keeps}
use Rattle.time_list.proofs.lane.keeps_sound.Goals as goal

pub returns : goal.returns
returns g c = λ line after sound given. apply_keeps (g.M.Media.library c.args.media.now) c.args.edit.now line after sound c.requires given
