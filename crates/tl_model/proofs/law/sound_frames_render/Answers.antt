use Rattle.tl_model.proofs.Renders.{line-renders}
use Rattle.tl_model.proofs.law.sound_frames_render.Goals as goal

pub returns : goal.returns
returns g c = λ line n recipe sound is. line-renders (g.M.Media.library c.args.media.now) line n recipe sound.shown is
