use Rattle.play_head.specs.Giving.{play_line}
use Rattle.play_head.proofs.Giving.{play_line-listed}
use Rattle.play_head.proofs.Speaking.{listed}
use Rattle.play_head.proofs.pictures.speak_play.Goals as goal

pub speak-requires : goal.speak-requires
speak-requires g c = listed c.in-Ok.line (play_line c.args.n c.args.told.now) c.in-Ok.ensures (play_line-listed c.args.n c.args.told.now)
