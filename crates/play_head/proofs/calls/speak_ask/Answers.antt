use Rattle.play_head.specs.Told.{ask_line}
use Rattle.play_head.proofs.Speaking.{listed, ask_line-listed}
use Rattle.play_head.proofs.calls.speak_ask.Goals as goal

pub speak-requires : goal.speak-requires
speak-requires g c = listed c.in-Ok.line (ask_line c.args.told) c.in-Ok.ensures (ask_line-listed c.args.told)
