use Rattle.play_head.specs.Told.{edit_line}
use Rattle.play_head.proofs.Speaking.{listed, edit_line-listed}
use Rattle.play_head.proofs.calls.speak_edit.Goals as goal

pub speak-requires : goal.speak-requires
speak-requires g c = listed c.in-Ok.line (edit_line c.args.told) c.in-Ok.ensures (edit_line-listed c.args.told)
