use Rattle.play_head.proofs.Marking.{worked-listed}
use Rattle.play_head.proofs.working.say_worked.Goals as goal

pub speak-requires : goal.speak-requires
speak-requires g c = worked-listed c.args.worked.filed
