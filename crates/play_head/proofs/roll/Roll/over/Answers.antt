use Rattle.play_head.proofs.Rolls.{roll_calls-over}
use Rattle.play_head.proofs.roll.Roll.over.Goals as goal

pub returns : goal.returns
returns c = roll_calls-over c.args.first c.args.len c.min.result c.min.ensures
