use Rattle.render_core.proofs.Calls.{calls_entered}
use Rattle.render_core.proofs.board.Board.calls_are_entered.Goals as goal

pub returns : goal.returns
returns g c = λ old new calls runs. calls_entered g.M.Media.library old new calls runs
