use Rattle.std.proofs.Common.{subst}
use Rattle.render_core.specs.Board.{of_show}
use Rattle.edit_desk.specs.Desk.{DeskOf, Shows}
use Rattle.edit_desk.specs.Alone.{desk_of}
use Rattle.edit_desk.proofs.Calls.{shows}
use Rattle.edit_desk.proofs.alone.AloneDesk.show.Goals as goal

pub returns : goal.returns
returns g c =
    subst (λ (d : DeskOf _ _). Shows g.M.Media.library d (desk_of c.show.new.self) c.args.n c.answer_show.result) c.self.view_is
    (shows g.M.Media.library 0 tt c.self.inside.board c.show.new.self c.self.inside.media c.args.n (of_show c.in-Ok.given) c.answer_show.result c.self.invariant.noted c.in-Ok.ensures.done.1 c.answer_show.ensures)
