use Rattle.std.proofs.Common.{refl, subst}
use Rattle.tl_model.specs.declared.journal.Act.TheVariants as act
use Rattle.render_core.specs.Board.{of_done}
use Rattle.edit_desk.specs.Desk.{DeskOf, Answers}
use Rattle.edit_desk.specs.Alone.{desk_of}
use Rattle.edit_desk.proofs.Calls.{does_answers}
use Rattle.edit_desk.proofs.Own.{does_owned}
use Rattle.edit_desk.proofs.alone.AloneDesk.skip.Goals as goal

pub returns : goal.returns
returns g c =
    subst (λ (d : DeskOf _ _). Answers g.M.Media.library d (desk_of c.skip.new.self) (record { act = act.Skip; view = of_done }) c.skip.result) c.self.view_is
    (does_answers g.M.Media.library 0 tt c.self.inside.board c.skip.new.self (record { pass = 0; act = act.Skip; view = of_done }) c.skip.result refl c.skip.ensures.done)

pub invariant_of-self : goal.invariant_of-self
invariant_of-self g c =
    does_owned g.M.Media.library c.self.inside.board c.skip.new.self c.self.inside.media (record { pass = 0; act = act.Skip; view = of_done }) c.skip.result refl c.skip.ensures.done c.self.invariant
