use Rattle.std.proofs.Common.{refl, subst}
use Rattle.tl_model.specs.declared.journal.Act.TheVariants as act
use Rattle.render_core.specs.Board.{of_edit}
use Rattle.edit_desk.specs.Desk.{DeskOf, Answers}
use Rattle.edit_desk.specs.Alone.{desk_of}
use Rattle.edit_desk.proofs.Calls.{does_answers}
use Rattle.edit_desk.proofs.Own.{does_owned}
use Rattle.edit_desk.proofs.alone.AloneDesk.edit.Goals as goal

pub returns : goal.returns
returns g c =
    subst (λ (d : DeskOf _ _). Answers g.M.Media.library d (desk_of c.edit.new.self) (record { act = act.Edit c.args.edit.now; view = of_edit }) c.edit.result) c.self.view_is
    (does_answers g.M.Media.library 0 tt c.self.inside.board c.edit.new.self (record { pass = 0; act = act.Edit c.args.edit.now; view = of_edit }) c.edit.result refl c.edit.ensures.done)

pub invariant_of-self : goal.invariant_of-self
invariant_of-self g c =
    does_owned g.M.Media.library c.self.inside.board c.edit.new.self c.self.inside.media (record { pass = 0; act = act.Edit c.args.edit.now; view = of_edit }) c.edit.result refl c.edit.ensures.done c.self.invariant
