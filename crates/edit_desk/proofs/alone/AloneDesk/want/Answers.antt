use Rattle.std.proofs.Common.{refl, subst}
use Rattle.tl_model.specs.declared.journal.Act.TheVariants as act
use Rattle.render_core.specs.Board.{of_want}
use Rattle.edit_desk.specs.Desk.{DeskOf, Answers}
use Rattle.edit_desk.specs.Alone.{desk_of}
use Rattle.edit_desk.proofs.Calls.{does_answers}
use Rattle.edit_desk.proofs.Own.{does_owned}
use Rattle.edit_desk.proofs.alone.AloneDesk.want.Goals as goal

pub returns : goal.returns
returns g c =
    subst (λ (d : DeskOf _ _). Answers g.M.Media.library d (desk_of c.want.new.self) (record { act = act.Want c.args.first c.args.len; view = of_want }) c.want.result) c.self.view_is
    (does_answers g.M.Media.library 0 tt c.self.inside.board c.want.new.self (record { pass = 0; act = act.Want c.args.first c.args.len; view = of_want }) c.want.result refl c.want.ensures.done)

pub invariant_of-self : goal.invariant_of-self
invariant_of-self g c =
    does_owned g.M.Media.library c.self.inside.board c.want.new.self c.self.inside.media (record { pass = 0; act = act.Want c.args.first c.args.len; view = of_want }) c.want.result refl c.want.ensures.done c.self.invariant
