use Rattle.std.proofs.Common.{subst, refl}
use Rattle.tl_model.specs.declared.journal.Act.TheVariants as act
use Rattle.render_core.specs.Board.{of_done}
use Rattle.edit_desk.specs.Desk.{DeskOf, Enters}
use Rattle.edit_desk.specs.Alone.{desk_of}
use Rattle.edit_desk.proofs.Calls.{makes_enters}
use Rattle.edit_desk.proofs.Own.{pays_owned}
use Rattle.edit_desk.proofs.alone.AloneDesk.end_export.Goals as goal

pub returns : goal.returns
returns g c =
    subst (λ (d : DeskOf _ _). Enters g.M.Media.library d (desk_of c.end_export.new.self) (act.End c.args.job.export c.args.ending) (of_done tt)) c.self.view_is
    (makes_enters g.M.Media.library 0 tt c.self.inside.board c.end_export.new.self (act.End c.args.job.export c.args.ending) (of_done tt) c.end_export.ensures.made)

pub invariant_of-self : goal.invariant_of-self
invariant_of-self g c =
    pays_owned g.M.Media.library c.self.inside.board c.end_export.new.self c.self.inside.media (record { pass = 0; act = act.End c.args.job.export c.args.ending; view = of_done }) tt refl c.end_export.ensures c.self.invariant
