use Rattle.std.proofs.Common.{subst, refl}
use Rattle.tl_model.specs.declared.journal.Act.TheVariants as act
use Rattle.render_core.specs.Board.{of_release}
use Rattle.edit_desk.specs.Desk.{DeskOf, Enters}
use Rattle.edit_desk.specs.Alone.{desk_of}
use Rattle.edit_desk.proofs.Calls.{makes_enters}
use Rattle.edit_desk.proofs.Own.{pays_owned}
use Rattle.edit_desk.proofs.alone.AloneDesk.release.Goals as goal

pub returns : goal.returns
returns g c =
    subst (λ (d : DeskOf _ _). Enters g.M.Media.library d (desk_of c.release.new.self) (act.Release c.args.claim.job) (of_release c.release.result)) c.self.view_is
    (makes_enters g.M.Media.library 0 tt c.self.inside.board c.release.new.self (act.Release c.args.claim.job) (of_release c.release.result) c.release.ensures.made)

pub invariant_of-self : goal.invariant_of-self
invariant_of-self g c =
    pays_owned g.M.Media.library c.self.inside.board c.release.new.self c.self.inside.media (record { pass = 0; act = act.Release c.args.claim.job; view = of_release }) c.release.result refl c.release.ensures c.self.invariant
