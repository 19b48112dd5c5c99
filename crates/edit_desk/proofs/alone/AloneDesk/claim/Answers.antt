use Rattle.std.proofs.Common.{subst}
use Rattle.edit_desk.specs.Desk.{DeskOf, Finds}
use Rattle.edit_desk.specs.Alone.{desk_of}
use Rattle.edit_desk.proofs.Calls.{claims_finds}
use Rattle.edit_desk.proofs.Own.{claims_owned}
use Rattle.edit_desk.proofs.alone.AloneDesk.claim.Goals as goal

pub returns-clause-found : goal.returns-clause-found
returns-clause-found g c =
    subst (λ (d : DeskOf _ _). Finds g.M.Media.library d (desk_of c.claim.new.self) c.claim.result) c.self.view_is
    (claims_finds g.M.Media.library 0 tt c.self.inside.board c.claim.new.self c.claim.result c.claim.ensures.done)

pub invariant_of-self : goal.invariant_of-self
invariant_of-self g c =
    claims_owned g.M.Media.library c.self.inside.board c.claim.new.self c.self.inside.media c.claim.result c.claim.ensures.done c.self.invariant
