use Rattle.std.proofs.Common.{subst}
use Rattle.edit_desk.specs.Desk.{DeskOf, Takes}
use Rattle.edit_desk.specs.Alone.{desk_of}
use Rattle.edit_desk.proofs.Calls.{takes_takes}
use Rattle.edit_desk.proofs.Own.{takes_owned}
use Rattle.edit_desk.proofs.alone.AloneDesk.take_export.Goals as goal

pub returns-clause-found : goal.returns-clause-found
returns-clause-found g c =
    subst (λ (d : DeskOf _ _). Takes g.M.Media.library d (desk_of c.take_export.new.self) c.take_export.result) c.self.view_is
    (takes_takes g.M.Media.library 0 tt c.self.inside.board c.take_export.new.self c.take_export.result c.take_export.ensures.done)

pub invariant_of-self : goal.invariant_of-self
invariant_of-self g c =
    takes_owned g.M.Media.library c.self.inside.board c.take_export.new.self c.self.inside.media c.take_export.result c.take_export.ensures.done c.self.invariant
