use Rattle.std.proofs.Common.{subst}
use Rattle.edit_desk.specs.Desk.{DeskOf, Files}
use Rattle.edit_desk.specs.Alone.{desk_of}
use Rattle.edit_desk.proofs.Calls.{files}
use Rattle.edit_desk.proofs.Own.{files_owned}
use Rattle.edit_desk.proofs.alone.AloneDesk.file.Goals as goal

pub returns-clause-told : goal.returns-clause-told
returns-clause-told g c =
    subst (λ (d : DeskOf _ _). Files g.M.Media.library d (desk_of c.file.new.self) (c.args.claim, c.args.rendered) c.file.result) c.self.view_is
    (files g.M.Media.library 0 tt c.self.inside.board c.file.new.self c.args.claim c.args.rendered c.file.result c.file.ensures.done)

pub invariant_of-self : goal.invariant_of-self
invariant_of-self g c =
    files_owned g.M.Media.library c.self.inside.board c.file.new.self c.self.inside.media c.args.claim c.args.rendered c.file.result c.file.ensures.done c.self.invariant
