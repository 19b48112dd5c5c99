use Rattle.std.proofs.Common.{sym, subst}
use Rattle.render_core.specs.Board.{BoardOf}
use Rattle.edit_desk.specs.Alone.{at_board}
use Rattle.studio.specs.Known.{KeptOf}
use Rattle.studio.proofs.shared.Shared.make.Goals as goal

pub make-requires-clause-asks : goal.make-requires-clause-asks
make-requires-clause-asks g c =
    subst (λ (b : BoardOf g.row.M.Denot). (kept : KeptOf g.row.M.Denot) × g.C.Call.asks c.args.call (at_board c.args.by kept b)) (sym c.self.view_is) c.requires.asks
