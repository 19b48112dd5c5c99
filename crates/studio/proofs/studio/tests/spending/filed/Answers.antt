use Rattle.std.proofs.Common.{[], sym, ap, ◌∙◌, rules}
use Rattle.std.proofs.lemmas.List.{append-nil}
use Rattle.turn_lock.specs.Passes.{PassOf}
use Rattle.render_core.specs.Board.{BoardOf}
use Rattle.studio.proofs.studio.tests.spending.filed.Goals as goal

pub leave-requires-clause-added : goal.leave-requires-clause-added
leave-requires-clause-added g c =
    let seen = ap (λ (p : PassOf (BoardOf g.row.M.Denot)). p.seen) c.enter-held.ensures.taken.0 in
    ([], sym seen ∙ sym (append-nil c.enter-held.new.pass.seen), search rules)
