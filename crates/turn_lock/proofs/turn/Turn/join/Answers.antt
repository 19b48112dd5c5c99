use Rattle.std.proofs.Common.{rules, Option, sym, ap, ◌∙◌}
use Rattle.atomic_table.specs.Table.{Me}
use Rattle.turn_lock.specs.declared.view.View.{View}
use Rattle.turn_lock.proofs.Keeps.{compares_ok}
use Rattle.turn_lock.proofs.Passing.{joins_ok}
use Rattle.turn_lock.proofs.Fronts.{fronts_after}
use Rattle.turn_lock.proofs.Seen.{not_held}
use Rattle.turn_lock.proofs.turn.Turn.join.Goals as goal

pub join_seat-requires : goal.join_seat-requires
join_seat-requires g c = (
  search rules,
  search rules,
  search rules,
  search rules,
  joins_ok _ _ _ _ _ _ c.pass.invariant.named (not_held _ _ _ _ _ c.pass.invariant c.pass.view_is c.requires.free.0) c.other.invariant.named (not_held _ _ _ _ _ c.other.invariant c.other.view_is c.requires.free.1)
      (λ zero. c.requires.not_main (ap (λ p. p.number) (sym c.other.view_is) ∙ zero)),
)

pub load-requires : goal.load-requires
load-requires g c = (search rules, search rules, compares_ok _ _ g.met.B.Journaled.fronts_meet _ _ _ (ap (λ (m : Me (Option g.row.B.Denot) (View g.row.B.Denot)). m.0.named) c.join_seat.ensures.2 ∙ c.pass.invariant.named))

pub returns-clause-extends : goal.returns-clause-extends
returns-clause-extends g c =
    let e = c.join_seat.ensures.2 in
    fronts_after _ _ _ _ _ _ _ (ap (λ (m : Me (Option g.row.B.Denot) (View g.row.B.Denot)). m.0.seen) e) (ap (λ (m : Me (Option g.row.B.Denot) (View g.row.B.Denot)). m.0.behind) e) (ap (λ (m : Me (Option g.row.B.Denot) (View g.row.B.Denot)). m.0.seen) c.load.ensures.2.0) (ap (λ p. p.seen) c.pass.view_is) (ap (λ p. p.seen) c.other.view_is) c.load.ensures.2.1
