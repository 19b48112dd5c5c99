use Rattle.std.proofs.Common.{rules, Option, ap, ◌∙◌}
use Rattle.atomic_table.specs.Table.{Me}
use Rattle.turn_lock.specs.declared.view.View.{View}
use Rattle.turn_lock.proofs.Keeps.{compares_ok}
use Rattle.turn_lock.proofs.Passing.{splits_ok}
use Rattle.turn_lock.proofs.Seen.{not_held, number_is}
use Rattle.turn_lock.proofs.turn.Turn.split.Goals as goal

pub split_seat-seat-requires : goal.split_seat-seat-requires
split_seat-seat-requires g c = (
  search rules,
  search rules,
  splits_ok _ _ _ _ c.pass.invariant.named (not_held _ _ _ _ _ c.pass.invariant c.pass.view_is c.requires.free) (number_is _ _ _ _ _ c.pass.invariant c.pass.view_is _ c.requires.main),
)

pub load-requires : goal.load-requires
load-requires g c = (search rules, search rules, compares_ok _ _ g.met.B.Journaled.fronts_meet _ _ _ (ap (λ (m : Me (Option g.row.B.Denot) (View g.row.B.Denot)). m.0.named) c.split_seat-seat.ensures.4 ∙ c.pass.invariant.named))
