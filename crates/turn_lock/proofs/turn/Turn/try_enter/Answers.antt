use Rattle.std.proofs.Common.{rules, ◌∷◌, Some, Option, sym, ap, ◌∙◌}
use Rattle.atomic_table.specs.Table.{Me, rest}
use Rattle.turn_lock.specs.declared.view.View.{View}
use Rattle.turn_lock.proofs.Keeps.{takes_ok}
use Rattle.turn_lock.proofs.Seen.{not_held, no_slots}
use Rattle.turn_lock.proofs.turn.Turn.try_enter.Goals as goal

pub fetch_or-found-requires : goal.fetch_or-found-requires
fetch_or-found-requires g c = (
  search rules,
  search rules,
  takes_ok _ _ g.met.B.Journaled.fronts_meet _ _ _ c.pass.invariant.named (not_held _ _ _ _ _ c.pass.invariant c.pass.view_is c.requires.free) (no_slots _ _ _ _ _ c.pass.invariant c.pass.view_is c.requires.free),
)

pub exchange-requires : goal.exchange-requires
exchange-requires g c =
    let told = c.fetch_or-found.ensures.2.0 (search rules) in
    let slot = ap (λ (m : Me (Option g.row.B.Denot) (View g.row.B.Denot)). m.1) told.1 in
    (search rules, (Some told.0, slot ∙ sym (ap (λ l. (0, Some told.0) ∷ rest l) slot)))
