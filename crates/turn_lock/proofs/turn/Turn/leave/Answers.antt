use Rattle.std.proofs.Common.{rules, ◌∷◌, Some, List, ℕ, Option, ap, ◌∙◌}
use Rattle.atomic_table.specs.Table.{Me, rest}
use Rattle.turn_lock.specs.declared.view.View.{View}
use Rattle.turn_lock.specs.Passes.{PassOf, slots_of}
use Rattle.turn_lock.proofs.Keeps.{leaves_ok}
use Rattle.turn_lock.proofs.Seen.{adds_at}
use Rattle.turn_lock.proofs.turn.Turn.leave.Goals as goal

pub store-requires : goal.store-requires
store-requires g c =
    let B : Type 0 = g.row.B.Denot in
    let same = c.exchange.ensures.3 in
    let held = ap (λ (p : PassOf B). p.holds) c.pass.view_is ∙ c.requires.entered.0 in (
      search rules,
      search rules,
      leaves_ok _ _ _ _ _ c.args.held.value _ (ap (λ (m : Me (Option B) (View B)). m.0.named) same ∙ c.pass.invariant.named) (ap (λ (m : Me (Option B) (View B)). m.0.holds) same ∙ held)
          (ap (λ (m : Me (Option B) (View B)). m.1) same ∙ ap (λ (l : List (ℕ × Option B)). (0, Some c.args.held.value) ∷ rest l) (c.pass.invariant.slots ∙ ap slots_of held))
          (adds_at _ _ _ _ _ c.pass.view_is (ap (λ (m : Me (Option B) (View B)). m.0) same) c.requires.added) (search rules) c.len-len.ensures.few c.len-len.ensures.meets (search rules),
    )
