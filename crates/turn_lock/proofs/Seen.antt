-- What a pass's fields are, by what contracts see of it.
use Rattle.std.proofs.Common.{◌≡◌, ℕ, false, List, [], Option, ap, ◌∙◌, sym, subst}
use Rattle.atomic_table.specs.Seated.{TableId}
use Rattle.atomic_table.specs.Table.{Me}
use Rattle.turn_lock.specs.declared.view.View.{View}
use Rattle.turn_lock.specs.Passes.{PassOf, pass_of, slots_of, IsPass}
use Rattle.tl_model.specs.declared.journal.Entry.{Entry}
use Rattle.turn_lock.specs.Entries.{Adds}

module _ {B : Type 0} (number made : ℕ) (turn : TableId) (me : Me (Option B) (View B)) (pass : PassOf B) (is : IsPass number made me) (view_is : pass_of turn me.0 ≡ pass) where
  pub not_held : pass.holds ≡ false → me.0.holds ≡ false
  not_held free = ap (λ (p : PassOf B). p.holds) view_is ∙ free

  pub no_slots : pass.holds ≡ false → me.1 ≡ []
  no_slots free = is.slots ∙ ap slots_of (not_held free)

  pub number_is : (n : ℕ) → pass.number ≡ n → me.0.number ≡ n
  number_is n e = ap (λ (p : PassOf B). p.number) view_is ∙ e

-- what was added to what a pass had seen was added to what its view has seen
pub adds_at : {B : Type 0} (turn : TableId) (before after : View B) (pass : PassOf B) (log : List Entry) → pass_of turn before ≡ pass → after ≡ before → Adds pass.number pass.seen log → Adds after.number after.seen log
adds_at {B} turn before after pass log is same adds =
    subst (λ (v : View B). Adds v.number v.seen log) (sym same) (subst (λ (p : PassOf B). Adds p.number p.seen log) (sym is) adds)
