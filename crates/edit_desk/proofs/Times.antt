-- What was so stays so, whatever a caller hears later.
use Rattle.std.proofs.Common.{List, [], ◌++◌, refl, sym, ap, subst, ◌∙◌}
use Rattle.std.proofs.lemmas.List.{append-nil, append_assoc}
use Rattle.tl_model.specs.Media.{Library}
use Rattle.tl_model.specs.declared.journal.Entry.{Entry}
use Rattle.render_core.specs.Calls.{CallOf}
use Rattle.render_core.specs.State.{State}
use Rattle.edit_desk.specs.Desk.{FixedOf, DeskOf, Hears, state_of, heard}
use Rattle.edit_desk.specs.Was.{Was}

module _ {M K F : Type 0} (library : M → Library F) where
  -- it holds now, after all that was heard
  pub was_now : (d : DeskOf M K) (fact : State → Type 0) → fact (state_of library d) → Was library d (heard library d) fact
  was_now d fact h = record { front = d.seen; rest = []; seen = sym (append-nil d.seen); heard = refl; holds = h }

  pub was_hears : (old new : DeskOf M K) (calls more : List (CallOf F)) (fact : State → Type 0) → Hears library old new more → Was library old calls fact → Was library new calls fact
  was_hears old new calls more fact hears h =
      record {
        front = h.front;
        rest = h.rest ++ hears.more;
        seen = hears.seen ∙ ap (λ (es : List Entry). es ++ hears.more) h.seen ∙ append_assoc h.front h.rest hears.more;
        heard = ap (λ (f : FixedOf M K). heard library (record { fixed = f; seen = h.front })) hears.fixed ∙ h.heard;
        holds = subst (λ (f : FixedOf M K). fact (state_of library (record { fixed = f; seen = h.front }))) (sym hears.fixed) h.holds;
      }
