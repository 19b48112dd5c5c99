use Rattle.std.proofs.Common.{◌≡◌, Some, None, refl, sym, ap, ◌∙◌}
use Rattle.std.proofs.lemmas.Result.{err_from_is_err_and}
use Rattle.ebml_core.specs.Listing.{ends, gives}
use Rattle.ebml_core.specs.Walking.{LiesAt}
use Rattle.mkv_elements.specs.declared.table.Kind.{Kind}
use Rattle.mkv_elements.specs.declared.table.Kind.TheVariants as kinds
use Rattle.mkv_read.specs.Elements.{elements}
use Rattle.mkv_read.proofs.Listing.{ends_is, gives_is, breaks_is, lies_is}
use Rattle.mkv_read.proofs.Visiting.{fails_at, goes_on_at, over_at, broken_at, at_no_level, at_level, other_element}
use Rattle.mkv_read.proofs.visit.+visit.Goals as goal

pub visit-returns-then-inside-eq0-clause-exact : goal.visit-returns-then-inside-eq0-clause-exact
visit-returns-then-inside-eq0-clause-exact t c = at_no_level _ _ _ _ _ _ _ c.if-inside-eq0.true

pub visit-returns-in-Ok-None-clause-exact : goal.visit-returns-in-Ok-None-clause-exact
visit-returns-in-Ok-None-clause-exact t c =
    let next : elements c.args.bytes.now c.loop-element.place c.args.to ≡ ends = ends_is _ _ _ _ _ c.element_at.ensures.exact c.in-Ok-None.is c.in-Ok-None.field-0-is in
    over_at _ _ _ _ _ _ _ next (c.loop-element.invariant.same ∙ at_level _ _ _ _ _ _ _ c.if-inside-eq0.false)

pub visit-returns-in-Ok-None-clause-lie : goal.visit-returns-in-Ok-None-clause-lie
visit-returns-in-Ok-None-clause-lie t c = c.loop-element.invariant.lie

pub visit-returns-in_err-visit_element-in-Ok-Some-clause-exact : goal.visit-returns-in_err-visit_element-in-Ok-Some-clause-exact
visit-returns-in_err-visit_element-in-Ok-Some-clause-exact t c =
    let p = err_from_is_err_and c.from_residual.result c.from_residual.ensures.1 in
    let next : elements c.args.bytes.now c.loop-element.place c.args.to ≡ gives c.in-Ok-Some.element (elements c.args.bytes.now c.in-Ok-Some.element.end c.args.to) = gives_is _ _ _ _ _ _ c.element_at.ensures.exact c.in-Ok-Some.is c.in-Ok-Some.field-0-is in
    rw (p.1, p.2) (fails_at _ _ _ _ _ _ _ _ _ next c.in_err-visit_element-in-Ok-Some.ensures.exact (c.loop-element.invariant.same ∙ at_level _ _ _ _ _ _ _ c.if-inside-eq0.false))

pub visit-loop-element-preserved : goal.visit-loop-element-preserved
visit-loop-element-preserved t c =
    let next : elements c.args.bytes.now c.loop-element.place c.args.to ≡ gives c.in-Ok-Some.element (elements c.args.bytes.now c.in-Ok-Some.element.end c.args.to) = gives_is _ _ _ _ _ _ c.element_at.ensures.exact c.in-Ok-Some.is c.in-Ok-Some.field-0-is in
    let lies : LiesAt c.loop-element.place c.args.to c.in-Ok-Some.element = lies_is _ _ _ _ _ c.element_at.ensures.lies c.in-Ok-Some.is c.in-Ok-Some.field-0-is in
    record {
      same = goes_on_at _ _ _ _ _ _ _ _ _ next c.in_ok-visit_element-in-Ok-Some.ensures.exact c.loop-element.invariant.same;
      order = lies.within;
      lie = λ before. c.in_ok-visit_element-in-Ok-Some.ensures.lie (c.loop-element.invariant.lie before);
    }

pub visit-returns-in-Err-clause-exact : goal.visit-returns-in-Err-clause-exact
visit-returns-in-Err-clause-exact t c =
    broken_at _ _ _ _ _ _ _ _ (breaks_is _ _ _ _ _ c.element_at.ensures.exact c.in-Err.is) (c.loop-element.invariant.same ∙ at_level _ _ _ _ _ _ _ c.if-inside-eq0.false)

pub visit_element-returns-in-Some-Unsigned-clause-exact : goal.visit_element-returns-in-Some-Unsigned-clause-exact
visit_element-returns-in-Some-Unsigned-clause-exact t c =
    other_element _ _ _ _ _ _ _ _ (Some kinds.Unsigned) c.kind_in-kind.ensures (c.in-Some-Unsigned.is ∙ ap (λ (k : Kind). Some k) (rw c.in-Some-Unsigned.is at c.in-Some-Unsigned.field-0-is)) (sym c.is_faulty.ensures ∙ c.if-is_faulty.false) (λ inside. refl) (λ inside. refl)

pub visit_element-returns-in-Some-Text-clause-exact : goal.visit_element-returns-in-Some-Text-clause-exact
visit_element-returns-in-Some-Text-clause-exact t c =
    other_element _ _ _ _ _ _ _ _ (Some kinds.Text) c.kind_in-kind.ensures (c.in-Some-Text.is ∙ ap (λ (k : Kind). Some k) (rw c.in-Some-Text.is at c.in-Some-Text.field-0-is)) (sym c.is_faulty.ensures ∙ c.if-is_faulty.false) (λ inside. refl) (λ inside. refl)

pub visit_element-returns-in-Some-Binary-clause-exact : goal.visit_element-returns-in-Some-Binary-clause-exact
visit_element-returns-in-Some-Binary-clause-exact t c =
    other_element _ _ _ _ _ _ _ _ (Some kinds.Binary) c.kind_in-kind.ensures (c.in-Some-Binary.is ∙ ap (λ (k : Kind). Some k) (rw c.in-Some-Binary.is at c.in-Some-Binary.field-0-is)) (sym c.is_faulty.ensures ∙ c.if-is_faulty.false) (λ inside. refl) (λ inside. refl)

pub visit_element-returns-in-None-clause-exact : goal.visit_element-returns-in-None-clause-exact
visit_element-returns-in-None-clause-exact t c =
    other_element _ _ _ _ _ _ _ _ None c.kind_in-kind.ensures c.in-None.is (sym c.is_faulty.ensures ∙ c.if-is_faulty.false) (λ inside. refl) (λ inside. refl)
