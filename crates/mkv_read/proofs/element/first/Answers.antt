use Rattle.std.proofs.Common.{◌≡◌, sym, ◌∙◌}
use Rattle.std.proofs.lemmas.Bool.{eq-eqb, ne_eqb}
use Rattle.ebml_core.specs.Listing.{ends, breaks, gives}
use Rattle.ebml_core.specs.Walking.{LiesAt}
use Rattle.mkv_read.specs.Elements.{elements}
use Rattle.mkv_read.proofs.Listing.{first_where-here, first_where-past, first_where-over, first_where-broken, ends_is, gives_is, breaks_is, lies_is}
use Rattle.mkv_read.proofs.element.first.Goals as goal

pub returns-in-Ok-None-clause-exact : goal.returns-in-Ok-None-clause-exact
returns-in-Ok-None-clause-exact c =
    let next : elements c.args.bytes.now c.loop-element.place c.args.to ≡ ends = ends_is _ _ _ _ _ c.element_at.ensures.exact c.in-Ok-None.is c.in-Ok-None.field-0-is in
    sym (first_where-over _ _ next) ∙ c.loop-element.invariant.same

pub returns-then-element-id-clause-exact : goal.returns-then-element-id-clause-exact
returns-then-element-id-clause-exact c =
    let next : elements c.args.bytes.now c.loop-element.place c.args.to ≡ gives c.in-Ok-Some.element (elements c.args.bytes.now c.in-Ok-Some.element.end c.args.to) = gives_is _ _ _ _ _ _ c.element_at.ensures.exact c.in-Ok-Some.is c.in-Ok-Some.field-0-is in
    sym (first_where-here _ _ _ _ _ next (eq-eqb _ _ c.if-element-id.true)) ∙ c.loop-element.invariant.same

pub loop-element-preserved : goal.loop-element-preserved
loop-element-preserved c =
    let next : elements c.args.bytes.now c.loop-element.place c.args.to ≡ gives c.in-Ok-Some.element (elements c.args.bytes.now c.in-Ok-Some.element.end c.args.to) = gives_is _ _ _ _ _ _ c.element_at.ensures.exact c.in-Ok-Some.is c.in-Ok-Some.field-0-is in
    let lies : LiesAt c.loop-element.place c.args.to c.in-Ok-Some.element = lies_is _ _ _ _ _ c.element_at.ensures.lies c.in-Ok-Some.is c.in-Ok-Some.field-0-is in
    record {
      same = sym (first_where-past _ _ _ _ _ next (ne_eqb _ _ c.if-element-id.false)) ∙ c.loop-element.invariant.same;
      order = lies.within;
    }

pub returns-in-Err-clause-exact : goal.returns-in-Err-clause-exact
returns-in-Err-clause-exact c =
    let next : elements c.args.bytes.now c.loop-element.place c.args.to ≡ breaks c.in-Err.field-0.at = breaks_is _ _ _ _ _ c.element_at.ensures.exact c.in-Err.is in
    sym (first_where-broken _ _ _ next) ∙ c.loop-element.invariant.same
