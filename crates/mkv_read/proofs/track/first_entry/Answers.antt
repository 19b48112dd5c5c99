use Rattle.std.proofs.Common.{◌≡◌, sym, ◌∙◌}
use Rattle.ebml_core.specs.Listing.{ends, breaks, gives}
use Rattle.ebml_core.specs.Walking.{LiesAt}
use Rattle.mkv_read.specs.Elements.{elements}
use Rattle.mkv_read.proofs.Listing.{first_where-here, first_where-past, first_where-over, first_where-broken, ends_is, gives_is, breaks_is, lies_is}
use Rattle.mkv_read.proofs.track.first_entry.Goals as goal

pub returns-in-Ok-None-clause-exact : goal.returns-in-Ok-None-clause-exact
returns-in-Ok-None-clause-exact c =
    let next : elements c.args.bytes.now c.loop-element.place c.args.tracks.end ≡ ends = ends_is _ _ _ _ _ c.element_at.ensures.exact c.in-Ok-None.is c.in-Ok-None.field-0-is in
    sym (first_where-over _ _ next) ∙ c.loop-element.invariant.same

pub returns-then-is_wanted-clause-exact : goal.returns-then-is_wanted-clause-exact
returns-then-is_wanted-clause-exact c =
    let next : elements c.args.bytes.now c.loop-element.place c.args.tracks.end ≡ gives c.in-Ok-Some.element (elements c.args.bytes.now c.in-Ok-Some.element.end c.args.tracks.end) = gives_is _ _ _ _ _ _ c.element_at.ensures.exact c.in-Ok-Some.is c.in-Ok-Some.field-0-is in
    sym (first_where-here _ _ _ _ _ next (sym c.is_wanted.ensures ∙ c.if-is_wanted.true)) ∙ c.loop-element.invariant.same

pub loop-element-preserved : goal.loop-element-preserved
loop-element-preserved c =
    let next : elements c.args.bytes.now c.loop-element.place c.args.tracks.end ≡ gives c.in-Ok-Some.element (elements c.args.bytes.now c.in-Ok-Some.element.end c.args.tracks.end) = gives_is _ _ _ _ _ _ c.element_at.ensures.exact c.in-Ok-Some.is c.in-Ok-Some.field-0-is in
    let lies : LiesAt c.loop-element.place c.args.tracks.end c.in-Ok-Some.element = lies_is _ _ _ _ _ c.element_at.ensures.lies c.in-Ok-Some.is c.in-Ok-Some.field-0-is in
    record {
      same = sym (first_where-past _ _ _ _ _ next (sym c.is_wanted.ensures ∙ c.if-is_wanted.false)) ∙ c.loop-element.invariant.same;
      order = lies.within;
    }

pub returns-in-Err-clause-exact : goal.returns-in-Err-clause-exact
returns-in-Err-clause-exact c =
    let next : elements c.args.bytes.now c.loop-element.place c.args.tracks.end ≡ breaks c.in-Err.field-0.at = breaks_is _ _ _ _ _ c.element_at.ensures.exact c.in-Err.is in
    sym (first_where-broken _ _ _ next) ∙ c.loop-element.invariant.same
