use Rattle.std.proofs.Common.{◌≡◌, ◌+◌, ◌-◌, List, length, min, ap, sym, ◌∙◌, subst, arith}
use Rattle.tl_model.specs.Cells.{cells}
use Rattle.tl_model.specs.declared.segment.Segment.{Segment}
use Rattle.time_list.specs.Changes.{spliced, IsMade}
use Rattle.time_list.specs.Pieces.{IsLane}
use Rattle.time_list.proofs.Changed.{gone-less, counted, over_counted, over_segments, within_segments, segments-spliced, ArePieces-spliced, too_many_frames, too_many_segments, not_too_large}
use Rattle.time_list.proofs.change.make.Goals as goal
use Rattle.time_list.proofs.change.make.Goals.{Then-count-from, After-len}

total_is : (c : After-len) → c.saturating_add-count.result ≡ length (cells (spliced c.args.change.now.span c.args.change.now.put.items c.args.items.now))
total_is c =
    let put : c.frame_count.result ≡ min (length (cells c.args.change.now.put.items)) 18446744073709551615 = c.frame_count.ensures ∙ ap (λ (ss : List Segment). min (length (cells ss)) 18446744073709551615) c.deref.ensures.value in
    let sum : c.saturating_add-count.result ≡ min ((c.args.frames - c.frame_count-gone.result) + c.frame_count.result) 18446744073709551615 = omega (arith, c.saturating_add-count.ensures, c.from.ensures) in
    counted c.args.change.now.span c.args.change.now.put.items c.args.items.now c.args.frames c.frame_count-gone.result c.frame_count.result c.saturating_add-count.result c.requires.lane c.requires.span c.frame_count-gone.ensures put sum (omega (arith, c.from-2.ensures, c.if-count-from.false))

pub overflow_sub-from : goal.overflow_sub-from
overflow_sub-from c =
    let less = gone-less c.args.change.now.span c.args.items.now c.requires.span in
    let same = c.requires.lane.counted in
    omega (arith, c.frame_count-gone.ensures, c.from.ensures)

pub returns-then-count-from : goal.returns-then-count-from
returns-then-count-from c =
    let put : c.frame_count.result ≡ min (length (cells c.args.change.now.put.items)) 18446744073709551615 = c.frame_count.ensures ∙ ap (λ (ss : List Segment). min (length (cells ss)) 18446744073709551615) c.deref.ensures.value in
    let sum : c.saturating_add-count.result ≡ min ((c.args.frames - c.frame_count-gone.result) + c.frame_count.result) 18446744073709551615 = omega (arith, c.saturating_add-count.ensures, c.from.ensures) in
    too_many_frames (cells (spliced c.args.change.now.span c.args.change.now.put.items c.args.items.now))
    (over_counted c.args.change.now.span c.args.change.now.put.items c.args.items.now c.args.frames c.frame_count-gone.result c.frame_count.result c.saturating_add-count.result c.requires.lane c.requires.span c.frame_count-gone.ensures put sum (omega (arith, c.from-2.ensures, c.if-count-from.true)))

pub returns-then-len-kept : goal.returns-then-len-kept
returns-then-len-kept c =
    let total = total_is (goal.at.returns-then-len-kept c).After-len in
    too_many_segments (cells (spliced c.args.change.now.span c.args.change.now.put.items c.args.items.now))
    (omega (arith, c.from-2.ensures, c.if-count-from.false))
    (over_segments c.args.change.now.span c.args.change.now.put.items c.args.items.now c.requires.lane.pieces c.requires.put c.requires.span c.requires.lane.few (omega (arith, c.len.ensures, c.if-len-kept.true)))

pub exchange-requires-clause-new : goal.exchange-requires-clause-new
exchange-requires-clause-new c =
    let total = total_is (goal.at.exchange-requires-clause-new c).After-len in
    let put = c.deref-2.ensures.value in
    subst (λ (ss : List Segment). IsLane (spliced c.args.change.now.span ss c.args.items.now) c.saturating_add-count.result) (sym put)
    (record {
      pieces = ArePieces-spliced c.args.change.now.span c.args.change.now.put.items c.args.items.now c.requires.lane.pieces c.requires.put;
      counted = total;
      short = omega (arith, c.from-2.ensures, c.if-count-from.false);
      few = within_segments c.args.change.now.span c.args.change.now.put.items c.args.items.now c.requires.span c.requires.lane.few (omega (arith, c.len.ensures, c.if-len-kept.false));
    })

pub returns-in-Ok : goal.returns-in-Ok
returns-in-Ok c =
    let total = total_is (goal.at.returns-in-Ok c).After-len in
    let put = c.deref-2.ensures.value in
    let items = c.args.items.now in
    let span = c.args.change.now.span in
    let count = segments-spliced span c.args.change.now.put.items items c.requires.lane.pieces c.requires.put in
    let few = within_segments span c.args.change.now.put.items items c.requires.span c.requires.lane.few (omega (arith, c.len.ensures, c.if-len-kept.false)) in (
      not_too_large (cells (spliced span c.args.change.now.put.items items)) (omega (arith, c.from-2.ensures, c.if-count-from.false)) (omega arith),
      subst (λ (ss : List Segment). IsMade items (spliced span ss items) c.in-Ok.made) put c.in-Ok.ensures,
    )
