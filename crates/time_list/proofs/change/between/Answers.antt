use Rattle.std.proofs.Common.{List, ◌++◌, drop, refl, ap, ◌∙◌, arith}
use Rattle.tl_model.specs.declared.segment.Segment.{Segment}
use Rattle.time_list.specs.Pieces.{fronts, backs}
use Rattle.time_list.proofs.Changed.{between_is}
use Rattle.time_list.proofs.change.between.Goals as goal

pub returns : goal.returns
returns c =
    let before = fronts (drop c.args.first.index c.args.items.now) c.args.first.offset in
    let after = backs (drop c.args.last.index c.args.items.now) c.args.last.offset in
    let put =
    c.in_ok-to.ensures.next
    ∙ ap (λ (ss : List Segment). ss ++ after) (c.in_ok-extend_from_slice.ensures.items ∙ ap (λ (ss : List Segment). ss ++ c.args.new.now) (c.in_ok-push_front.ensures ∙ ap (λ (ss : List Segment). ss ++ before) c.in_ok-put.ensures.items)) in
    let order = c.requires.order in
    between_is c.args.items.now c.args.new.now c.args.first c.args.last _ c.requires.pieces c.requires.new c.requires.first c.requires.last refl refl (omega (arith, c.in_ok-to.ensures.order)) c.in_ok-to.ensures.within put
