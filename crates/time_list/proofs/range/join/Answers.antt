use Rattle.std.proofs.Common.{◌<◌, None, ◌∙◌, arith}
use Rattle.tl_model.specs.Cells.{cells_of}
use Rattle.tl_model.specs.declared.recipe.Side.TheVariants as side
use Rattle.tl_model.specs.declared.segment.Segment.{Segment}
use Rattle.time_list.proofs.Proposed.{joined_inside, joined_first, joined_is, joined_line, IsChangeTo-as}
use Rattle.time_list.proofs.range.join.Goals as goal

abbrev no_segment : Segment
no_segment = record { first = side.Black; len = 0; mix = None }

pub returns-then-cut-gt0 : goal.returns-then-cut-gt0
returns-then-cut-gt0 g c = joined_inside (g.M.Media.library c.args.media.now) c.args.items.now c.args.at c.args.len c.in-Some.cut no_segment c.in-Some.ensures.0 c.in-Some.ensures.1 c.if-cut-gt0.true

pub returns-then-cut-eq0 : goal.returns-then-cut-eq0
returns-then-cut-eq0 g c = joined_first (g.M.Media.library c.args.media.now) c.args.items.now c.args.at c.args.len c.in-Some.cut c.in-Some.ensures.0 c.in-Some.ensures.1 c.if-cut-gt0.false c.if-cut-eq0.true

pub returns-in-Err : goal.returns-in-Err
returns-in-Err g c =
    let some : 0 < c.in-Some.cut.index = omega (arith, c.if-cut-eq0.false) in
    joined_is (g.M.Media.library c.args.media.now) c.args.items.now c.args.at c.args.len c.in-Some.cut no_segment no_segment c.requires c.in-Some.ensures.0 c.in-Some.ensures.1 c.if-cut-gt0.false some ∙ c.in-Err.ensures

pub returns-in-Ok-put_segment : goal.returns-in-Ok-put_segment
returns-in-Ok-put_segment g c =
    let some : 0 < c.in-Some.cut.index = omega (arith, c.if-cut-eq0.false) in (
      joined_is (g.M.Media.library c.args.media.now) c.args.items.now c.args.at c.args.len c.in-Some.cut no_segment no_segment c.requires c.in-Some.ensures.0 c.in-Some.ensures.1 c.if-cut-gt0.false some ∙ c.in-Ok.ensures.0,
      IsChangeTo-as c.args.items.now _ _ c.in-Ok-put_segment.change (joined_line c.args.items.now c.args.at c.args.len c.in-Some.cut no_segment no_segment (cells_of c.in-Ok.new) c.requires c.in-Some.ensures.0 c.in-Some.ensures.1 some c.in-Ok.ensures.2) c.in-Ok-put_segment.ensures,
    )
