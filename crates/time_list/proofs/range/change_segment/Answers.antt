use Rattle.std.proofs.Common.{None, ◌∙◌}
use Rattle.tl_model.specs.Cells.{cells_of}
use Rattle.tl_model.specs.declared.recipe.Side.TheVariants as side
use Rattle.tl_model.specs.declared.segment.Segment.{Segment}
use Rattle.time_list.specs.Changes.{reshaped}
use Rattle.time_list.proofs.Proposed.{in_segment_is, in_segment_line, IsChangeTo-as}
use Rattle.time_list.proofs.range.change_segment.Goals as goal

abbrev no_segment : Segment
no_segment = record { first = side.Black; len = 0; mix = None }

pub returns-in-Err : goal.returns-in-Err
returns-in-Err g c = in_segment_is (g.M.Media.library c.args.media.now) (reshaped c.args.how) c.args.items.now c.args.at c.in-Some.cut no_segment c.requires.pieces c.in-Some.ensures.0 c.in-Some.ensures.1 ∙ c.in-Err.ensures

pub returns-in-Ok-put_segment : goal.returns-in-Ok-put_segment
returns-in-Ok-put_segment g c = (
  in_segment_is (g.M.Media.library c.args.media.now) (reshaped c.args.how) c.args.items.now c.args.at c.in-Some.cut no_segment c.requires.pieces c.in-Some.ensures.0 c.in-Some.ensures.1 ∙ c.in-Ok.ensures.0,
  IsChangeTo-as c.args.items.now _ _ c.in-Ok-put_segment.change (in_segment_line (reshaped c.args.how) c.args.items.now c.args.at c.in-Some.cut no_segment (cells_of c.in-Ok.new) c.requires.pieces c.in-Some.ensures.0 c.in-Some.ensures.1 c.in-Ok.ensures.2) c.in-Ok-put_segment.ensures,
)
