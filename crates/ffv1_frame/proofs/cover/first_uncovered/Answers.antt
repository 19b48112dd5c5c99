use Rattle.std.proofs.Common.{below_more, sym, ◌∙◌}
use Rattle.ffv1_frame.proofs.cover.first_uncovered.Goals as goal

pub loop-cell-preserved : goal.loop-cell-preserved
loop-cell-preserved c = below_more _ _ c.loop-cell.invariant (sym c.cover_count.ensures ∙ c.if-cover_count-ne1.false)
