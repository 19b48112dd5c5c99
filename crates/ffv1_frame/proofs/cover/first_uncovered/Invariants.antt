use Rattle.ffv1_frame.specs.Cover.{AreCovered}
use Rattle.ffv1_frame.proofs.cover.first_uncovered.Given as goal

abbrev pub invariant-loop-cell : goal.invariant-loop-cell
invariant-loop-cell l = AreCovered l.columns l.headers l.cell
