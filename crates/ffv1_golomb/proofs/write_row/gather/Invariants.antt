use Rattle.std.proofs.Common.{◌≡◌}
use Rattle.ffv1_predict.specs.Border.{rows, left_at}
use Rattle.ffv1_golomb.specs.Gathered.{IsGathered}
use Rattle.ffv1_golomb.proofs.write_row.gather.Given as goal

abbrev pub invariant-loop-x : goal.invariant-loop-x
invariant-loop-x l = record {
  gathered : IsGathered l.tables (rows l.above2 l.above l.row) l.x l.contexts l.differences;
  left : l.left ≡ left_at (rows l.above2 l.above l.row) l.x;
}
