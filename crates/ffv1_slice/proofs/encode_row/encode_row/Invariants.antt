use Rattle.std.proofs.Common.{◌≡◌}
use Rattle.std.specs.Prelude.{All}
use Rattle.ffv1_range.specs.Transition.{AllKept}
use Rattle.ffv1_predict.specs.Border.{rows, left_at}
use Rattle.ffv1_slice.specs.Order.{InRow}
use Rattle.ffv1_slice.specs.Writing.{encoding, WritesSample}
use Rattle.ffv1_slice.proofs.encode_row.encode_row.Given as goal

abbrev pub invariant-loop-x : goal.invariant-loop-x
invariant-loop-x l = record {
  written : InRow (WritesSample l.tables) (rows l.above2 l.above l.row) l.x (encoding l.initial.writer l.initial.contexts) (encoding l.writer l.contexts);
  left : l.left ≡ left_at (rows l.above2 l.above l.row) l.x;
  table : l.writer.table ≡ l.initial.writer.table;
  kept : All (AllKept l.writer.table) l.contexts;
}
