use Rattle.std.proofs.Common.{◌≡◌}
use Rattle.std.specs.Prelude.{All}
use Rattle.ffv1_range.specs.Transition.{AllKept}
use Rattle.ffv1_predict.specs.Border.{rows, left_at}
use Rattle.ffv1_slice.specs.Order.{InRow}
use Rattle.ffv1_slice.specs.Reading.{coding, ReadsSample}
use Rattle.ffv1_slice.proofs.range_row.decode_row.Given as goal

abbrev pub invariant-loop-x : goal.invariant-loop-x
invariant-loop-x l = record {
  read : InRow (ReadsSample l.tables) (rows l.above2 l.above l.row) l.x (coding l.fn.reader l.initial.contexts) (coding l.reader l.contexts);
  left : l.left ≡ left_at (rows l.above2 l.above l.row) l.x;
  table : l.reader.table ≡ l.fn.reader.table;
  kept : All (AllKept l.reader.table) l.contexts;
}
