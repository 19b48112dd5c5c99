use Rattle.std.proofs.Common.{◌≡◌, ◌<◌, ◌≤◌, ◌-◌, length}
use Rattle.ffv1_rice.specs.Runs.{coding, source}
use Rattle.ffv1_predict.specs.Border.{rows, left_at}
use Rattle.ffv1_slice.specs.Order.{InRow}
use Rattle.ffv1_golomb.specs.Reading.{line, line_begun, ReadsSample}
use Rattle.ffv1_golomb.specs.Ahead.{coding_ahead, IsInRun}
use Rattle.ffv1_golomb.proofs.read_row.decode_row.Given as goal

abbrev pub invariant-loop-x : goal.invariant-loop-x
invariant-loop-x l = record {
  read : InRow (ReadsSample l.tables) (rows l.above2 l.above l.row) l.x
      (line_begun (length l.initial.row) (coding (source l.fn.run l.fn.bits) l.initial.states))
      (line (length l.initial.row - l.x) (coding_ahead l.zeros l.here l.states l.bits));
  left : l.left ≡ left_at (rows l.above2 l.above l.row) l.x;
  in_run : 0 < l.zeros → IsInRun l.here.mode;
  few : l.zeros ≤ length l.initial.row - l.x;
}
