use Rattle.std.proofs.Common.{◌≡◌}
use Rattle.std.specs.Prelude.{All}
use Rattle.ffv1_range.specs.Transition.{AllKept}
use Rattle.ffv1_slice.specs.Writing.{encoding}
use Rattle.ffv1_slice.proofs.Written.{RowsLeft}
use Rattle.ffv1_slice.proofs.encode_plane.encode_rows.Given as goal

abbrev pub invariant-loop-y : goal.invariant-loop-y
invariant-loop-y l = record {
  rows : RowsLeft l.tables l.picture l.area (encoding l.initial.writer l.initial.contexts) (encoding l.writer l.contexts) l.above2 l.above l.y;
  table : l.writer.table ≡ l.initial.writer.table;
  kept : All (AllKept l.writer.table) l.contexts;
}
