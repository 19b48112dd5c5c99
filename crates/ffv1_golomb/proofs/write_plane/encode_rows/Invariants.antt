use Rattle.ffv1_golomb.specs.Writing.{between_lines, encoding}
use Rattle.ffv1_golomb.specs.Gathered.{SameRoom}
use Rattle.ffv1_golomb.proofs.WritePlane.{RowsLeft}
use Rattle.ffv1_golomb.proofs.write_plane.encode_rows.Given as goal

abbrev pub invariant-loop-y : goal.invariant-loop-y
invariant-loop-y l = record {
  rows : RowsLeft l.tables l.picture l.area (between_lines 0 (encoding l.initial.states l.initial.bits)) (between_lines l.run (encoding l.states l.bits)) l.above2 l.above l.y;
  room : SameRoom l.initial.line l.line;
}
