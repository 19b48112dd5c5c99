-- A row more of the area is written.
use Rattle.std.proofs.Common.{◌≡◌, ◌∙◌, ◌+◌, ◌<◌, ℕ, List, arith}
use Rattle.ffv1_rice.specs.Lines.{Written}
use Rattle.ffv1_slice.specs.Writing.{first_samples}
use Rattle.ffv1_slice.proofs.Written.{at_row}
use Rattle.ffv1_golomb.specs.Writing.{between_lines, encoding}
use Rattle.ffv1_golomb.proofs.WritePlane.{RowsLeft, row_written}
use Rattle.ffv1_golomb.proofs.write_plane.encode_rows.Goals as goal

pub loop-y-preserved : goal.loop-y-preserved
loop-y-preserved c =
    let row : List ℕ = c.copy_from_slice.new.self in
    let is : row ≡ first_samples c.args.picture.now (at_row c.args.area c.loop-y.y) = c.copy_from_slice.ensures.after ∙ c.first_samples.ensures.samples in
    let within : c.loop-y.y < c.args.area.y + c.args.area.height = omega arith in
    let start : Written = between_lines 0 (encoding c.args.states.now c.args.bits.now) in
    let now : Written = between_lines c.loop-y.run (encoding c.loop-y.states c.loop-y.bits) in
    let next : Written = between_lines c.encode_row.new.run (encoding c.encode_row.new.states c.encode_row.new.bits) in
    let rows : RowsLeft c.args.tables.now c.args.picture.now c.args.area start next c.loop-y.above row (c.loop-y.y + 1) =
    row_written c.args.tables.now c.args.picture.now c.args.area start now next c.loop-y.above2 c.loop-y.above row c.loop-y.y within c.loop-y.invariant.rows is c.in_ok-encode_row.ensures.ok in
    record {
      rows = rw (c.copy_from_slice-in-loop-y.ensures.after, c.copy_from_slice-in-loop-y-2.ensures.after) rows;
      room = (c.encode_row.ensures.room.0 ∙ c.loop-y.invariant.room.0, c.encode_row.ensures.room.1 ∙ c.loop-y.invariant.room.1);
    }
