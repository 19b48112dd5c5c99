-- A row more of the area is written.
use Rattle.std.proofs.Common.{◌≡◌, ◌∙◌, ◌+◌, ◌<◌, ℕ, List, arith}
use Rattle.ffv1_slice.specs.Writing.{Encoding, encoding, first_samples}
use Rattle.ffv1_slice.proofs.Written.{RowsLeft, at_row, row_written}
use Rattle.ffv1_slice.proofs.encode_plane.encode_rows.Goals as goal

pub loop-y-preserved : goal.loop-y-preserved
loop-y-preserved c =
    let row : List ℕ = c.copy_from_slice.new.self in
    let is : row ≡ first_samples c.args.picture.now (at_row c.args.area c.loop-y.y) = c.copy_from_slice.ensures.after ∙ c.first_samples.ensures.samples in
    let within : c.loop-y.y < c.args.area.y + c.args.area.height = omega arith in
    let start : Encoding = encoding c.args.writer.now c.args.contexts.now in
    let now : Encoding = encoding c.loop-y.writer c.loop-y.contexts in
    let next : Encoding = encoding c.encode_row.new.writer c.encode_row.new.contexts in
    let rows : RowsLeft c.args.tables.now c.args.picture.now c.args.area start next c.loop-y.above row (c.loop-y.y + 1) =
    row_written c.args.tables.now c.args.picture.now c.args.area start now next c.loop-y.above2 c.loop-y.above row c.loop-y.y within c.loop-y.invariant.rows is c.in_ok-encode_row.ensures.ok in
    record {
      rows = rw (c.copy_from_slice-in-loop-y.ensures.after, c.copy_from_slice-in-loop-y-2.ensures.after) rows;
      table = c.encode_row.ensures.table ∙ c.loop-y.invariant.table;
      kept = c.encode_row.ensures.kept;
    }
