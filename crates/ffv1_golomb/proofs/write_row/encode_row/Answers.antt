-- The line that was gathered is the row's.
use Rattle.std.proofs.Common.{arith}
use Rattle.ffv1_rice.specs.Lines.{Written}
use Rattle.ffv1_predict.specs.Border.{Rows, rows}
use Rattle.ffv1_golomb.specs.Writing.{between_lines, encoding}
use Rattle.ffv1_golomb.proofs.WriteSteps.{line_is_row}
use Rattle.ffv1_golomb.proofs.write_row.encode_row.Goals as goal

pub returns-clause-ok : goal.returns-clause-ok
returns-clause-ok c =
    let r : Rows = rows c.args.above2.now c.args.above.now c.args.row.now in
    let old : Written = between_lines c.args.run.now (encoding c.args.states.now c.args.bits.now) in
    let new : Written = between_lines c.line.new.self (encoding c.line.new.states c.line.new.bits) in
    line_is_row c.args.tables.now r c.gather.new.contexts c.gather.new.differences old new (omega arith) (omega arith) c.gather.ensures c.in_ok-line.ensures
