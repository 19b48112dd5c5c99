use Rattle.ffv1_record.specs.Sink.{wrote_tables}
use Rattle.ffv1_record.proofs.Sinks.{tables-step, tables-done}
use Rattle.ffv1_record.proofs.field_writer.FieldWriter.tables.Goals as goal

pub loop-table-preserved : goal.loop-table-preserved
loop-table-preserved c =
    tables-step c.loop-table.self c.table.new.self c.deref-table-items.result.now c.loop-table.table-index c.table-item.result c.as_slice.result.now (wrote_tables c.args.self.now c.args.set.now)
    c.loop-table-test.true c.table-item.is c.as_slice.ensures.value c.in_ok-table.ensures c.loop-table.invariant

pub returns : goal.returns
returns c = tables-done c.loop-table.self c.deref-table-items.result.now c.loop-table.table-index (wrote_tables c.args.self.now c.args.set.now) c.loop-table-test.false c.loop-table.invariant
