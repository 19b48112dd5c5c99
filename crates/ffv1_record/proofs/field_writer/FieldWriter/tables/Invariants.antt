use Rattle.std.proofs.Common.{◌≡◌, drop, map}
use Rattle.ffv1_record.specs.Sink.{wrote_tables}
use Rattle.ffv1_record.proofs.field_writer.FieldWriter.tables.Given as goal

abbrev pub invariant-loop-table : goal.invariant-loop-table
invariant-loop-table l = wrote_tables l.self (map (λ t. t.lengths.items) (drop l.table-index l.table-items)) ≡ wrote_tables l.fn.self l.fn.set
