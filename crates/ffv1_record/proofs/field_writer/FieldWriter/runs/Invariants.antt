use Rattle.std.proofs.Common.{◌≡◌, drop}
use Rattle.ffv1_record.specs.Spelling.{runs}
use Rattle.ffv1_record.specs.Sink.{wrote}
use Rattle.ffv1_record.proofs.field_writer.FieldWriter.runs.Given as goal

abbrev pub invariant-loop-run : goal.invariant-loop-run
invariant-loop-run l = wrote l.self (runs (drop l.run-index l.lengths)) ≡ wrote l.fn.self (runs l.lengths)
