use Rattle.std.proofs.Common.{◌≡◌, drop}
use Rattle.ffv1_record.specs.Spelling.{deltas}
use Rattle.ffv1_record.specs.Sink.{wrote}
use Rattle.ffv1_record.proofs.field_writer.FieldWriter.deltas.Given as goal

abbrev pub invariant-loop-i : goal.invariant-loop-i
invariant-loop-i l = wrote l.self (deltas (drop l.i l.default) (drop l.i l.entries)) ≡ wrote l.fn.self (deltas l.default l.entries)
