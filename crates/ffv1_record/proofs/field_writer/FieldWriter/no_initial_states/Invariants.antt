use Rattle.std.proofs.Common.{◌≡◌, ◌-◌}
use Rattle.ffv1_record.specs.Spelling.{flags}
use Rattle.ffv1_record.specs.Sink.{wrote}
use Rattle.ffv1_record.proofs.field_writer.FieldWriter.no_initial_states.Given as goal

abbrev pub invariant-loop : goal.invariant-loop
invariant-loop l = wrote l.self (flags (l.count - l.counter)) ≡ wrote l.fn.self (flags l.count)
