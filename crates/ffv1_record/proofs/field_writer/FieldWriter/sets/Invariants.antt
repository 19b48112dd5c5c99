use Rattle.std.proofs.Common.{◌≡◌, drop}
use Rattle.ffv1_record.specs.Sink.{wrote_sets}
use Rattle.ffv1_record.proofs.field_writer.FieldWriter.sets.Given as goal

abbrev pub invariant-loop-set : goal.invariant-loop-set
invariant-loop-set l = wrote_sets l.self (drop l.set-index l.sets) ≡ wrote_sets l.fn.self l.sets
