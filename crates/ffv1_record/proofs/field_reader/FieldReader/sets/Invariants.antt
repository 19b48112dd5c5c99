use Rattle.std.proofs.Common.{◌≡◌, ◌-◌, All, length}
use Rattle.ffv1_record.specs.Reading.{sets_at}
use Rattle.ffv1_record.specs.Tables.{AreSetRuns}
use Rattle.ffv1_record.proofs.Loops.{with_front}
use Rattle.ffv1_record.proofs.field_reader.FieldReader.sets.Given as goal

abbrev pub invariant-loop : goal.invariant-loop
invariant-loop l = record {
  told : with_front l.sets.items (sets_at (l.count - l.counter) l.self) ≡ sets_at l.fn.count l.fn.self;
  len : length l.sets.items ≡ l.counter;
  sound : All AreSetRuns l.sets.items;
}
