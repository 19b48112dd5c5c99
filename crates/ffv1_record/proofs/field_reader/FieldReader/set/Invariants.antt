use Rattle.std.proofs.Common.{◌≡◌, ◌-◌, ◌≤◌, All, length, map}
use Rattle.ffv1_record.specs.Reading.{tables_at}
use Rattle.ffv1_record.specs.Tables.{AreRuns, ScalesFit, scale_after}
use Rattle.ffv1_record.proofs.Loops.{with_front}
use Rattle.ffv1_record.proofs.field_reader.FieldReader.set.Given as goal

abbrev pub invariant-loop : goal.invariant-loop
invariant-loop l = record {
  told : with_front (map (λ t. t.lengths.items) l.tables.items) (tables_at (5 - l.counter) l.scale l.self) ≡ tables_at 5 1 l.fn.self;
  len : length (map (λ t. t.lengths.items) l.tables.items) ≡ l.counter;
  scale : l.scale ≡ scale_after 1 (map (λ t. t.lengths.items) l.tables.items);
  small : l.scale ≤ 32768;
  sound : All AreRuns (map (λ t. t.lengths.items) l.tables.items);
  scales : ScalesFit 1 (map (λ t. t.lengths.items) l.tables.items);
}
