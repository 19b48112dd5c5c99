use Rattle.std.proofs.Common.{◌≡◌, ◌<◌, All, drop, length}
use Rattle.ffv1_record.specs.Reading.{entries_at}
use Rattle.ffv1_record.proofs.Loops.{with_front}
use Rattle.ffv1_record.proofs.field_reader.FieldReader.entries.Given as goal

abbrev pub invariant-loop-state : goal.invariant-loop-state
invariant-loop-state l = record {
  told : with_front l.entries.items (entries_at (drop l.state-index l.default) l.self) ≡ entries_at l.default l.fn.self;
  len : length l.entries.items ≡ l.state-index;
  sound : All (λ state. 0 < state) l.entries.items;
}
