use Rattle.std.proofs.Common.{◌≡◌, ◌+◌, ◌-◌, ◌<◌, ◌≤◌, All, length, sum}
use Rattle.ffv1_record.specs.Reading.{runs_at}
use Rattle.ffv1_record.proofs.Loops.{with_front}
use Rattle.ffv1_record.proofs.field_reader.FieldReader.runs.Given as goal

abbrev pub invariant-loop : goal.invariant-loop
invariant-loop l = record {
  told : with_front l.runs.items (runs_at (128 - l.counter) l.left l.self) ≡ runs_at 128 128 l.fn.self;
  room : l.left + l.counter ≤ 128;
  len : length l.runs.items ≤ l.counter;
  whole : sum l.runs.items + l.left ≡ 128;
  sound : All (λ run. 0 < run) l.runs.items;
}
