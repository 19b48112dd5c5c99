use Rattle.std.proofs.Common.{◌≡◌, ◌-◌}
use Rattle.ffv1_record.specs.Reading.{states_at}
use Rattle.ffv1_record.proofs.field_reader.FieldReader.no_initial_states.Given as goal

abbrev pub invariant-loop : goal.invariant-loop
invariant-loop l = states_at (l.count - l.counter) l.self ≡ states_at l.fn.count l.fn.self
