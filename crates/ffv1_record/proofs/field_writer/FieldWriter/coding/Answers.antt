use Rattle.std.proofs.Common.{ap, ◌∙◌}
use Rattle.ffv1_record.specs.Spelling.{number, transition, coding}
use Rattle.ffv1_record.specs.Sink.{wrote}
use Rattle.ffv1_record.proofs.Sinks.{in_turn_4}
use Rattle.ffv1_record.proofs.field_writer.FieldWriter.coding.Goals as goal

pub returns : goal.returns
unfolding coding
returns c =
    in_turn_4 c.args.self.now c.number.new.self c.number-2.new.self c.number-3.new.self c.transition.new.self (number 3) (number 4) (number c.args.coder_type) (transition c.args.coder_type c.args.table.now)
    c.in_ok-number.ensures c.in_ok-number-2.ensures (c.in_ok-number-3.ensures ∙ ap (λ n. wrote c.number-2.new.self (number n)) c.from.ensures) c.in_ok-transition.ensures
