use Rattle.std.proofs.Common.{cond, ap, ◌∙◌}
use Rattle.ffv1_record.specs.Spelling.{number, ending, flags}
use Rattle.ffv1_record.specs.Sink.{wrote}
use Rattle.ffv1_record.proofs.Sinks.{in_turn_3}
use Rattle.ffv1_record.proofs.field_writer.FieldWriter.ending.Goals as goal

pub returns : goal.returns
unfolding ending
returns c =
    in_turn_3 c.args.self.now c.no_initial_states.new.self c.number.new.self c.number-2.new.self (flags c.args.sets) (number (cond c.args.ec 1 0)) (number c.args.intra)
    c.in_ok-no_initial_states.ensures (c.in_ok-number.ensures ∙ ap (λ n. wrote c.no_initial_states.new.self (number n)) c.ec_number.ensures) c.in_ok-number-2.ensures
