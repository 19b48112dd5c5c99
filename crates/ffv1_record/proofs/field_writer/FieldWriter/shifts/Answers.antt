use Rattle.std.proofs.Common.{ap, ◌∙◌}
use Rattle.ffv1_record.specs.Spelling.{number, flag}
use Rattle.ffv1_record.specs.Sink.{wrote}
use Rattle.ffv1_record.proofs.Sinks.{in_turn_3}
use Rattle.ffv1_record.proofs.field_writer.FieldWriter.shifts.Goals as goal

pub returns : goal.returns
returns c =
    in_turn_3 c.args.self.now c.flag.new.self c.number.new.self c.number-2.new.self (flag c.args.has_planes) (number c.args.h) (number c.args.v)
    c.in_ok-flag.ensures (c.in_ok-number.ensures ∙ ap (λ n. wrote c.flag.new.self (number n)) c.from.ensures) (c.in_ok-number-2.ensures ∙ ap (λ n. wrote c.number.new.self (number n)) c.from-2.ensures)
