use Rattle.std.proofs.Common.{false}
use Rattle.ffv1_record.specs.Spelling.{number, flag, chroma, planes}
use Rattle.ffv1_record.proofs.Sinks.{in_turn_4}
use Rattle.ffv1_record.proofs.field_writer.FieldWriter.planes.Goals as goal

pub returns : goal.returns
unfolding planes
returns c =
    in_turn_4 c.args.self.now c.number.new.self c.number-2.new.self c.chroma.new.self c.flag.new.self (number 0) (number 8) (chroma c.args.chroma) (flag false)
    c.in_ok-number.ensures c.in_ok-number-2.ensures c.in_ok-chroma.ensures c.in_ok-flag.ensures
