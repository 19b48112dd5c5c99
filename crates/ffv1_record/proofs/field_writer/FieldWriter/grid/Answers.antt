use Rattle.std.proofs.Common.{◌-◌}
use Rattle.ffv1_record.specs.Spelling.{number, grid}
use Rattle.ffv1_record.proofs.Sinks.{in_turn_3}
use Rattle.ffv1_record.proofs.field_writer.FieldWriter.grid.Goals as goal

pub returns : goal.returns
unfolding grid
returns c =
    in_turn_3 c.args.self.now c.number.new.self c.number-2.new.self c.number-3.new.self (number (c.args.columns - 1)) (number (c.args.rows - 1)) (number c.args.sets)
    c.in_ok-number.ensures c.in_ok-number-2.ensures c.in_ok-number-3.ensures
