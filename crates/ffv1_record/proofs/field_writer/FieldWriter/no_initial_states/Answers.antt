use Rattle.std.proofs.Common.{◌+◌, ◌-◌, false}
use Rattle.ffv1_record.specs.Spelling.{flags, flag}
use Rattle.ffv1_record.proofs.Sinks.{step, finished, flags-next, flags-done}
use Rattle.ffv1_record.proofs.field_writer.FieldWriter.no_initial_states.Goals as goal

pub loop-preserved : goal.loop-preserved
loop-preserved c =
    step c.args.self.now c.loop.self c.flag.new.self (flags (c.args.count - c.loop.counter)) (flag false) (flags (c.args.count - (c.loop.counter + 1))) (flags c.args.count)
    c.loop.invariant (flags-next c.args.count c.loop.counter c.loop-test.true) c.in_ok-flag.ensures

pub returns : goal.returns
returns c = finished c.args.self.now c.loop.self (flags (c.args.count - c.loop.counter)) (flags c.args.count) c.loop.invariant (flags-done c.args.count c.loop.counter c.loop-test.false)
