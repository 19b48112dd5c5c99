use Rattle.std.proofs.Common.{sym}
use Rattle.ffv1_record.specs.Reading.{states_at}
use Rattle.ffv1_record.proofs.Loops.{states-next, states-set, states-done}
use Rattle.ffv1_record.proofs.field_reader.FieldReader.no_initial_states.Goals as goal

pub returns-then-flag : goal.returns-then-flag
returns-then-flag c = λ _. states-set c.args.count c.loop.counter c.loop.self (states_at c.args.count c.args.self.now) c.loop-test.true (sym c.if-flag.ensures.bit) c.loop.invariant

pub loop-preserved : goal.loop-preserved
loop-preserved c = rw c.if-flag.ensures.after (states-next c.args.count c.loop.counter c.loop.self (states_at c.args.count c.args.self.now) c.loop-test.true (sym c.if-flag.ensures.bit) c.loop.invariant)

pub returns : goal.returns
returns c = states-done c.args.count c.loop.counter c.loop.self (states_at c.args.count c.args.self.now) c.loop-test.false c.loop.invariant
