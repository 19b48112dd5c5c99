use Rattle.ffv1_record.specs.Sink.{wrote_sets}
use Rattle.ffv1_record.proofs.Sinks.{sets-step, sets-done}
use Rattle.ffv1_record.proofs.field_writer.FieldWriter.sets.Goals as goal

pub loop-set-preserved : goal.loop-set-preserved
loop-set-preserved c =
    sets-step c.loop-set.self c.tables.new.self c.args.sets.now c.loop-set.set-index c.set-item.result (wrote_sets c.args.self.now c.args.sets.now)
    c.loop-set-test.true c.set-item.is c.in_ok-tables.ensures c.loop-set.invariant

pub returns : goal.returns
returns c = sets-done c.loop-set.self c.args.sets.now c.loop-set.set-index (wrote_sets c.args.self.now c.args.sets.now) c.loop-set-test.false c.loop-set.invariant
