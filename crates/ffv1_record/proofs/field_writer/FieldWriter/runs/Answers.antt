use Rattle.std.proofs.Common.{◌+◌, ◌-◌, drop, get_or, ap, ◌∙◌}
use Rattle.ffv1_record.specs.Spelling.{runs, number}
use Rattle.ffv1_record.specs.Sink.{wrote}
use Rattle.ffv1_record.proofs.Sinks.{step, finished, runs-next, runs-done}
use Rattle.ffv1_record.proofs.field_writer.FieldWriter.runs.Goals as goal

pub loop-run-preserved : goal.loop-run-preserved
loop-run-preserved c =
    let lengths = c.args.lengths.now in
    let i = c.loop-run.run-index in
    step c.args.self.now c.loop-run.self c.number.new.self (runs (drop i lengths)) (number (get_or lengths i 0 - 1)) (runs (drop (i + 1) lengths)) (runs lengths)
    c.loop-run.invariant (runs-next lengths i c.loop-run-test.true) (c.in_ok-number.ensures ∙ ap (λ n. wrote c.loop-run.self (number n)) c.less_one.ensures)

pub returns : goal.returns
returns c = finished c.args.self.now c.loop-run.self (runs (drop c.loop-run.run-index c.args.lengths.now)) (runs c.args.lengths.now) c.loop-run.invariant (runs-done c.args.lengths.now c.loop-run.run-index c.loop-run-test.false)
