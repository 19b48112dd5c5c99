use Rattle.std.proofs.Common.{◌≡◌, ◌<◌, ◌+◌, arith}
use Rattle.std.proofs.lemmas.Result.{err_from_is_err_and}
use Rattle.std.proofs.lemmas.List.{length_push}
use Rattle.std.proofs.lemmas.List.Elements.{All-push}
use Rattle.ffv1_record.specs.Reading.{runs_at}
use Rattle.ffv1_record.proofs.Loops.{runs-next, runs-end, runs-past, runs-done, sum_push, some_from_sum}
use Rattle.ffv1_record.proofs.field_reader.FieldReader.runs.Goals as goal
use Rattle.ffv1_record.proofs.field_reader.FieldReader.runs.Goals.{else-loop-test, then-loop-test+then-left-eq0}

pub returns-in_err-less-clause-gives : goal.returns-in_err-less-clause-gives
returns-in_err-less-clause-gives c =
    let p = err_from_is_err_and c.from_residual.result c.from_residual.ensures.1 in
    rw (p.1, p.2) (runs-end c.in_err-less.field-0.0 c.loop.runs.items 128 c.loop.counter c.loop.left c.loop.self (runs_at 128 128 c.args.self.now) c.loop-test.true c.if-left-eq0.false c.in_err-less.ensures c.loop.invariant.told)

pub returns-then-less-left-clause-gives : goal.returns-then-less-left-clause-gives
returns-then-less-left-clause-gives c = λ _. runs-past c.loop.runs.items 128 c.loop.counter c.loop.left c.in_ok-less.less c.loop.self c.number.new.self (runs_at 128 128 c.args.self.now) c.loop-test.true c.if-left-eq0.false c.if-less-left.true c.in_ok-less.ensures c.loop.invariant.told

pub loop-preserved : goal.loop-preserved
loop-preserved c = record {
  told = rw c.in_ok-push.ensures.items (runs-next c.loop.runs.items 128 c.loop.counter c.loop.left c.in_ok-less.less c.loop.self c.number.new.self (runs_at 128 128 c.args.self.now) c.loop-test.true c.if-left-eq0.false c.if-less-left.false c.in_ok-less.ensures c.loop.invariant.told);
  room = omega (arith, c.loop.invariant.room, c.if-less-left.false);
  len = rw (c.in_ok-push.ensures.items, length_push) (omega (arith, c.loop.invariant.len));
  whole = rw (c.in_ok-push.ensures.items, sum_push c.loop.runs.items (c.in_ok-less.less + 1)) (omega (arith, c.loop.invariant.whole, c.if-less-left.false));
  sound = rw c.in_ok-push.ensures.items (All-push (λ run. 0 < run) c.loop.runs.items (c.in_ok-less.less + 1) c.loop.invariant.sound (omega arith));
}

pub returns-clause-gives : goal.returns-clause-gives
returns-clause-gives c =
    let nothing_left : c.loop.left ≡ 0 = elim c.loop-test.branch [ else-loop-test w ↦ omega (arith, c.loop.invariant.room, w.loop-test.false) | then-loop-test+then-left-eq0 w ↦ w.if-left-eq0.true ] in
    runs-done c.loop.runs.items _ c.loop.left c.loop.self (runs_at 128 128 c.args.self.now) nothing_left c.loop.invariant.told

pub returns-clause-runs : goal.returns-clause-runs
returns-clause-runs c =
    let nothing_left : c.loop.left ≡ 0 = elim c.loop-test.branch [ else-loop-test w ↦ omega (arith, c.loop.invariant.room, w.loop-test.false) | then-loop-test+then-left-eq0 w ↦ w.if-left-eq0.true ] in
    record { some = c.loop.invariant.sound; whole = omega (arith, c.loop.invariant.whole, nothing_left) }

pub returns-clause-some : goal.returns-clause-some
returns-clause-some c =
    let nothing_left : c.loop.left ≡ 0 = elim c.loop-test.branch [ else-loop-test w ↦ omega (arith, c.loop.invariant.room, w.loop-test.false) | then-loop-test+then-left-eq0 w ↦ w.if-left-eq0.true ] in
    some_from_sum c.loop.runs.items (omega (arith, c.loop.invariant.whole, nothing_left))
