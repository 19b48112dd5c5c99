use Rattle.std.proofs.Common.{◌+◌, ap}
use Rattle.std.proofs.lemmas.Result.{err_from_is_err_and}
use Rattle.std.proofs.lemmas.List.{length_push}
use Rattle.std.proofs.lemmas.List.Elements.{All-push}
use Rattle.ffv1_record.specs.Reading.{sets_at}
use Rattle.ffv1_record.specs.Tables.{AreSetRuns}
use Rattle.ffv1_record.proofs.Loops.{sets-next, sets-end, sets-done}
use Rattle.ffv1_record.proofs.field_reader.FieldReader.sets.Goals as goal

pub returns-in_err-set-clause-gives : goal.returns-in_err-set-clause-gives
returns-in_err-set-clause-gives c =
    let p = err_from_is_err_and c.from_residual.result c.from_residual.ensures.1 in
    rw (p.1, p.2) (sets-end c.in_err-set.field-0.0 c.loop.sets.items c.args.count c.loop.counter c.loop.self (sets_at c.args.count c.args.self.now) c.loop-test.true c.in_err-set.ensures.gives c.loop.invariant.told)

pub loop-preserved : goal.loop-preserved
loop-preserved c = record {
  told = rw c.in_ok-push.ensures.items (sets-next c.loop.sets.items c.args.count c.loop.counter c.in_ok-set.set c.loop.self c.set.new.self (sets_at c.args.count c.args.self.now) c.loop-test.true c.in_ok-set.ensures.gives c.loop.invariant.told);
  len = rw (c.in_ok-push.ensures.items, length_push) (ap (λ n. n + 1) c.loop.invariant.len);
  sound = rw c.in_ok-push.ensures.items (All-push AreSetRuns c.loop.sets.items c.in_ok-set.set c.loop.invariant.sound c.in_ok-set.ensures.sound);
}

pub returns-clause-gives : goal.returns-clause-gives
returns-clause-gives c = sets-done c.loop.sets.items c.args.count c.loop.counter c.loop.self (sets_at c.args.count c.args.self.now) c.loop-test.false c.loop.invariant.told
