use Rattle.std.proofs.Common.{◌<◌, ◌+◌, ap}
use Rattle.std.proofs.lemmas.Result.{err_from_is_err_and}
use Rattle.std.proofs.lemmas.List.{length_push}
use Rattle.std.proofs.lemmas.List.Elements.{All-push}
use Rattle.ffv1_record.specs.Reading.{entries_at}
use Rattle.ffv1_record.proofs.Loops.{entries-next, entries-end, entries-done}
use Rattle.ffv1_record.proofs.field_reader.FieldReader.entries.Goals as goal

pub returns-in_err-entry-clause-gives : goal.returns-in_err-entry-clause-gives
returns-in_err-entry-clause-gives c =
    let p = err_from_is_err_and c.from_residual.result c.from_residual.ensures.1 in
    rw (p.1, p.2) (entries-end c.in_err-entry.field-0.0 c.loop-state.entries.items c.args.default.now c.loop-state.state-index c.loop-state.self (entries_at c.args.default.now c.args.self.now) c.loop-state-test.true c.in_err-entry.ensures.gives c.loop-state.invariant.told)

pub loop-state-preserved : goal.loop-state-preserved
loop-state-preserved c = record {
  told = rw c.in_ok-push.ensures.items (entries-next c.loop-state.entries.items c.args.default.now c.loop-state.state-index c.in_ok-entry.entry c.loop-state.self c.entry.new.self (entries_at c.args.default.now c.args.self.now) c.loop-state-test.true c.in_ok-entry.ensures.gives c.loop-state.invariant.told);
  len = rw (c.in_ok-push.ensures.items, length_push) (ap (λ n. n + 1) c.loop-state.invariant.len);
  sound = rw c.in_ok-push.ensures.items (All-push (λ state. 0 < state) c.loop-state.entries.items c.in_ok-entry.entry c.loop-state.invariant.sound c.in_ok-entry.ensures.sound);
}

pub returns-clause-gives : goal.returns-clause-gives
returns-clause-gives c = entries-done c.loop-state.entries.items c.args.default.now c.loop-state.state-index c.loop-state.self (entries_at c.args.default.now c.args.self.now) c.loop-state-test.false c.loop-state.invariant.told
