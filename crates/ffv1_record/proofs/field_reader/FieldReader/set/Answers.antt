use Rattle.std.proofs.Common.{◌≡◌, ◌+◌, ◌++◌, ◌∷◌, [], map, ap, sym, ◌∙◌, subst, ◌≤◌}
use Rattle.std.proofs.lemmas.Result.{err_from_is_err_and}
use Rattle.std.proofs.lemmas.List.{length_push, map_push}
use Rattle.std.proofs.lemmas.List.Elements.{All-push}
use Rattle.ffv1_record.specs.Reading.{tables_at}
use Rattle.ffv1_record.specs.Tables.{AreRuns, next_scale, scale_after}
use Rattle.ffv1_record.proofs.Loops.{tables-next, tables-end, tables-done, scale_after-push, ScalesFit-push}
use Rattle.ffv1_record.proofs.field_reader.FieldReader.set.Goals as goal

pub returns-in_err-runs-clause-gives : goal.returns-in_err-runs-clause-gives
returns-in_err-runs-clause-gives c =
    let p = err_from_is_err_and c.from_residual.result c.from_residual.ensures.1 in
    rw (p.1, p.2) (tables-end c.in_err-runs.field-0.0 (map (λ t. t.lengths.items) c.loop.tables.items) 5 c.loop.counter c.loop.scale c.loop.self (tables_at 5 1 c.args.self.now) c.loop-test.true c.in_err-runs.ensures.gives c.loop.invariant.told)

pub loop-preserved : goal.loop-preserved
loop-preserved c =
    let front = map (λ t. t.lengths.items) c.loop.tables.items in
    let runs = c.in_ok-runs.runs.lengths.items in
    let pushed : map (λ t. t.lengths.items) c.push.new.self.items ≡ front ++ runs ∷ [] = ap (map (λ t. t.lengths.items)) c.in_ok-push.ensures.items ∙ map_push (λ t. t.lengths.items) c.loop.tables.items c.in_ok-runs.runs in
    let next : c.in_ok-runs.next ≡ next_scale c.loop.scale runs = c.in_ok-runs.ensures.next in
    let scaled : c.in_ok-runs.next ≡ next_scale (scale_after 1 front) runs = next ∙ ap (λ scale. next_scale scale runs) c.loop.invariant.scale in
    record {
      told = rw pushed (tables-next front 5 c.loop.counter c.loop.scale runs c.in_ok-runs.next c.loop.self c.table.new.self (tables_at 5 1 c.args.self.now) c.loop-test.true c.in_ok-runs.ensures.gives c.loop.invariant.told);
      len = rw (pushed, length_push) (ap (λ n. n + 1) c.loop.invariant.len);
      scale = rw pushed (scaled ∙ sym (scale_after-push 1 front runs));
      small = c.in_ok-runs.ensures.small;
      sound = rw pushed (All-push AreRuns front runs c.loop.invariant.sound c.in_ok-runs.ensures.runs);
      scales = rw pushed (ScalesFit-push 1 front runs c.loop.invariant.scales (subst (λ n. n ≤ 32768) scaled c.in_ok-runs.ensures.small));
    }

pub returns-clause-gives : goal.returns-clause-gives
returns-clause-gives c = tables-done (map (λ t. t.lengths.items) c.loop.tables.items) 5 c.loop.counter c.loop.scale c.loop.self (tables_at 5 1 c.args.self.now) c.loop-test.false c.loop.invariant.told
