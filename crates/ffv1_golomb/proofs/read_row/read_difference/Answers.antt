-- What a step of the run is, at one sample.
use Rattle.std.proofs.Common.{◌≡◌, ◌∙◌, List, get_or, arith}
use Rattle.std.proofs.lemmas.List.{get_or_default}
use Rattle.std.proofs.lemmas.Result.{err_from_is_err_and}
use Rattle.std.specs.Prelude.{ℤ}
use Rattle.ffv1_rice.specs.declared.runs.Step.{Step}
use Rattle.ffv1_rice.specs.State.{State, fresh}
use Rattle.ffv1_rice.specs.Runs.{Source, source}
use Rattle.ffv1_golomb.specs.Ahead.{zeros_of, raising}
use Rattle.ffv1_golomb.proofs.RunSteps.{zeros-by, difference-by, read-by, none-by, raising_is}
use Rattle.ffv1_golomb.proofs.read_row.read_difference.Goals as goal

pub returns-then-count-gt0-clause-ok : goal.returns-then-count-gt0-clause-ok
returns-then-count-gt0-clause-ok c =
    let old : Source = source c.args.run.now c.args.bits.now in
    let new : Source = source c.next-step.new.self c.next-step.new.bits in
    let step : Step = c.next-step.result in
    let is : c.zeros_of-count.result ≡ zeros_of step = c.zeros_of-count.ensures.zeros in
    rw is (zeros-by c.args.left c.args.context step old new c.args.states.now c.next-step.ensures.step (omega (arith, is, c.if-count-gt0.true))).0

pub returns-then-count-gt0-clause-in_run : goal.returns-then-count-gt0-clause-in_run
returns-then-count-gt0-clause-in_run c = λ some.
    let old : Source = source c.args.run.now c.args.bits.now in
    let new : Source = source c.next-step.new.self c.next-step.new.bits in
    let step : Step = c.next-step.result in
    let is : c.zeros_of-count.result ≡ zeros_of step = c.zeros_of-count.ensures.zeros in
    (zeros-by c.args.left c.args.context step old new c.args.states.now c.next-step.ensures.step (omega (arith, is, c.if-count-gt0.true))).1

pub returns-then-count-gt0-clause-fits : goal.returns-then-count-gt0-clause-fits
returns-then-count-gt0-clause-fits c = omega (arith, c.if-count-gt0.true, c.zeros_of-count.ensures.few c.args.left c.next-step.ensures.fits)

pub returns-in_err-difference-clause-out_of_range : goal.returns-in_err-difference-clause-out_of_range
returns-in_err-difference-clause-out_of_range c =
    let p = err_from_is_err_and c.from_residual.result c.from_residual.ensures.1 in
    let old : Source = source c.args.run.now c.args.bits.now in
    let new : Source = source c.next-step.new.self c.next-step.new.bits in
    let step : Step = c.next-step.result in
    let is : c.zeros_of-count.result ≡ zeros_of step = c.zeros_of-count.ensures.zeros in
    let zero : zeros_of step ≡ 0 = omega (arith, is, c.if-count-gt0.false) in
    let all : List State = c.args.states.now in
    let other : State = c.index-states-context.result in
    let element : get_or all c.args.context other ≡ get_or all c.args.context fresh = get_or_default all c.args.context other fresh c.requires.context in
    let failed = rw element at c.in_err-difference.ensures.err in
    rw p.1 (difference-by c.args.left c.args.context step old new all c.next-step.ensures.step c.next-step.ensures.fits zero ∙ none-by (raising step) c.args.context new all failed)

pub returns-clause-ok : goal.returns-clause-ok
returns-clause-ok c =
    let old : Source = source c.args.run.now c.args.bits.now in
    let new : Source = source c.next-step.new.self c.next-step.new.bits in
    let step : Step = c.next-step.result in
    let is : c.zeros_of-count.result ≡ zeros_of step = c.zeros_of-count.ensures.zeros in
    let zero : zeros_of step ≡ 0 = omega (arith, is, c.if-count-gt0.false) in
    let all : List State = c.args.states.now in
    let other : State = c.index-states-context.result in
    let d : ℤ = c.in_ok-difference.difference in
    let element : get_or all c.args.context other ≡ get_or all c.args.context fresh = get_or_default all c.args.context other fresh c.requires.context in
    let some = rw element at c.in_ok-difference.ensures.ok in
    difference-by c.args.left c.args.context step old new all c.next-step.ensures.step c.next-step.ensures.fits zero
    ∙ read-by (raising step) c.args.context new all d _ c.read.new.self c.read.new.bits some
    (raising_is step d c.raise_by.result c.in_ok-difference.ensures.least c.in_ok-difference.ensures.most c.raise_by.ensures.raised)
