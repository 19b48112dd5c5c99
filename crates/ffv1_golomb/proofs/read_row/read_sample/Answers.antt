-- A sample in a run that was read before, and one that is read now, outside of a run or by its steps.
use Rattle.std.proofs.Common.{◌≡◌, ◌<◌, ◌∙◌, refl, sym, ap, length, ℕ, List, get_or, rules, arith, to_z, of_z, w32}
use Rattle.std.specs.Prelude.{ℤ, pos, negsuc, nat_abs, slice_set, ◌≤ℤ◌}
use Rattle.std.proofs.lemmas.Int.{ints}
use Rattle.std.proofs.lemmas.List.{get_or_default}
use Rattle.std.proofs.lemmas.Result.{err_from_is_err_and}
use Rattle.ffv1_rice.specs.declared.runs.Mode.TheVariants.{Outside}
use Rattle.ffv1_rice.specs.declared.runs.Step.TheVariants.{Difference}
use Rattle.ffv1_rice.specs.State.{State, fresh}
use Rattle.ffv1_rice.specs.Runs.{Source, Coding, source}
use Rattle.ffv1_golomb.specs.Ahead.{coding_ahead, raising}
use Rattle.ffv1_golomb.proofs.RowSteps.{sample_ahead, none_now, sample_now}
use Rattle.ffv1_golomb.proofs.RunSteps.{outside-is, outside-step, difference-by, read-by, none-by}
use Rattle.ffv1_golomb.proofs.read_row.read_sample.Goals as goal

pub returns-then-zeros-gt0-clause-ok : goal.returns-then-zeros-gt0-clause-ok
returns-then-zeros-gt0-clause-ok c =
    sample_ahead c.args.tables.now c.args.near c.restored-predicted.result c.args.left c.args.zeros c.args.run.now c.args.states.now c.args.bits.now
    c.if-zeros-gt0.true (c.requires.in_run c.if-zeros-gt0.true) c.restored-predicted.ensures

small : (d : ℤ) → negsuc 127 ≤ℤ d → d ≤ℤ pos 127 → nat_abs d < 256
small d low high = omega (arith, ints)

pub returns-in_err-difference-clause-out_of_range : goal.returns-in_err-difference-clause-out_of_range
returns-in_err-difference-clause-out_of_range c =
    let p = err_from_is_err_and c.from_residual.result c.from_residual.ensures.1 in
    let fits : to_z w32 (of_z w32 c.context_by-context.result) ≡ c.context_by-context.result = first_of (search rules, omega (arith, ints, c.context_by-context.type_inv), grind (arith, ints)) in
    let s : Source = source c.args.run.now c.args.bits.now in
    let all : List State = c.args.states.now in
    let other : State = c.index-states-magnitude.result in
    let x : ℕ = c.unsigned_abs-magnitude.result in
    let within : x < length all = omega (arith, c.requires.fit c.args.near, c.unsigned_abs-magnitude.ensures.value, ap nat_abs (fits ∙ c.context_by-context.ensures)) in
    let outside : s.run.mode ≡ Outside = sym c.mode.ensures ∙ outside-is c.mode.result c.if-is_outside.ensures in
    let told = outside-step c.args.left x s outside (omega (arith, c.if-magnitude-gt0.true)) in
    let element : get_or all x other ≡ get_or all x fresh = get_or_default all x other fresh within in
    let failed = rw element at c.in_err-difference.ensures.err in
    rw p.1 (none_now c.args.tables.now c.args.near c.context_by-context.result x c.args.left c.args.zeros c.args.run.now all c.args.bits.now
    c.if-zeros-gt0.false c.context_by-context.ensures fits c.unsigned_abs-magnitude.ensures.value
    (difference-by c.args.left x Difference s s all told tt refl ∙ none-by (raising Difference) x s all failed))

pub returns-then-is_outside-clause-ok : goal.returns-then-is_outside-clause-ok
returns-then-is_outside-clause-ok c =
    let fits : to_z w32 (of_z w32 c.context_by-context.result) ≡ c.context_by-context.result = first_of (search rules, omega (arith, ints, c.context_by-context.type_inv), grind (arith, ints)) in
    let s : Source = source c.args.run.now c.args.bits.now in
    let all : List State = c.args.states.now in
    let other : State = c.index-states-magnitude.result in
    let x : ℕ = c.unsigned_abs-magnitude.result in
    let d : ℤ = c.in_ok-difference.difference in
    let within : x < length all = omega (arith, c.requires.fit c.args.near, c.unsigned_abs-magnitude.ensures.value, ap nat_abs (fits ∙ c.context_by-context.ensures)) in
    let outside : s.run.mode ≡ Outside = sym c.mode.ensures ∙ outside-is c.mode.result c.if-is_outside.ensures in
    let told = outside-step c.args.left x s outside (omega (arith, c.if-magnitude-gt0.true)) in
    let element : get_or all x other ≡ get_or all x fresh = get_or_default all x other fresh within in
    let some = rw element at c.in_ok-difference.ensures.ok in
    let new : Coding = coding_ahead 0 c.args.run.now (slice_set all x c.read.new.self) c.read.new.bits in
    sample_now c.args.tables.now c.args.near c.context_by-context.result d c.from.result x c.restored.result c.args.left c.args.zeros
    c.args.run.now all c.args.bits.now new c.if-zeros-gt0.false c.context_by-context.ensures fits c.unsigned_abs-magnitude.ensures.value
    (small d c.in_ok-difference.ensures.least c.in_ok-difference.ensures.most) c.from.ensures
    (difference-by c.args.left x Difference s s all told tt refl ∙ read-by (raising Difference) x s all d d c.read.new.self c.read.new.bits some refl)
    c.restored.ensures

pub returns-clause-ok : goal.returns-clause-ok
returns-clause-ok c =
    let fits : to_z w32 (of_z w32 c.context_by-context.result) ≡ c.context_by-context.result = first_of (search rules, omega (arith, ints, c.context_by-context.type_inv), grind (arith, ints)) in
    let new : Coding = coding_ahead c.in_ok-found.found.zeros c.read_difference.new.run c.read_difference.new.states c.read_difference.new.bits in
    sample_now c.args.tables.now c.args.near c.context_by-context.result c.in_ok-found.found.difference c.from-2.result c.unsigned_abs-magnitude.result c.restored-2.result c.args.left c.args.zeros
    c.args.run.now c.args.states.now c.args.bits.now new c.if-zeros-gt0.false c.context_by-context.ensures fits c.unsigned_abs-magnitude.ensures.value
    c.in_ok-found.ensures.small c.from-2.ensures c.in_ok-found.ensures.ok c.restored-2.ensures
