-- A sample more is gathered, from the neighbours that the definition looks up.
use Rattle.std.proofs.Common.{rules, ◌≡◌, ℕ, length, refl, subst, arith, to_z, of_z, w8, w32}
use Rattle.std.specs.Prelude.{slice_index}
use Rattle.std.proofs.lemmas.Int.{ints}
use Rattle.ffv1_predict.specs.Border.{Rows, rows, near}
use Rattle.ffv1_golomb.specs.Gathered.{IsGathered}
use Rattle.ffv1_golomb.proofs.WriteSteps.{none_gathered, one_gathered, magnitude_is, difference_is}
use Rattle.ffv1_golomb.proofs.write_row.gather.Goals as goal

pub loop-x-init : goal.loop-x-init
loop-x-init c = record {
  gathered = none_gathered c.args.tables.now (rows c.args.above2.now c.args.above.now c.args.row.now) c.args.contexts.now c.args.differences.now;
  left = c.start-left.ensures c.args.row.now;
}

pub loop-x-preserved : goal.loop-x-preserved
loop-x-preserved c =
    let r : Rows = rows c.args.above2.now c.args.above.now c.args.row.now in
    let x : ℕ = c.loop-x.x in
    let seen : c.near-near.result ≡ near r x = c.near-near.ensures c.args.row.now c.loop-x.invariant.left in
    let context_fits : to_z w32 (of_z w32 c.context-context.result) ≡ c.context-context.result = first_of (search rules, omega (arith, ints)) in
    let fits : to_z w8 (of_z w8 c.difference.result) ≡ c.difference.result = first_of (search rules, omega (arith, ints)) in
    record {
      gathered = one_gathered c.args.tables.now r x c.loop-x.contexts c.loop-x.differences c.magnitude.result (to_z w8 (of_z w8 c.difference.result)) (omega arith) (omega arith) c.loop-x.invariant.gathered
          (magnitude_is c.args.tables.now c.near-near.result (near r x) c.context-context.result c.magnitude.result c.magnitude.ensures context_fits c.context-context.ensures seen)
          (difference_is c.args.tables.now c.near-near.result (near r x) c.context-context.result c.difference.result (slice_index c.args.row.now x) c.difference.ensures context_fits fits c.context-context.ensures seen);
      left = c.after-left.ensures r x seen refl;
    }

pub returns : goal.returns
returns c =
    let all : c.loop-x.x ≡ length c.args.row.now = omega arith in
    let Gathered : ℕ → Type 0 = λ k. IsGathered c.args.tables.now (rows c.args.above2.now c.args.above.now c.args.row.now) k c.loop-x.contexts c.loop-x.differences in
    subst Gathered all c.loop-x.invariant.gathered
