-- A sample more is read, from the neighbours that the definition looks up.
use Rattle.std.proofs.Common.{◌≡◌, ◌<◌, ◌∙◌, length, refl, subst, arith, slice_set}
use Rattle.std.proofs.lemmas.Result.{err_from_is_err_and}
use Rattle.ffv1_predict.specs.declared.near.Near.{Near}
use Rattle.ffv1_predict.specs.Border.{Rows, rows, near}
use Rattle.ffv1_slice.specs.Reading.{Coding, coding, ReadsSample}
use Rattle.ffv1_slice.proofs.Rows.{one_more, left_more, set_here, none_at}
use Rattle.ffv1_slice.proofs.range_row.decode_row.Goals as goal

pub loop-x-init : goal.loop-x-init
loop-x-init c = record { read = refl; left = c.start-left.ensures c.args.row.now; table = refl; kept = c.requires.kept }

pub returns-in_err-sample-clause-too_long : goal.returns-in_err-sample-clause-too_long
returns-in_err-sample-clause-too_long c =
    let p = err_from_is_err_and c.from_residual.result c.from_residual.ensures.1 in
    let r : Rows = rows c.args.above2.now c.args.above.now c.loop-x.row in
    let seen : c.near-near.result ≡ near r c.loop-x.x = c.near-near.ensures c.loop-x.row c.loop-x.invariant.left in
    let old : Coding = coding c.loop-x.reader c.loop-x.contexts in
    let new : Coding = coding c.read_sample.new.reader c.read_sample.new.contexts in
    rw p.1 (record {
      column = c.loop-x.x;
      within = omega arith;
      mid = old;
      new = new;
      before = c.loop-x.invariant.read;
      too_long = none_at c.args.tables.now r c.loop-x.x c.near-near.result old new seen c.in_err-sample.ensures.too_long;
    })

pub loop-x-preserved : goal.loop-x-preserved
loop-x-preserved c =
    let r : Rows = rows c.args.above2.now c.args.above.now c.loop-x.row in
    let seen : c.near-near.result ≡ near r c.loop-x.x = c.near-near.ensures c.loop-x.row c.loop-x.invariant.left in
    let within : c.loop-x.x < length c.loop-x.row = omega arith in
    let old : Coding = coding c.loop-x.reader c.loop-x.contexts in
    let new : Coding = coding c.read_sample.new.reader c.read_sample.new.contexts in
    let start : Coding = coding c.args.reader c.args.contexts.now in
    let Reads : Near → Type 0 = λ n. ReadsSample c.args.tables.now n c.in_ok-sample.sample old new in
    record {
      read = one_more (ReadsSample c.args.tables.now) c.args.above2.now c.args.above.now c.loop-x.row c.loop-x.x c.in_ok-sample.sample start old new within c.loop-x.invariant.read (subst Reads seen c.in_ok-sample.ensures.ok);
      left = c.after-left.ensures (rows c.args.above2.now c.args.above.now (slice_set c.loop-x.row c.loop-x.x c.in_ok-sample.sample)) c.loop-x.x (left_more c.args.above2.now c.args.above.now c.loop-x.row c.loop-x.x c.in_ok-sample.sample c.near-near.result within seen) (set_here c.loop-x.row c.loop-x.x c.in_ok-sample.sample within);
      table = c.read_sample.ensures.table ∙ c.loop-x.invariant.table;
      kept = c.read_sample.ensures.kept;
    }
