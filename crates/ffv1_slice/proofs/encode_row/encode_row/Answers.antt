-- A sample more is written, from the neighbours that the definition looks up.
use Rattle.std.proofs.Common.{◌≡◌, ◌∙◌, refl, subst, slice_index_or}
use Rattle.ffv1_predict.specs.declared.near.Near.{Near}
use Rattle.ffv1_predict.specs.Border.{Rows, rows, near}
use Rattle.ffv1_slice.specs.Writing.{Encoding, encoding, WritesSample}
use Rattle.ffv1_slice.proofs.Rows.{next_sample}
use Rattle.ffv1_slice.proofs.encode_row.encode_row.Goals as goal

pub loop-x-init : goal.loop-x-init
loop-x-init c = record { written = refl; left = c.start-left.ensures c.args.row.now; table = refl; kept = c.requires.kept }

pub loop-x-preserved : goal.loop-x-preserved
loop-x-preserved c =
    let r : Rows = rows c.args.above2.now c.args.above.now c.args.row.now in
    let seen : c.near-near.result ≡ near r c.loop-x.x = c.near-near.ensures c.args.row.now c.loop-x.invariant.left in
    let start : Encoding = encoding c.args.writer.now c.args.contexts.now in
    let old : Encoding = encoding c.loop-x.writer c.loop-x.contexts in
    let new : Encoding = encoding c.write_sample.new.writer c.write_sample.new.contexts in
    let Writes : Near → Type 0 = λ n. WritesSample c.args.tables.now n (slice_index_or c.args.row.now c.loop-x.x 0) old new in
    record {
      written = next_sample (WritesSample c.args.tables.now) r c.loop-x.x start old new c.loop-x.invariant.written (subst Writes seen c.in_ok-write_sample.ensures.ok);
      left = c.after-left.ensures r c.loop-x.x seen refl;
      table = c.write_sample.ensures.table ∙ c.loop-x.invariant.table;
      kept = c.write_sample.ensures.kept;
    }
