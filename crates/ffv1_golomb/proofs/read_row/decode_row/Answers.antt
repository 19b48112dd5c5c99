-- A sample more is read, from the neighbours that the definition looks up.
use Rattle.std.proofs.Common.{◌≡◌, ◌<◌, ◌-◌, ℕ, length, arith, slice_set}
use Rattle.ffv1_rice.specs.Runs.{Coding, coding, source}
use Rattle.ffv1_predict.specs.Border.{Rows, rows, near}
use Rattle.ffv1_slice.proofs.Rows.{left_more, set_here}
use Rattle.ffv1_golomb.specs.Reading.{Line, line_begun}
use Rattle.ffv1_golomb.specs.Ahead.{coding_ahead}
use Rattle.ffv1_golomb.proofs.RowSteps.{row_begun, row_more, row_done}
use Rattle.ffv1_golomb.proofs.read_row.decode_row.Goals as goal

pub loop-x-init : goal.loop-x-init
loop-x-init c = record {
  read = row_begun (length c.args.row.now) c.args.run.now c.start_line.new.self c.args.states.now c.args.bits c.start_line.ensures;
  left = c.start-left.ensures c.args.row.now;
  in_run = λ some. absurd (omega arith);
  few = omega arith;
}

pub loop-x-preserved : goal.loop-x-preserved
loop-x-preserved c =
    let r : Rows = rows c.args.above2.now c.args.above.now c.loop-x.row in
    let seen : c.near-near.result ≡ near r c.loop-x.x = c.near-near.ensures c.loop-x.row c.loop-x.invariant.left in
    let within : c.loop-x.x < length c.loop-x.row = omega arith in
    let width : ℕ = length c.args.row.now in
    let rest : ℕ = length c.loop-x.row - c.loop-x.x in
    let same : length c.loop-x.row ≡ width = omega arith in
    let is : rest ≡ width - c.loop-x.x = omega arith in
    let sample : ℕ = c.in_ok-seen.seen.sample in
    let old : Coding = coding_ahead c.loop-x.zeros c.loop-x.here c.loop-x.states c.loop-x.bits in
    let new : Coding = coding_ahead c.in_ok-seen.seen.zeros c.read_sample.new.run c.read_sample.new.states c.read_sample.new.bits in
    let start : Line = line_begun width (coding (source c.args.run.now c.args.bits) c.args.states.now) in
    record {
      read = row_more c.args.tables.now c.args.above2.now c.args.above.now c.loop-x.row c.loop-x.x width rest sample c.near-near.result start old new within is seen c.loop-x.invariant.read c.in_ok-seen.ensures.ok;
      left = c.after-left.ensures (rows c.args.above2.now c.args.above.now (slice_set c.loop-x.row c.loop-x.x sample)) c.loop-x.x (left_more c.args.above2.now c.args.above.now c.loop-x.row c.loop-x.x sample c.near-near.result within seen) (set_here c.loop-x.row c.loop-x.x sample within);
      in_run = c.in_ok-seen.ensures.in_run;
      few = omega (arith, c.in_ok-seen.ensures.fits);
    }

pub returns-clause-ok : goal.returns-clause-ok
returns-clause-ok c =
    let r : Rows = rows c.args.above2.now c.args.above.now c.loop-x.row in
    let all : c.loop-x.x ≡ length c.loop-x.row = omega arith in
    let same : length c.args.row.now ≡ length c.loop-x.row = omega arith in
    row_done c.args.tables.now r c.loop-x.x (length c.args.row.now) c.loop-x.zeros (coding (source c.args.run.now c.args.bits) c.args.states.now) c.loop-x.here c.loop-x.states c.loop-x.bits all same c.loop-x.invariant.few c.loop-x.invariant.read
