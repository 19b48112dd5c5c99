-- An area more is read.
use Rattle.std.proofs.Common.{◌<◌, ◌∙◌, length, refl, arith}
use Rattle.std.proofs.lemmas.Result.{err_from_is_err_and}
use Rattle.ffv1_slice.specs.declared.area.Area.{Area}
use Rattle.ffv1_slice.specs.Reading.{coding}
use Rattle.ffv1_slice.specs.Slice.{Decoding, decoding}
use Rattle.ffv1_slice.proofs.InTurn.{all_left, one_read, late_here, all_read}
use Rattle.ffv1_slice.proofs.range_part.decode_areas.Goals as goal

pub loop-area-init : goal.loop-area-init
loop-area-init c = record {
  left = all_left c.args.tables.now c.args.areas.now (decoding (coding c.args.reader c.args.contexts.now) c.args.picture.now);
  table = refl;
  kept = c.requires.kept;
  shape = refl;
}

pub returns-in_err-reader-clause-too_long : goal.returns-in_err-reader-clause-too_long
returns-in_err-reader-clause-too_long c =
    let p = err_from_is_err_and c.from_residual.result c.from_residual.ensures.1 in
    let none : Area = record { plane = 0; x = 0; y = 0; width = 0; height = 0 } in
    let within : c.loop-area.area-index < length c.args.areas.now = omega arith in
    let start : Decoding = decoding (coding c.args.reader c.args.contexts.now) c.args.picture.now in
    let now : Decoding = decoding (coding c.loop-area.reader c.loop-area.contexts) c.loop-area.picture in
    rw p.1 (late_here c.args.tables.now c.args.areas.now c.loop-area.area-index none start now within c.loop-area.invariant.left c.in_err-reader.ensures.too_long)

pub loop-area-preserved : goal.loop-area-preserved
loop-area-preserved c =
    let none : Area = record { plane = 0; x = 0; y = 0; width = 0; height = 0 } in
    let within : c.loop-area.area-index < length c.args.areas.now = omega arith in
    let start : Decoding = decoding (coding c.args.reader c.args.contexts.now) c.args.picture.now in
    let now : Decoding = decoding (coding c.loop-area.reader c.loop-area.contexts) c.loop-area.picture in
    let next : Decoding = decoding (coding c.in_ok-reader.reader c.decode_rows.new.contexts) c.decode_rows.new.picture in
    record {
      left = one_read c.args.tables.now c.args.areas.now c.loop-area.area-index none start now next within c.loop-area.invariant.left c.in_ok-reader.ensures.ok;
      table = c.in_ok-reader.ensures.table ∙ c.loop-area.invariant.table;
      kept = c.in_ok-reader.ensures.kept;
      shape = c.decode_rows.ensures.shape ∙ c.loop-area.invariant.shape;
    }

pub returns-clause-ok : goal.returns-clause-ok
returns-clause-ok c =
    let start : Decoding = decoding (coding c.args.reader c.args.contexts.now) c.args.picture.now in
    let now : Decoding = decoding (coding c.loop-area.reader c.loop-area.contexts) c.loop-area.picture in
    all_read c.args.tables.now c.args.areas.now c.loop-area.area-index start now (omega arith) c.loop-area.invariant.left
