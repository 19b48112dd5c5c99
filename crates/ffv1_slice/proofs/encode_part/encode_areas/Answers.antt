-- An area more is written.
use Rattle.std.proofs.Common.{◌<◌, ◌∙◌, length, refl, arith}
use Rattle.ffv1_slice.specs.declared.area.Area.{Area}
use Rattle.ffv1_slice.specs.Writing.{Encoding, encoding}
use Rattle.ffv1_slice.proofs.InTurn.{all_unwritten, one_written, all_written}
use Rattle.ffv1_slice.proofs.encode_part.encode_areas.Goals as goal

pub loop-area-init : goal.loop-area-init
loop-area-init c = record {
  left = all_unwritten c.args.tables.now c.args.picture.now c.args.areas.now (encoding c.args.writer.now c.args.contexts.now);
  table = refl;
  kept = c.requires.kept;
}

pub loop-area-preserved : goal.loop-area-preserved
loop-area-preserved c =
    let none : Area = record { plane = 0; x = 0; y = 0; width = 0; height = 0 } in
    let within : c.loop-area.area-index < length c.args.areas.now = omega arith in
    let start : Encoding = encoding c.args.writer.now c.args.contexts.now in
    let now : Encoding = encoding c.loop-area.writer c.loop-area.contexts in
    let next : Encoding = encoding c.encode_rows.new.writer c.encode_rows.new.contexts in
    record {
      left = one_written c.args.tables.now c.args.picture.now c.args.areas.now c.loop-area.area-index none start now next within c.loop-area.invariant.left c.in_ok-encode_rows.ensures.ok;
      table = c.encode_rows.ensures.table ∙ c.loop-area.invariant.table;
      kept = c.encode_rows.ensures.kept;
    }

pub returns-clause-ok : goal.returns-clause-ok
returns-clause-ok c =
    let start : Encoding = encoding c.args.writer.now c.args.contexts.now in
    let now : Encoding = encoding c.loop-area.writer c.loop-area.contexts in
    all_written c.args.tables.now c.args.picture.now c.args.areas.now c.loop-area.area-index start now (omega arith) c.loop-area.invariant.left
