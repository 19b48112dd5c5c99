-- An area more is read.
use Rattle.std.proofs.Common.{◌<◌, ◌∙◌, length, arith}
use Rattle.ffv1_slice.specs.declared.area.Area.{Area}
use Rattle.ffv1_golomb.specs.Slice.{Decoding, decoding, ReadsArea, OutOfRangeInArea}
use Rattle.ffv1_golomb.proofs.TurnSteps.{one_done}
use Rattle.ffv1_golomb.proofs.read_part.decode_areas.Goals as goal

pub loop-area-preserved : goal.loop-area-preserved
loop-area-preserved c =
    let none : Area = record { plane = 0; x = 0; y = 0; width = 0; height = 0 } in
    let within : c.loop-area.area-index < length c.args.areas.now = omega arith in
    let start : Decoding = decoding c.args.states.now c.args.bits c.args.picture.now in
    let now : Decoding = decoding c.loop-area.states c.loop-area.bits c.loop-area.picture in
    let next : Decoding = decoding c.decode_rows.new.states c.in_ok-bits.bits c.decode_rows.new.picture in
    record {
      left = one_done (ReadsArea c.args.tables.now) (OutOfRangeInArea c.args.tables.now) c.args.areas.now c.loop-area.area-index none start now next within c.loop-area.invariant.left c.in_ok-bits.ensures.ok;
      shape = c.decode_rows.ensures.shape ∙ c.loop-area.invariant.shape;
    }
