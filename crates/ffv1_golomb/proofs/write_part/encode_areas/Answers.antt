-- An area more is written.
use Rattle.std.proofs.Common.{◌<◌, ◌∙◌, length, arith}
use Rattle.ffv1_slice.specs.declared.area.Area.{Area}
use Rattle.ffv1_golomb.specs.Writing.{Encoding, encoding, WritesArea}
use Rattle.ffv1_golomb.proofs.TurnSteps.{one_done}
use Rattle.ffv1_golomb.proofs.write_part.encode_areas.Goals as goal

pub loop-area-preserved : goal.loop-area-preserved
loop-area-preserved c =
    let none : Area = record { plane = 0; x = 0; y = 0; width = 0; height = 0 } in
    let within : c.loop-area.area-index < length c.args.areas.now = omega arith in
    let start : Encoding = encoding c.args.states.now c.args.bits.now in
    let now : Encoding = encoding c.loop-area.states c.loop-area.bits in
    let next : Encoding = encoding c.encode_rows.new.states c.encode_rows.new.bits in
    record {
      left = one_done (WritesArea c.args.tables.now c.args.picture.now) (λ area e. ⊥) c.args.areas.now c.loop-area.area-index none start now next within c.loop-area.invariant.left c.in_ok-encode_rows.ensures.ok;
      room = (c.encode_rows.ensures.room.0 ∙ c.loop-area.invariant.room.0, c.encode_rows.ensures.room.1 ∙ c.loop-area.invariant.room.1);
    }
