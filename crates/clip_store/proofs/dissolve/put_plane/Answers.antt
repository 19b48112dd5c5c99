use Rattle.std.proofs.Common.{◌≡◌, ◌∙◌, ap, arith}
use Rattle.pic_planes.specs.Shape.{Layout, plane_height}
use Rattle.clip_store.proofs.Blending.{AreAlike, row_put, rows_done}
use Rattle.clip_store.proofs.dissolve.put_plane.Goals as goal

pub loop-y-preserved : goal.loop-y-preserved
loop-y-preserved c =
    let alike : AreAlike c.args.into.now c.args.from.now c.args.to.now = record {
      whole = c.shape-shape.ensures.sound;
      first = c.shape-from.ensures.sound;
      second = c.shape-to.ensures.sound;
      first_shape = c.requires.from;
      second_shape = c.requires.to;
    } in
    let high : c.plane_height-y-end.result ≡ plane_height c.args.into.now.shape c.args.plane =
    c.plane_height-y-end.ensures.height ∙ ap (λ (s : Layout). plane_height s c.args.plane) c.shape-shape.ensures.shape in
    let rows =
    row_put c.args.weight c.args.plane c.loop-y.y c.args.into.now c.args.from.now c.args.to.now c.loop-y.into c.put_row.new.into alike c.requires.plane (omega (arith, high, c.loop-y-test.true))
    c.loop-y.invariant.rows c.put_row.ensures in
    record { shape = ap (λ i. i.shape) rows; rows = rows }

pub returns : goal.returns
returns c =
    let alike : AreAlike c.args.into.now c.args.from.now c.args.to.now = record {
      whole = c.shape-shape.ensures.sound;
      first = c.shape-from.ensures.sound;
      second = c.shape-to.ensures.sound;
      first_shape = c.requires.from;
      second_shape = c.requires.to;
    } in
    let high : c.plane_height-y-end.result ≡ plane_height c.args.into.now.shape c.args.plane =
    c.plane_height-y-end.ensures.height ∙ ap (λ (s : Layout). plane_height s c.args.plane) c.shape-shape.ensures.shape in
    rows_done c.args.weight c.args.plane c.loop-y.y c.args.into.now c.args.from.now c.args.to.now c.loop-y.into alike c.requires.plane (omega (arith, high, c.loop-y-test.false, c.loop-y.auto.y-end)) c.loop-y.invariant.rows
