use Rattle.std.proofs.Common.{◌≡◌, ◌∙◌, ap, arith}
use Rattle.pic_planes.specs.Shape.{Layout, plane_height}
use Rattle.pic_planes.specs.Picture.{IsPicture}
use Rattle.work_gen.specs.Picture.{clip_shape}
use Rattle.work_gen.proofs.Drawing.{row_drawn, rows_drawn}
use Rattle.work_gen.proofs.pictures.draw_plane.Goals as goal

pub loop-y-preserved : goal.loop-y-preserved
loop-y-preserved c =
    let high : c.plane_height-y-end.result ≡ plane_height clip_shape c.args.plane =
    c.plane_height-y-end.ensures.height ∙ ap (λ (s : Layout). plane_height s c.args.plane) (c.shape-shape.ensures.shape ∙ c.requires.shape) in
    let rows =
    row_drawn c.args.plane c.loop-y.y c.args.frame c.args.into.now c.loop-y.into c.draw_row.new.into c.shape-shape.ensures.sound c.requires.shape c.requires.plane (omega (arith, high, c.loop-y-test.true))
    c.loop-y.invariant.rows c.draw_row.ensures in
    record { shape = ap (λ i. i.shape) rows; rows = rows }

pub returns : goal.returns
returns c =
    let high : c.plane_height-y-end.result ≡ plane_height clip_shape c.args.plane =
    c.plane_height-y-end.ensures.height ∙ ap (λ (s : Layout). plane_height s c.args.plane) (c.shape-shape.ensures.shape ∙ c.requires.shape) in
    rows_drawn c.args.plane c.loop-y.y c.args.frame c.args.into.now c.loop-y.into c.shape-shape.ensures.sound c.requires.shape c.requires.plane
    (omega (arith, high, c.loop-y-test.false, c.loop-y.auto.y-end)) c.loop-y.invariant.rows
