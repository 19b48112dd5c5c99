use Rattle.std.proofs.Common.{◌≡◌, ◌∙◌, ap, arith}
use Rattle.pic_planes.specs.Shape.{plane_count}
use Rattle.work_gen.proofs.Drawing.{none_drawn, plane_drawn, all_drawn}
use Rattle.work_gen.proofs.pictures.draw.Goals as goal

pub loop-plane-preserved : goal.loop-plane-preserved
loop-plane-preserved c =
    let planes : c.plane_count-plane-end.result ≡ 3 = c.plane_count-plane-end.ensures ∙ ap plane_count (c.shape-shape.ensures.shape ∙ c.requires.shape) in
    plane_drawn c.loop-plane.plane c.args.frame c.args.into.now c.loop-plane.into c.draw_plane.new.into c.shape-shape.ensures.sound c.requires.shape (omega (arith, planes, c.loop-plane-test.true))
    c.loop-plane.invariant c.draw_plane.ensures

pub returns : goal.returns
returns c =
    let planes : c.plane_count-plane-end.result ≡ 3 = c.plane_count-plane-end.ensures ∙ ap plane_count (c.shape-shape.ensures.shape ∙ c.requires.shape) in
    all_drawn c.loop-plane.plane c.args.frame c.args.into.now c.loop-plane.into c.shape-shape.ensures.sound c.requires.shape (omega (arith, planes, c.loop-plane-test.false, c.loop-plane.auto.plane-end))
    c.loop-plane.invariant
