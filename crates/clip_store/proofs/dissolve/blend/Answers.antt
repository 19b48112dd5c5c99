use Rattle.std.proofs.Common.{◌≡◌, ap, ◌∙◌, arith}
use Rattle.pic_planes.specs.Shape.{plane_count}
use Rattle.clip_store.proofs.Blending.{plane_put, planes_done}
use Rattle.clip_store.proofs.dissolve.blend.Goals as goal

pub loop-plane-preserved : goal.loop-plane-preserved
loop-plane-preserved c =
    let count : c.plane_count-plane-end.result ≡ plane_count c.args.from.now.shape = c.plane_count-plane-end.ensures ∙ ap plane_count c.shape-shape.ensures.shape in
    plane_put c.args.weight c.loop-plane.plane c.args.from.now c.args.to.now c.loop-plane.picture c.put_plane.new.into c.shape-shape.ensures.sound c.shape-to.ensures.sound c.requires
    (omega (arith, count, c.loop-plane-test.true)) c.loop-plane.invariant c.put_plane.ensures

pub returns : goal.returns
returns c =
    let count : c.plane_count-plane-end.result ≡ plane_count c.args.from.now.shape = c.plane_count-plane-end.ensures ∙ ap plane_count c.shape-shape.ensures.shape in
    planes_done c.args.weight c.loop-plane.plane c.args.from.now c.args.to.now c.loop-plane.picture c.shape-shape.ensures.sound c.shape-to.ensures.sound c.requires
    (omega (arith, count, c.loop-plane-test.false, c.loop-plane.auto.plane-end)) c.loop-plane.invariant
