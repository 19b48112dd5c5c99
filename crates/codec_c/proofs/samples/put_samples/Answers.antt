use Rattle.std.proofs.Common.{◌≡◌, ap, ◌∙◌, arith}
use Rattle.pic_planes.specs.Shape.{plane_count}
use Rattle.codec_c.proofs.Flat.{put_all}
use Rattle.codec_c.proofs.samples.put_samples.Goals as goal

pub returns : goal.returns
returns c =
    let last : c.loop-plane.plane ≡ c.plane_count-plane-end.result = omega (arith, c.loop-plane-test.false, c.loop-plane.auto.plane-end) in
    put_all c.args.picture.now c.loop-plane.samples c.loop-plane.plane c.loop-plane.at c.shape.ensures.sound (c.loop-plane.auto.samples ∙ c.requires)
    (last ∙ c.plane_count-plane-end.ensures ∙ ap plane_count c.shape.ensures.shape) c.loop-plane.invariant.0 c.loop-plane.invariant.1
