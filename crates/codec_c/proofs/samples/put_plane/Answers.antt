use Rattle.std.proofs.Common.{◌≡◌, ◌<◌, ◌+◌, length, take, ap, sym, ◌∙◌, subst, arith}
use Rattle.pic_planes.specs.Shape.{Layout, plane_height}
use Rattle.pic_planes.proofs.Planes.{row_start-fits}
use Rattle.codec_c.specs.Samples.{samples_of}
use Rattle.codec_c.proofs.Flat.{put_step}
use Rattle.codec_c.proofs.samples.put_plane.Goals as goal

pub put_row-at-requires : goal.put_row-at-requires
put_row-at-requires c =
    let row_lt : c.loop-y.y < plane_height c.args.picture.now.shape c.args.plane =
    let P : Layout → Type 0 = λ s. c.loop-y.y < plane_height s c.args.plane in
    subst P c.shape.ensures.shape (omega (arith, c.plane_height-y-end.ensures.height, c.loop-y-test.true)) in
    let fits = row_start-fits c.args.picture.now.shape c.args.plane c.loop-y.y c.requires.plane row_lt in
    omega (arith, c.requires.len, c.row.ensures.len, c.loop-y.invariant.0, c.loop-y.auto.samples, fits)

pub loop-y-preserved : goal.loop-y-preserved
loop-y-preserved c =
    let row_lt : c.loop-y.y < plane_height c.args.picture.now.shape c.args.plane =
    let P : Layout → Type 0 = λ s. c.loop-y.y < plane_height s c.args.plane in
    subst P c.shape.ensures.shape (omega (arith, c.plane_height-y-end.ensures.height, c.loop-y-test.true)) in
    let step = put_step c.args.picture.now c.loop-y.samples c.put_row-at.new.samples c.row.result.now c.args.plane c.loop-y.y c.loop-y.at c.shape.ensures.sound c.requires.plane row_lt
    (c.loop-y.auto.samples ∙ c.requires.len) c.loop-y.invariant.0 c.loop-y.invariant.1 c.row.ensures.row c.row.ensures.len c.put_row-at.ensures.pasted in
    let end : c.put_row-at.result ≡ c.loop-y.at + length c.row.result.now = c.put_row-at.ensures.end in (
      end ∙ step.0,
      ap (λ k. take k c.put_row-at.new.samples) end ∙ step.1 ∙ ap (λ k. take k (samples_of c.args.picture.now)) (sym end),
    )
