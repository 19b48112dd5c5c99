use Rattle.std.proofs.Common.{◌≡◌, ◌<◌, ◌+◌, ap, sym, ◌∙◌, subst, arith}
use Rattle.pic_planes.specs.Shape.{Layout, plane_count, plane_width, plane_height}
use Rattle.pic_planes.specs.Bytes.{sizes, sample_count, row_start}
use Rattle.pic_planes.proofs.Planes.{row_start-fits}
use Rattle.codec_c.proofs.Flat.{taken_step}
use Rattle.codec_c.proofs.samples.take_plane.Goals as goal

pub row_at-row-requires : goal.row_at-row-requires
row_at-row-requires c =
    let row_lt : c.loop-y.y < plane_height c.args.picture.now.shape c.args.plane =
    let P : Layout → Type 0 = λ s. c.loop-y.y < plane_height s c.args.plane in
    subst P c.shape-shape.ensures.shape (omega (arith, c.plane_height-y-end.ensures.height, c.loop-y-test.true)) in
    let fits = row_start-fits c.args.picture.now.shape c.args.plane c.loop-y.y c.requires.plane row_lt in
    omega (arith, c.requires.len, c.loop-y.invariant.1, c.loop-y.invariant.0, fits)

pub loop-y-preserved : goal.loop-y-preserved
loop-y-preserved c =
    let old = c.loop-y.picture in
    let same : old.shape ≡ c.args.picture.now.shape = c.loop-y.invariant.3 in
    let row_lt : c.loop-y.y < plane_height c.args.picture.now.shape c.args.plane =
    let P : Layout → Type 0 = λ s. c.loop-y.y < plane_height s c.args.plane in
    subst P c.shape-shape.ensures.shape (omega (arith, c.plane_height-y-end.ensures.height, c.loop-y-test.true)) in
    let plane : c.args.plane < plane_count old.shape = subst (λ (s : Layout). c.args.plane < plane_count s) (sym same) c.requires.plane in
    let row : c.loop-y.y < plane_height old.shape c.args.plane = subst (λ (s : Layout). c.loop-y.y < plane_height s c.args.plane) (sym same) row_lt in
    let step = taken_step old c.put_samples.new.self c.args.samples.now c.row_at-row.result.now c.args.plane c.loop-y.y c.loop-y.at c.plane_width-width.result plane row
    (c.requires.len ∙ ap (λ (s : Layout). sample_count (sizes s)) (sym same)) (c.loop-y.invariant.0 ∙ ap (λ (s : Layout). row_start s c.args.plane c.loop-y.y) (sym same))
    (c.loop-y.invariant.1 ∙ ap (λ (s : Layout). plane_width s c.args.plane) (sym same)) c.loop-y.invariant.2 c.row_at-row.ensures.row c.put_samples.ensures in (
      step.0 ∙ ap (λ (s : Layout). row_start s c.args.plane (c.loop-y.y + 1)) same,
      c.loop-y.invariant.1,
      step.1,
      step.2 ∙ same,
    )
