use Rattle.std.proofs.Common.{◌≡◌, ◌∙◌, refl, arith}
use Rattle.codec_c.proofs.Flat.{first_none, next_plane, taken_all}
use Rattle.codec_c.proofs.samples.picture_of.Goals as goal

pub loop-plane-init : goal.loop-plane-init
loop-plane-init c =
    let none = first_none c.in_ok-picture.picture c.args.shape c.args.samples.now c.in_ok-picture.ensures c.requires in
    (refl, none.0, none.1)

pub loop-plane-preserved : goal.loop-plane-preserved
loop-plane-preserved c =
    let same = c.loop-plane.invariant.2 in (
      next_plane c.args.shape c.loop-plane.picture.shape c.loop-plane.plane c.take_plane-at.result same (omega (arith, c.plane_count-plane-end.ensures, c.loop-plane-test.true)) c.take_plane-at.ensures.end,
      c.take_plane-at.ensures.first,
      c.take_plane-at.ensures.shape ∙ same,
    )

pub returns : goal.returns
returns c =
    let last : c.loop-plane.plane ≡ c.plane_count-plane-end.result = omega (arith, c.loop-plane-test.false, c.loop-plane.auto.plane-end) in
    taken_all c.loop-plane.picture c.args.shape c.args.samples.now c.loop-plane.plane c.loop-plane.at c.requires (last ∙ c.plane_count-plane-end.ensures)
    c.loop-plane.invariant.0 c.loop-plane.invariant.1 c.loop-plane.invariant.2
