use Rattle.std.proofs.Common.{◌≡◌}
use Rattle.pic_planes.specs.Shape.{plane_width}
use Rattle.pic_planes.specs.Bytes.{row_start}
use Rattle.codec_c.specs.Samples.{HasFirst}
use Rattle.codec_c.proofs.samples.take_plane.Given as goal

abbrev pub invariant-loop-y : goal.invariant-loop-y
invariant-loop-y l =
    (l.at ≡ row_start l.fn.picture.shape l.plane l.y) × (l.width ≡ plane_width l.fn.picture.shape l.plane) × HasFirst l.samples l.at l.picture × (l.picture.shape ≡ l.fn.picture.shape)
