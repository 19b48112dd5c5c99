use Rattle.std.proofs.Common.{◌≡◌, take}
use Rattle.pic_planes.specs.Bytes.{row_start}
use Rattle.codec_c.specs.Samples.{samples_of}
use Rattle.codec_c.proofs.samples.put_plane.Given as goal

abbrev pub invariant-loop-y : goal.invariant-loop-y
invariant-loop-y l =
    (l.at ≡ row_start l.picture.shape l.plane l.y) × (take l.at l.samples ≡ take l.at (samples_of l.picture))
