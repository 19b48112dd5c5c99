use Rattle.std.proofs.Common.{◌≡◌, take}
use Rattle.pic_planes.specs.Bytes.{sizes, sample_count}
use Rattle.codec_c.specs.Samples.{HasFirst}
use Rattle.codec_c.proofs.samples.picture_of.Given as goal

abbrev pub invariant-loop-plane : goal.invariant-loop-plane
invariant-loop-plane l =
    (l.at ≡ sample_count (take l.plane (sizes l.fn.shape))) × HasFirst l.samples l.at l.picture × (l.picture.shape ≡ l.fn.shape)
