use Rattle.std.proofs.Common.{◌≡◌, take}
use Rattle.pic_planes.specs.Bytes.{sizes, sample_count}
use Rattle.codec_c.specs.Samples.{samples_of}
use Rattle.codec_c.proofs.samples.put_samples.Given as goal

abbrev pub invariant-loop-plane : goal.invariant-loop-plane
invariant-loop-plane l =
    (l.at ≡ sample_count (take l.plane (sizes l.picture.shape))) × (take l.at l.samples ≡ take l.at (samples_of l.picture))
