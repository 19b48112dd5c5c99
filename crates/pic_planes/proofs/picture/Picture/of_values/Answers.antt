use Rattle.std.proofs.Common.{ap, ◌∙◌}
use Rattle.pic_planes.specs.Bytes.{image_in}
use Rattle.pic_planes.proofs.Planes.{image_in-values}
use Rattle.pic_planes.proofs.picture.Picture.of_values.Goals as goal

pub returns : goal.returns
returns c = ap (image_in c.args.shape) c.in_ok-bytes.ensures ∙ image_in-values c.args.shape c.args.luma c.args.chroma
