use Rattle.std.proofs.Common.{arith}
use Rattle.pic_planes.proofs.Planes.{IsPicture-image_in}
use Rattle.pic_planes.proofs.picture.shape_of.Goals as goal

pub returns-clause-sound : goal.returns-clause-sound
returns-clause-sound c = IsPicture-image_in c.args.shape c.args.bytes.now c.width-width.ensures.sound c.requires (λ x. omega (arith, c.type_inv.bytes x))
