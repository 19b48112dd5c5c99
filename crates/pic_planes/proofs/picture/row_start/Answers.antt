use Rattle.std.proofs.Common.{◌≡◌, ◌*◌, ap, arith}
use Rattle.pic_planes.specs.Shape.{plane_width}
use Rattle.pic_planes.proofs.Planes.{row_start-fits}
use Rattle.pic_planes.proofs.picture.row_start.Goals as goal

pub returns-clause-within : goal.returns-clause-within
returns-clause-within c =
    let e : c.args.y * c.plane_width.result ≡ c.args.y * plane_width c.args.shape c.args.plane = ap (λ n. c.args.y * n) c.plane_width.ensures.width in
    omega (arith, e, row_start-fits c.args.shape c.args.plane c.args.y c.requires.plane c.requires.y)
