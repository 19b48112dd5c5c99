use Rattle.pic_planes.proofs.Planes.{row_read}
use Rattle.pic_planes.proofs.picture.Picture.row.Goals as goal

pub returns-clause-row : goal.returns-clause-row
returns-clause-row c =
    row_read c.self.inside.shape c.self.inside.bytes.items c.args.self.now c.args.plane c.args.y c.row_start-start.result c.plane_width-width.result c.deref.result.now
    c.self.view_is c.requires.plane c.requires.y c.row_start-start.ensures.start c.plane_width-width.ensures.width c.deref.ensures.value
