use Rattle.std.proofs.Common.{refl, ◌∙◌, ap, arith}
use Rattle.pic_planes.specs.Shape.{plane_width}
use Rattle.pic_planes.specs.Picture.{Image}
use Rattle.pic_planes.proofs.Planes.{row_read, row_lent}
use Rattle.pic_planes.proofs.picture.Picture.row_mut.Goals as goal

pub returns : goal.returns
returns c = (
  (
    refl,
    λ w.
        row_lent c.self.inside.shape c.self.inside.bytes.items c.args.self.now c.self.inside.bytes.len c.args.plane c.args.y c.row_start-start.result w
        c.self.view_is c.requires.plane c.requires.y c.row_start-start.ensures.start c.self.inside.bytes.ok.0 c.self.invariant,
  ),
  record {
    writes_back = tt;
    row = c.slice_mut.ensures.value ∙ row_read c.self.inside.shape c.self.inside.bytes.items c.args.self.now c.args.plane c.args.y c.row_start-start.result c.plane_width-width.result c.self.inside.bytes.items
        c.self.view_is c.requires.plane c.requires.y c.row_start-start.ensures.start c.plane_width-width.ensures.width refl;
    len = omega (arith, c.slice_mut.ensures.len, ap (λ (i : Image). plane_width i.shape c.args.plane) c.self.view_is);
  },
)
