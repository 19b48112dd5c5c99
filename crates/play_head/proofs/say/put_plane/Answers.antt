use Rattle.std.proofs.Common.{◌<◌, length, ap, arith}
use Rattle.pic_planes.specs.Picture.{plane_of}
use Rattle.pic_planes.specs.Shape.{Layout, plane_height}
use Rattle.play_head.proofs.Rows.{row_refused}
use Rattle.play_head.proofs.say.put_plane.Goals as goal

pub returns-in-Err-clause-got : goal.returns-in-Err-clause-got
returns-in-Err-clause-got g c =
    (let rows = plane_of c.args.picture.now c.args.plane in
    let whole = (c.shape.ensures.sound.planes c.args.plane c.requires).len in
    let same = ap (λ (s : Layout). plane_height s c.args.plane) c.shape.ensures.shape in
    let h : c.loop-y.y < length rows = omega (arith, whole, same, c.plane_height-height.ensures.height, c.loop-y-test.true) in
    row_refused g.S.Sink.tells (g.S.Sink.seen c.args.screen.now) (g.S.Sink.seen c.loop-y.screen) (g.S.Sink.seen c.put.new.self) rows c.loop-y.y c.row.result.now c.in-Err.fault h c.row.ensures.row c.loop-y.invariant.got c.in-Err.ensures.added)
