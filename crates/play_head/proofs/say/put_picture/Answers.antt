use Rattle.std.proofs.Common.{◌<◌, length, refl, ap, arith}
use Rattle.pic_planes.specs.Picture.{plane_of}
use Rattle.pic_planes.specs.Shape.{plane_count}
use Rattle.play_head.proofs.Rows.{plane_refused}
use Rattle.play_head.proofs.say.put_picture.Goals as goal

pub returns-in-Err-clause-got : goal.returns-in-Err-clause-got
returns-in-Err-clause-got g c =
    (let planes = c.args.picture.now.planes in
    let same = ap plane_count c.shape.ensures.shape in
    let whole = c.shape.ensures.sound.count in
    let h : c.loop-plane.plane < length planes = omega (arith, whole, same, c.plane_count-count.ensures, c.loop-plane-test.true) in
    plane_refused g.S.Sink.tells (g.S.Sink.seen c.args.screen.now) (g.S.Sink.seen c.loop-plane.screen) (g.S.Sink.seen c.put_plane.new.screen) planes c.loop-plane.plane (plane_of c.args.picture.now c.loop-plane.plane) c.in-Err.fault h refl c.loop-plane.invariant.got c.in-Err.ensures.got)
