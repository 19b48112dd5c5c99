use Rattle.std.proofs.Common.{◌≡◌, take}
use Rattle.pic_planes.specs.Picture.{plane_of}
use Rattle.play_head.specs.Putting.{GotAll}
use Rattle.play_head.proofs.say.put_plane.Given as goal

abbrev pub invariant-loop-y : goal.invariant-loop-y
invariant-loop-y g l = record {
  got : GotAll g.S.Sink.tells (g.S.Sink.seen l.fn.screen) (g.S.Sink.seen l.screen) (take l.y (plane_of l.picture l.plane));
  calm : (g.S.Sink.seen l.screen).faults ≡ (g.S.Sink.seen l.fn.screen).faults;
}
