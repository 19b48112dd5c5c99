use Rattle.std.proofs.Common.{◌≡◌, take}
use Rattle.play_head.specs.Putting.{GotAll}
use Rattle.play_head.proofs.Rows.{all_rows}
use Rattle.play_head.proofs.say.put_picture.Given as goal

abbrev pub invariant-loop-plane : goal.invariant-loop-plane
invariant-loop-plane g l = record {
  got : GotAll g.S.Sink.tells (g.S.Sink.seen l.fn.screen) (g.S.Sink.seen l.screen) (all_rows (take l.plane l.picture.planes));
  calm : (g.S.Sink.seen l.screen).faults ≡ (g.S.Sink.seen l.fn.screen).faults;
}
