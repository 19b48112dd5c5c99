use Rattle.std.proofs.Common.{◌∙◌}
use Rattle.tl_model.specs.declared.journal.Act.TheVariants as act
use Rattle.render_core.specs.Board.{of_want}
use Rattle.edit_desk.proofs.Heard.{hears_enters, hears_learns}
use Rattle.play_head.specs.Told.{want_line}
use Rattle.play_head.proofs.Speaking.{want-plain, says, refuses, listed, want_line-listed, want_line-is}
use Rattle.play_head.proofs.calls.want.Goals as goal

pub speak-requires : goal.speak-requires
speak-requires g c = listed c.want_line.result (want_line c.in-Ok.told) c.want_line.ensures (want_line-listed c.in-Ok.told)

pub returns-in-Ok : goal.returns-in-Ok
returns-in-Ok g c =
    says g.D.Lib.Media.library g.O.Sink.tells (g.D.Desk.desk c.args.desk.now) (g.D.Desk.desk c.want.new.self) (g.O.Sink.seen c.args.out.now) (g.O.Sink.seen c.speak.new.out) (act.Want c.args.first c.args.len) (of_want c.in-Ok.told) c.want_line.result c.speak.result
    (want-plain _ c.in-Ok.told) (hears_enters g.D.Lib.Media.library _ _ _ _ c.in-Ok.ensures) (c.want_line.ensures ∙ want_line-is (g.D.Lib.Media.library (g.D.Desk.desk c.args.desk.now).fixed.library) 0 c.in-Ok.told) c.speak.ensures

pub returns-in-Err : goal.returns-in-Err
returns-in-Err g c =
    refuses g.D.Lib.Media.library g.O.Sink.tells (g.D.Desk.desk c.args.desk.now) (g.D.Desk.desk c.want.new.self) (g.O.Sink.seen c.args.out.now) (act.Want c.args.first c.args.len) c.in-Err.why c.halt_for.result c.halt_for.ensures
    (hears_learns g.D.Lib.Media.library _ _ c.in-Err.ensures.0, c.in-Err.ensures.1)
