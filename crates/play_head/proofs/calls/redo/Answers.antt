use Rattle.std.proofs.Common.{refl}
use Rattle.tl_model.specs.declared.journal.Act.TheVariants as act
use Rattle.render_core.specs.Board.{of_edit}
use Rattle.edit_desk.proofs.Heard.{hears_enters, hears_learns}
use Rattle.play_head.specs.Told.{edit_line}
use Rattle.play_head.proofs.Speaking.{says, refuses}
use Rattle.play_head.proofs.calls.redo.Goals as goal

pub returns-in-Ok : goal.returns-in-Ok
returns-in-Ok g c =
    says g.D.Lib.Media.library g.O.Sink.tells (g.D.Desk.desk c.args.desk.now) (g.D.Desk.desk c.redo.new.self) (g.O.Sink.seen c.args.out.now) (g.O.Sink.seen c.speak_edit.new.out) (act.Redo) (of_edit c.in-Ok.told) (edit_line c.in-Ok.told) c.speak_edit.result
    tt (hears_enters g.D.Lib.Media.library _ _ _ _ c.in-Ok.ensures) refl c.speak_edit.ensures

pub returns-in-Err : goal.returns-in-Err
returns-in-Err g c =
    refuses g.D.Lib.Media.library g.O.Sink.tells (g.D.Desk.desk c.args.desk.now) (g.D.Desk.desk c.redo.new.self) (g.O.Sink.seen c.args.out.now) (act.Redo) c.in-Err.why c.halt_for.result c.halt_for.ensures
    (hears_learns g.D.Lib.Media.library _ _ c.in-Err.ensures.0, c.in-Err.ensures.1)
