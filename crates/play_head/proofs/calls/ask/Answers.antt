use Rattle.tl_model.specs.declared.journal.Act.TheVariants as act
use Rattle.render_core.specs.Board.{of_ask}
use Rattle.edit_desk.proofs.Heard.{hears_enters, hears_learns}
use Rattle.play_head.specs.Told.{ask_line}
use Rattle.play_head.proofs.Speaking.{ask-plain, says, refuses, ask_line-is}
use Rattle.play_head.proofs.calls.ask.Goals as goal

pub returns-in-Ok : goal.returns-in-Ok
returns-in-Ok g c =
    says g.D.Lib.Media.library g.O.Sink.tells (g.D.Desk.desk c.args.desk.now) (g.D.Desk.desk c.ask_export.new.self) (g.O.Sink.seen c.args.out.now) (g.O.Sink.seen c.speak_ask.new.out) (act.Ask c.args.name.now) (of_ask c.in-Ok.told) (ask_line c.in-Ok.told) c.speak_ask.result
    (ask-plain _ c.in-Ok.told) (hears_enters g.D.Lib.Media.library _ _ _ _ c.in-Ok.ensures) (ask_line-is (g.D.Lib.Media.library (g.D.Desk.desk c.args.desk.now).fixed.library) 0 c.in-Ok.told) c.speak_ask.ensures

pub returns-in-Err : goal.returns-in-Err
returns-in-Err g c =
    refuses g.D.Lib.Media.library g.O.Sink.tells (g.D.Desk.desk c.args.desk.now) (g.D.Desk.desk c.ask_export.new.self) (g.O.Sink.seen c.args.out.now) (act.Ask c.args.name.now) c.in-Err.why c.halt_for.result c.halt_for.ensures
    (hears_learns g.D.Lib.Media.library _ _ c.in-Err.ensures.0, c.in-Err.ensures.1)
