use Rattle.std.proofs.Common.{refl}
use Rattle.tl_model.specs.declared.journal.Act.TheVariants as act
use Rattle.render_core.specs.Board.{of_play}
use Rattle.edit_desk.proofs.Heard.{hears_enters, hears_learns}
use Rattle.play_head.specs.Giving.{play_line, play_rows}
use Rattle.play_head.proofs.Acting.{given, unsaid, refused_act}
use Rattle.play_head.proofs.Giving.{play-answer, play_line-is, play_rows-are}
use Rattle.play_head.proofs.pictures.play.Goals as goal

pub returns-in-Ok-speak_play : goal.returns-in-Ok-speak_play
returns-in-Ok-speak_play g c =
    given _ _ _ (act.Play c.args.n) (of_play c.in-Ok.told) (play_line c.args.n c.in-Ok.told) (play_rows c.in-Ok.told) c.screen_play.result tt (play-answer c.in-Ok.told)
    (hears_enters _ _ _ _ _ c.in-Ok.ensures.told) (play_line-is (g.D.Lib.Media.library (g.D.Desk.desk c.args.desk.now).fixed.library) c.args.n c.in-Ok.told) (play_rows-are (g.D.Lib.Media.library (g.D.Desk.desk c.args.desk.now).fixed.library) c.in-Ok.told) c.in-Ok-speak_play.ensures c.screen_play.ensures

pub returns-in-Ok : goal.returns-in-Ok
returns-in-Ok g c =
    unsaid _ _ _ (act.Play c.args.n) (of_play c.in-Ok.told) (play_line c.args.n c.in-Ok.told) c.in-Err-speak_play.why tt (play-answer c.in-Ok.told)
    (hears_enters _ _ _ _ _ c.in-Ok.ensures.told) (play_line-is (g.D.Lib.Media.library (g.D.Desk.desk c.args.desk.now).fixed.library) c.args.n c.in-Ok.told) refl c.in-Err-speak_play.ensures

pub returns : goal.returns
returns g c =
    refused_act _ _ _ (act.Play c.args.n) c.in-Err.why c.halt_for.result c.halt_for.ensures refl refl
    (hears_learns _ _ _ c.in-Err.ensures.told.0, c.in-Err.ensures.told.1)
