use Rattle.std.proofs.Common.{refl, ◌∙◌}
use Rattle.tl_model.specs.declared.journal.Act.TheVariants as act
use Rattle.edit_desk.proofs.Heard.{hears_enters}
use Rattle.play_head.specs.Giving.{play_line, play_rows}
use Rattle.play_head.proofs.Acting.{given, unsaid, unshown}
use Rattle.play_head.proofs.Giving.{as_play-line, as_play-rows, as_play-answer}
use Rattle.play_head.proofs.pictures.show.Goals as goal

pub returns-in-Ok-speak_play : goal.returns-in-Ok-speak_play
returns-in-Ok-speak_play g c =
    let same = c.as_play-told.ensures ∙ c.in-Ok.ensures.2 in
    given _ _ _ (act.Show c.args.n) c.in-Ok.ensures.0 (play_line c.args.n c.as_play-told.result) (play_rows c.as_play-told.result) c.screen_play.result
    tt (as_play-answer (g.D.Lib.Media.library (g.D.Desk.desk c.args.desk.now).fixed.library) c.in-Ok.ensures.0 c.as_play-told.result same) (hears_enters _ _ _ _ _ c.in-Ok.ensures.1)
    (as_play-line (g.D.Lib.Media.library (g.D.Desk.desk c.args.desk.now).fixed.library) c.args.n c.in-Ok.ensures.0 c.as_play-told.result same) (as_play-rows (g.D.Lib.Media.library (g.D.Desk.desk c.args.desk.now).fixed.library) c.in-Ok.ensures.0 c.as_play-told.result same)
    c.in-Ok-speak_play.ensures c.screen_play.ensures

pub returns-in-Ok : goal.returns-in-Ok
returns-in-Ok g c =
    let same = c.as_play-told.ensures ∙ c.in-Ok.ensures.2 in
    unsaid _ _ _ (act.Show c.args.n) c.in-Ok.ensures.0 (play_line c.args.n c.as_play-told.result) c.in-Err-speak_play.why
    tt (as_play-answer (g.D.Lib.Media.library (g.D.Desk.desk c.args.desk.now).fixed.library) c.in-Ok.ensures.0 c.as_play-told.result same) (hears_enters _ _ _ _ _ c.in-Ok.ensures.1)
    (as_play-line (g.D.Lib.Media.library (g.D.Desk.desk c.args.desk.now).fixed.library) c.args.n c.in-Ok.ensures.0 c.as_play-told.result same) refl c.in-Err-speak_play.ensures

pub returns : goal.returns
returns g c = unshown _ _ _ c.args.n c.in-Err.why c.halt_for.result c.halt_for.ensures refl refl c.in-Err.ensures
