use Rattle.std.proofs.Common.{refl}
use Rattle.tl_model.specs.declared.journal.Act.TheVariants as act
use Rattle.render_core.specs.Board.{of_play}
use Rattle.edit_desk.proofs.Calls.{does_answers}
use Rattle.studio.proofs.Gains.{does_grows}
use Rattle.studio.proofs.calls.work.PlayCallCall.make.Goals as goal

pub returns-clause-told : goal.returns-clause-told
returns-clause-told g c = λ kept. (does_answers g.M.Media.library c.args.by kept c.args.board.now c.play.new.self (record { pass = c.args.by; act = act.Play c.args.self.n; view = of_play }) c.play.result refl c.play.ensures.done, c.play.ensures.renders)

pub returns-clause-grows : goal.returns-clause-grows
returns-clause-grows g c = does_grows g.M.Media.library c.args.board.now c.play.new.self (record { pass = c.args.by; act = act.Play c.args.self.n; view = of_play }) c.play.result c.play.ensures.done
