use Rattle.std.proofs.Common.{refl}
use Rattle.tl_model.specs.declared.journal.Act.TheVariants as act
use Rattle.render_core.specs.Board.{of_want}
use Rattle.edit_desk.proofs.Calls.{does_answers}
use Rattle.studio.proofs.Gains.{does_grows}
use Rattle.studio.proofs.calls.edits.WantCallCall.make.Goals as goal

pub returns-clause-told : goal.returns-clause-told
returns-clause-told g c = λ kept. does_answers g.M.Media.library c.args.by kept c.args.board.now c.want.new.self (record { pass = c.args.by; act = act.Want c.args.self.first c.args.self.len; view = of_want }) c.want.result refl c.want.ensures.done

pub returns-clause-grows : goal.returns-clause-grows
returns-clause-grows g c = does_grows g.M.Media.library c.args.board.now c.want.new.self (record { pass = c.args.by; act = act.Want c.args.self.first c.args.self.len; view = of_want }) c.want.result c.want.ensures.done
