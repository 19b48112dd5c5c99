use Rattle.std.proofs.Common.{refl}
use Rattle.tl_model.specs.declared.journal.Act.TheVariants as act
use Rattle.render_core.specs.Board.{of_cancel}
use Rattle.edit_desk.proofs.Calls.{does_answers}
use Rattle.studio.proofs.Gains.{does_grows}
use Rattle.studio.proofs.calls.edits.CancelCallCall.make.Goals as goal

pub returns-clause-told : goal.returns-clause-told
returns-clause-told g c = λ kept. does_answers g.M.Media.library c.args.by kept c.args.board.now c.cancel.new.self (record { pass = c.args.by; act = act.Cancel c.args.self.first c.args.self.len; view = of_cancel }) c.cancel.result refl c.cancel.ensures.done

pub returns-clause-grows : goal.returns-clause-grows
returns-clause-grows g c = does_grows g.M.Media.library c.args.board.now c.cancel.new.self (record { pass = c.args.by; act = act.Cancel c.args.self.first c.args.self.len; view = of_cancel }) c.cancel.result c.cancel.ensures.done
