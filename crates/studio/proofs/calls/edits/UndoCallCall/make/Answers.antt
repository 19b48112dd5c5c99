use Rattle.std.proofs.Common.{refl}
use Rattle.tl_model.specs.declared.journal.Act.TheVariants as act
use Rattle.render_core.specs.Board.{of_edit}
use Rattle.edit_desk.proofs.Calls.{does_answers}
use Rattle.studio.proofs.Gains.{does_grows}
use Rattle.studio.proofs.calls.edits.UndoCallCall.make.Goals as goal

pub returns-clause-told : goal.returns-clause-told
returns-clause-told g c = λ kept. does_answers g.M.Media.library c.args.by kept c.args.board.now c.undo.new.self (record { pass = c.args.by; act = act.Undo; view = of_edit }) c.undo.result refl c.undo.ensures.done

pub returns-clause-grows : goal.returns-clause-grows
returns-clause-grows g c = does_grows g.M.Media.library c.args.board.now c.undo.new.self (record { pass = c.args.by; act = act.Undo; view = of_edit }) c.undo.result c.undo.ensures.done
