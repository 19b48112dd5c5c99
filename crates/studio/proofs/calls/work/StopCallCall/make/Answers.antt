use Rattle.tl_model.specs.declared.journal.Act.TheVariants as act
use Rattle.render_core.specs.Board.{of_done}
use Rattle.edit_desk.proofs.Calls.{makes_enters}
use Rattle.studio.proofs.Gains.{pays_grows}
use Rattle.studio.proofs.calls.work.StopCallCall.make.Goals as goal

pub returns-clause-told : goal.returns-clause-told
returns-clause-told g c = λ kept. makes_enters g.M.Media.library c.args.by kept c.args.board.now c.stop.new.self (act.Stop) (of_done tt) c.stop.ensures.made

pub returns-clause-grows : goal.returns-clause-grows
returns-clause-grows g c = pays_grows g.M.Media.library c.args.board.now c.stop.new.self (record { pass = c.args.by; act = act.Stop; view = of_done }) tt c.stop.ensures
