use Rattle.tl_model.specs.declared.journal.Act.TheVariants as act
use Rattle.render_core.specs.Board.{of_release}
use Rattle.edit_desk.proofs.Calls.{makes_enters}
use Rattle.studio.proofs.Gains.{pays_grows}
use Rattle.studio.proofs.calls.work.ReleaseCallCall.make.Goals as goal

pub returns-clause-told : goal.returns-clause-told
returns-clause-told g c = λ kept. makes_enters g.M.Media.library c.args.by kept c.args.board.now c.release.new.self (act.Release c.args.self.claim.job) (of_release c.release.result) c.release.ensures.made

pub returns-clause-grows : goal.returns-clause-grows
returns-clause-grows g c = pays_grows g.M.Media.library c.args.board.now c.release.new.self (record { pass = c.args.by; act = act.Release c.args.self.claim.job; view = of_release }) c.release.result c.release.ensures
