use Rattle.render_core.specs.Board.{setup_of}
use Rattle.render_core.proofs.Orderly.{journal_is_orderly}
use Rattle.render_core.proofs.board.Board.entries.Goals as goal

pub returns-clause-orderly : goal.returns-clause-orderly
returns-clause-orderly g c = journal_is_orderly (setup_of g.M.Media.library c.args.self.now) c.args.self.now.journal
