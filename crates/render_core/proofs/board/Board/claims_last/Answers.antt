use Rattle.render_core.specs.Board.{setup_of}
use Rattle.render_core.proofs.Claims.{claim_lasts}
use Rattle.render_core.proofs.Ends.{export_lasts}
use Rattle.render_core.proofs.board.Board.claims_last.Goals as goal

pub returns-clause-jobs : goal.returns-clause-jobs
returns-clause-jobs g c = λ journal more pass n recipe legal held ends. claim_lasts (setup_of g.M.Media.library c.args.self.now) journal more pass n recipe legal held ends

pub returns-clause-exports : goal.returns-clause-exports
returns-clause-exports g c = λ journal more pass n name line legal held ends. export_lasts (setup_of g.M.Media.library c.args.self.now) journal more pass n name line legal held ends
