use Rattle.render_core.specs.Board.{setup_of}
use Rattle.render_core.specs.Claim.{EndsJob, EndsExport}
use Rattle.render_core.proofs.Ends.{own-others, others_end, goes_on}
use Rattle.render_core.proofs.board.Board.others_end_nothing.Goals as goal

pub returns-clause-jobs : goal.returns-clause-jobs
returns-clause-jobs g c = λ more pass n none. others_end (EndsJob n) pass more (own-others pass more none)

pub returns-clause-exports : goal.returns-clause-exports
returns-clause-exports g c = λ more pass n none. others_end (EndsExport n) pass more (own-others pass more none)

pub returns-clause-stop : goal.returns-clause-stop
returns-clause-stop g c = λ journal more legal none going. goes_on (setup_of g.M.Media.library c.args.self.now) journal more legal none going
