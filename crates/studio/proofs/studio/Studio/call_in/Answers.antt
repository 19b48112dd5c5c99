use Rattle.studio.proofs.Entering.{asks_at}
use Rattle.studio.proofs.studio.Studio.call_in.Goals as goal

pub make-answer-requires-clause-asks : goal.make-answer-requires-clause-asks
make-answer-requires-clause-asks g c =
    asks_at g.M.Media.library c.args.self.now (g.C.Call.asks c.args.call) c.number-by.result c.args.pass.now c.args.held c.requires.holds c.number-by.ensures c.requires.asks
