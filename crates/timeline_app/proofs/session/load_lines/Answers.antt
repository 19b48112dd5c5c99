use Rattle.std.proofs.Common.{arith}
use Rattle.timeline_app.proofs.Loading.{loaded_more, loaded_stop}
use Rattle.timeline_app.proofs.session.load_lines.Goals as goal

pub loop-line-preserved : goal.loop-line-preserved
loop-line-preserved g c =
    loaded_more g.T.Store.tells (g.T.Store.seen c.args.store.now) (g.T.Store.seen c.loop-line.store) (g.T.Store.seen c.load_line.new.store)
    c.args.lines.now c.loop-line.line-index c.line-item.result c.loop-line.shelf c.load_line.new.shelf (omega arith) c.line-item.is
    c.loop-line.invariant c.in-Ok.ensures.loads.0 c.in-Ok.ensures.same

pub returns-in-Err-clause-clips : goal.returns-in-Err-clause-clips
returns-in-Err-clause-clips g c =
    loaded_stop g.T.Store.tells (g.T.Store.seen c.args.store.now) (g.T.Store.seen c.loop-line.store) (g.T.Store.seen c.load_line.new.store)
    c.args.lines.now c.loop-line.line-index c.line-item.result c.loop-line.shelf c.in-Err.stop (omega arith) c.line-item.is
    c.loop-line.invariant c.in-Err.ensures.loads.0
