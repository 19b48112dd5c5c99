use Rattle.std.proofs.Common.{take}
use Rattle.timeline_app.proofs.Loading.{HasLoaded}
use Rattle.timeline_app.proofs.session.load_lines.Given as goal

abbrev pub invariant-loop-line : goal.invariant-loop-line
invariant-loop-line g l = HasLoaded g.T.Store.tells (g.T.Store.seen l.fn.store) (g.T.Store.seen l.store) (take l.line-index l.lines) l.shelf
