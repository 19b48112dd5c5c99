use Rattle.std.proofs.Common.{rules}
use Rattle.turn_lock.proofs.Keeps.{looks_ok}
use Rattle.turn_lock.proofs.turn.Turn.look.Goals as goal

pub load-requires : goal.load-requires
load-requires g c = (search rules, search rules, looks_ok _ _ g.met.B.Journaled.fronts_meet _ _ _ c.pass.invariant.named)
