-- What a planned put added, as the traits say it.
use Rattle.std.proofs.Common.{ℕ, List, true, Result, Ok, Err, rules, append-nil}
use Rattle.tl_ports.specs.declared.fault.PutFault.{PutFault}
use Rattle.tl_ports.specs.declared.fault.PutFault.TheVariants.{Failed, NoMemory}
use Rattle.tl_ports.specs.Seen.{VaultSeen}
use Rattle.tl_ports.specs.Outside.{Adds}
use Rattle.tl_ports.specs.FaultPlan.{PutsByPlan}

-- A planned put adds the piece or some front of it.
pub Adds-by_plan : (fails : Type 0) (old new : VaultSeen) (piece : List ℕ) (outcome : Result Unit PutFault) → PutsByPlan fails old.held new.held piece outcome → Adds true old new piece outcome
Adds-by_plan fails old new piece (Ok done) puts = λ told. puts.1
Adds-by_plan fails old new piece (Err Failed) puts = λ told. (_, puts.1)
Adds-by_plan fails old new piece (Err NoMemory) puts = λ told. (0, search (rules, append-nil))
