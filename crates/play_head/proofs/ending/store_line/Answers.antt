use Rattle.play_head.proofs.Stopping.{kind-listed}
use Rattle.play_head.proofs.ending.store_line.Goals as goal

pub returns-clause-listed : goal.returns-clause-listed
returns-clause-listed c = kind-listed c.args.fault c.in_ok-name.name c.in_ok-kind.kind c.requires c.in_ok-kind.ensures
