use Rattle.std.proofs.Common.{◌-◌, length}
use Rattle.play_head.specs.Carrying.{carrier}
use Rattle.play_head.proofs.Finishing.{IsCarrying}
use Rattle.play_head.proofs.exports.finish_exports.Given as goal

abbrev pub invariant-loop-job : goal.invariant-loop-job
invariant-loop-job g l =
    IsCarrying g.D.Lib.Media.library (carrier g.D.Lib.Media.library (g.D.Desk.desk l.fn.desk) l.fn.rate g.V.Vault.tells) (g.D.Desk.desk l.fn.desk) (g.D.Desk.desk l.desk) (g.V.Vault.seen l.fn.vault) (g.V.Vault.seen l.vault)

abbrev pub decreases-loop-job : goal.decreases-loop-job
decreases-loop-job g l = (g.D.Desk.desk l.desk).fixed.limit - length (g.D.Desk.desk l.desk).seen
