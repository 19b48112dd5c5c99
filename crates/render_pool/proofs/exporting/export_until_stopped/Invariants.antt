use Rattle.play_head.specs.Carrying.{carrier}
use Rattle.play_head.proofs.Finishing.{IsCarrying}
use Rattle.render_pool.proofs.exporting.export_until_stopped.Given as goal

abbrev pub invariant-loop : goal.invariant-loop
invariant-loop g l =
    IsCarrying g.D.Lib.Media.library (carrier g.D.Lib.Media.library (g.D.Desk.desk l.fn.desk) l.fn.rate g.V.Vault.tells) (g.D.Desk.desk l.fn.desk) (g.D.Desk.desk l.desk) (g.V.Vault.seen l.fn.vault) (g.V.Vault.seen l.vault)
