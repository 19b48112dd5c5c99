use Rattle.std.proofs.Common.{refl, sym}
use Rattle.edit_desk.proofs.Heard.{hears_learns}
use Rattle.play_head.specs.Carrying.{carried_as}
use Rattle.render_pool.proofs.Carrying.{carried_out}
use Rattle.render_pool.proofs.exporting.export_turn.Goals as goal

pub returns-in-Taken-clause-turn : goal.returns-in-Taken-clause-turn
returns-in-Taken-clause-turn g c =
    let V = g.V.Vault in (
      carried_as c.in-Taken.job c.end_taken-ending.result,
      sym c.export-export.ensures,
      refl,
      carried_out g.D.Lib.Media.library c.args.rate V.tells (g.D.Desk.desk c.args.desk.now) (g.D.Desk.desk c.take_export.new.self) (g.D.Desk.desk c.end_taken-ending.new.desk)
          (V.seen c.args.vault.now) (V.seen c.end_taken-ending.new.vault) c.in-Taken.job c.end_taken-ending.result c.in-Taken.ensures.found c.end_taken-ending.ensures,
    )

pub returns-in-Idle-clause-turn : goal.returns-in-Idle-clause-turn
returns-in-Idle-clause-turn g c =
    let found = c.in-Idle.ensures.found in
    (record { hears = hears_learns _ _ _ found.0; vault = refl; len_is = found.1; none_left = found.3 }, found.2)

pub returns-in-Stopped-clause-turn : goal.returns-in-Stopped-clause-turn
returns-in-Stopped-clause-turn g c =
    let found = c.in-Stopped.ensures.found in
    (record { hears = hears_learns _ _ _ found.0; vault = refl; len_is = found.1; none_left = found.3 }, found.2)
