use Rattle.std.proofs.Common.{sym, subst}
use Rattle.tl_model.specs.Cells.{cells}
use Rattle.tl_model.specs.Sound.{IsSound}
use Rattle.play_head.specs.Carrying.{carried_as, CarriesOne}
use Rattle.play_head.proofs.Filled.{filled}
use Rattle.render_pool.proofs.exporting.end_taken.Goals as goal

pub carry-ending-requires-clause-sound : goal.carry-ending-requires-clause-sound
carry-ending-requires-clause-sound g c =
    subst (λ lib. IsSound (g.D.Lib.Media.library lib) (cells c.args.job.segments)) (sym c.media.ensures) c.requires.sound

pub carry-ending-requires-clause-some : goal.carry-ending-requires-clause-some
carry-ending-requires-clause-some g c = filled g.D.Lib.Media.library (g.D.Desk.desk c.args.desk.now) _ _ _ _ c.requires.held

pub returns : goal.returns
returns g c =
    let V = g.V.Vault in (
      c.end_export.ensures,
      subst
          (λ lib. CarriesOne (record { library = g.D.Lib.Media.library lib; rate = c.args.rate; tells = V.tells }) (V.seen c.args.vault.now) (V.seen c.carry-ending.new.vault) (carried_as c.args.job c.carry-ending.result))
          c.media.ensures c.carry-ending.ensures,
    )
