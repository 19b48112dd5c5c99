use Rattle.edit_desk.specs.Desk.{DeskOf}
use Rattle.play_head.specs.Carrying.{carrier}
use Rattle.play_head.proofs.Finishing.{carrying_starts}
use Rattle.render_pool.proofs.Carrying.{carrying_more, carrying_still, carrying_stops}
use Rattle.render_pool.proofs.exporting.export_until_stopped.Goals as goal

pub loop-init : goal.loop-init
loop-init g c = carrying_starts g.D.Lib.Media.library _ (g.D.Desk.desk c.args.desk.now) (g.V.Vault.seen c.args.vault.now) c.requires.idle

pub export_turn-requires-clause-idle : goal.export_turn-requires-clause-idle
export_turn-requires-clause-idle g c = c.loop.invariant.idle

pub loop-preserved-in-Ended : goal.loop-preserved-in-Ended
loop-preserved-in-Ended g c =
    let turn = c.in-Ended.ensures.turn in
    carrying_more g.D.Lib.Media.library c.args.rate g.V.Vault.tells (g.D.Desk.desk c.args.desk.now) (g.D.Desk.desk c.loop.desk) (g.D.Desk.desk c.export_turn.new.desk)
    (g.V.Vault.seen c.args.vault.now) (g.V.Vault.seen c.loop.vault) (g.V.Vault.seen c.export_turn.new.vault) turn.0 c.export_turn.ensures.idle c.loop.invariant turn.3
