use Rattle.edit_desk.proofs.Heard.{hears_learns}
use Rattle.play_head.specs.Carrying.{carrier}
use Rattle.play_head.proofs.Finishing.{carrying_starts, carrying_next, carrying_ends, less_left}
use Rattle.play_head.proofs.exports.finish_exports.Goals as goal

pub loop-job-init : goal.loop-job-init
loop-job-init g c = carrying_starts g.D.Lib.Media.library _ (g.D.Desk.desk c.args.desk.now) (g.V.Vault.seen c.args.vault.now) c.requires.idle

pub loop-job-preserved : goal.loop-job-preserved
loop-job-preserved g c =
    carrying_next g.D.Lib.Media.library c.args.rate g.V.Vault.tells (g.D.Desk.desk c.args.desk.now) (g.D.Desk.desk c.loop-job.desk) (g.D.Desk.desk c.take_export.new.self) (g.D.Desk.desk c.carry_taken.new.desk)
    (g.V.Vault.seen c.args.vault.now) (g.V.Vault.seen c.loop-job.vault) (g.V.Vault.seen c.carry_taken.new.vault) c.in-Taken.job
    c.loop-job.invariant c.in-Taken.ensures.found c.carry_taken.ensures

pub loop-job-smaller : goal.loop-job-smaller
loop-job-smaller g c =
    let lib = g.D.Lib.Media.library in
    less_left lib (carrier lib (g.D.Desk.desk c.take_export.new.self) c.args.rate g.V.Vault.tells) (g.D.Desk.desk c.loop-job.desk) (g.D.Desk.desk c.take_export.new.self) (g.D.Desk.desk c.carry_taken.new.desk)
    (g.V.Vault.seen c.loop-job.vault) (g.V.Vault.seen c.carry_taken.new.vault) c.in-Taken.job
    c.in-Taken.ensures.found c.carry_taken.ensures c.known.ensures

pub returns-in-Idle-clause-carried : goal.returns-in-Idle-clause-carried
returns-in-Idle-clause-carried g c =
    let lib = g.D.Lib.Media.library in
    let found = c.in-Idle.ensures.found in
    carrying_ends lib (carrier lib (g.D.Desk.desk c.args.desk.now) c.args.rate g.V.Vault.tells) (g.D.Desk.desk c.args.desk.now) (g.D.Desk.desk c.loop-job.desk) (g.D.Desk.desk c.take_export.new.self)
    (g.V.Vault.seen c.args.vault.now) (g.V.Vault.seen c.loop-job.vault) c.loop-job.invariant (hears_learns lib _ _ found.0) found.3

pub returns-in-Stopped-clause-carried : goal.returns-in-Stopped-clause-carried
returns-in-Stopped-clause-carried g c =
    let lib = g.D.Lib.Media.library in
    let found = c.in-Stopped.ensures.found in
    carrying_ends lib (carrier lib (g.D.Desk.desk c.args.desk.now) c.args.rate g.V.Vault.tells) (g.D.Desk.desk c.args.desk.now) (g.D.Desk.desk c.loop-job.desk) (g.D.Desk.desk c.take_export.new.self)
    (g.V.Vault.seen c.args.vault.now) (g.V.Vault.seen c.loop-job.vault) c.loop-job.invariant (hears_learns lib _ _ found.0) found.3
