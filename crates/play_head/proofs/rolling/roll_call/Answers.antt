use Rattle.std.proofs.Common.{◌≡◌, refl}
use Rattle.tl_model.specs.declared.journal.Act.TheVariants as act
use Rattle.play_head.proofs.Acting.{says_is}
use Rattle.play_head.proofs.rolling.roll_call.Goals as goal

pub returns-in-Want : goal.returns-in-Want
returns-in-Want g c =
    let is = c.in-Want.is in
    let same : c.args.act.now ≡ act.Want c.in-Want.first c.in-Want.len = cc in
    says_is _ _ _ c.args.act.now (act.Want c.in-Want.first c.in-Want.len) c.want.result same tt refl c.want.ensures
