use Rattle.edit_desk.proofs.Calls.{takes_takes}
use Rattle.studio.proofs.Gains.{takes_grows}
use Rattle.studio.proofs.calls.exports.TakeCallCall.make.Goals as goal

pub returns-clause-told : goal.returns-clause-told
returns-clause-told g c = λ kept. (takes_takes g.M.Media.library c.args.by kept c.args.board.now c.take_export.new.self c.take_export.result c.take_export.ensures.done, c.take_export.ensures.held, c.take_export.ensures.sound)

pub returns-clause-grows : goal.returns-clause-grows
returns-clause-grows g c = takes_grows g.M.Media.library c.args.by c.args.board.now c.take_export.new.self c.take_export.result c.take_export.ensures.done
