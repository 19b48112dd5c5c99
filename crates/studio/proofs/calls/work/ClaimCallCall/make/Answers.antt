use Rattle.edit_desk.proofs.Calls.{claims_finds}
use Rattle.studio.proofs.Gains.{claims_grows}
use Rattle.studio.proofs.calls.work.ClaimCallCall.make.Goals as goal

pub returns-clause-told : goal.returns-clause-told
returns-clause-told g c = λ kept. (claims_finds g.M.Media.library c.args.by kept c.args.board.now c.claim.new.self c.claim.result c.claim.ensures.done, c.claim.ensures.held, c.claim.ensures.renders)

pub returns-clause-grows : goal.returns-clause-grows
returns-clause-grows g c = claims_grows g.M.Media.library c.args.by c.args.board.now c.claim.new.self c.claim.result c.claim.ensures.done
