use Rattle.std.proofs.Common.{arith}
use Rattle.render_core.proofs.Claims.{claim_held}
use Rattle.render_core.proofs.machine.Machine.holds.Goals as goal

pub returns-then-claim-gt0-clause-held : goal.returns-then-claim-gt0-clause-held
returns-then-claim-gt0-clause-held g c = λ t. claim_held _ c.args.self.now _ c.args.claim.now c.args.by c.is_held_by.result c.self.view_is c.claim.view_is (omega (arith, c.if-claim-gt0.true)) c.is_held_by.ensures t
