use Rattle.ffv1_frame.proofs.Chains.{has_parity-is}
use Rattle.ffv1_frame.proofs.chain.has_parity.Goals as goal

pub returns : goal.returns
returns c = has_parity-is c.args.packet.now c.args.span c.parity.result c.requires c.parity.ensures
