use Rattle.std.proofs.Common.{rules}
use Rattle.ffv1_frame.proofs.encode_rice.spells_packed.Goals as goal

pub returns : goal.returns
returns c = λ bits spelled. c.packs_bits.ensures c.args.bytes.now bits (λ k. search rules) spelled
