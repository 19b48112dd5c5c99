use Rattle.std.proofs.Common.{◌∙◌}
use Rattle.ffv1_rice.proofs.BitLemmas.{word-number}
use Rattle.ffv1_rice.proofs.reader.first_word.Goals as goal

pub returns : goal.returns
returns c = c.read_u64.ensures ∙ word-number 0 c.args.bytes.now (λ k. (c.type_inv.bytes k).fits)
