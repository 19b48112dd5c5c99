use Rattle.std.proofs.lemmas.List.{get_or-replicate}
use Rattle.codec_c.proofs.bits.fresh.Goals as goal

pub returns : goal.returns
returns c k small = get_or-replicate 16384 k 128 0 small
