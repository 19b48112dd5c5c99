use Rattle.tl_base.proofs.Remainders.{is_remainder}
use Rattle.tl_base.proofs.crc.parity_is_remainder.Goals as goal

pub returns : goal.returns
returns c = is_remainder
