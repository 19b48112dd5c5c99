use Rattle.std.proofs.Common.{arith}
use Rattle.tl_base.proofs.Remainders.{with_byte}
use Rattle.tl_base.proofs.crc.with_byte.Goals as goal

pub returns : goal.returns
returns c bytes h = with_byte bytes c.args.remainder c.args.byte c.of_byte_0.result (omega arith) h c.of_byte_0.ensures
