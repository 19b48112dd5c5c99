use Rattle.std.proofs.Common.{arith}
use Rattle.tl_base.proofs.Remainders.{with_word}
use Rattle.tl_base.proofs.crc.with_word.Goals as goal

pub returns : goal.returns
returns c bytes h =
    with_word bytes c.args.remainder c.args.a c.args.b c.args.c c.args.d c.from.result c.from-2.result c.from-3.result c.from-4.result c.times_word.result h
    c.from.ensures c.from-2.ensures c.from-3.ensures c.from-4.ensures (omega arith) (omega arith) (omega arith) (omega arith) c.times_word.ensures
