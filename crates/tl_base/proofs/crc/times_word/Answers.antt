use Rattle.std.proofs.Common.{◌/◌, ◌^◌, sym, arith}
use Rattle.std.proofs.lemmas.Nat.{and_mask}
use Rattle.tl_base.proofs.Remainders.{times-bytes}
use Rattle.tl_base.proofs.crc.times_word.Goals as goal

pub returns : goal.returns
returns c =
    let word = c.args.word in
    rw (c.of_byte_3.ensures, c.of_byte_2.ensures, c.of_byte_1.ensures, c.of_byte_0.ensures, and_mask (word / 2 ^ 16) 8, and_mask (word / 2 ^ 8) 8, and_mask word 8) (sym (times-bytes word (omega arith)))
