-- The middle one of three numbers.
use Rattle.std.proofs.Common.{ℤ, arith}
use Rattle.std.proofs.lemmas.Int.{ints}
use Rattle.tl_base.specs.Arithmetic.{median, IsMiddle}

pub is_middle : (a b c : ℤ) → IsMiddle a b c (median a b c)
is_middle a b c = record { first = (grind (arith, ints), grind (arith, ints)); second = (grind (arith, ints), grind (arith, ints)); third = (grind (arith, ints), grind (arith, ints)) }
