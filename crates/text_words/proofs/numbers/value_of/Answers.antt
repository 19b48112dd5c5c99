use Rattle.std.proofs.Common.{◌<◌, arith}
use Rattle.text_words.proofs.Digits.{fits_next}
use Rattle.text_words.proofs.numbers.value_of.Goals as goal

pub overflow_mul-value : goal.overflow_mul-value
overflow_mul-value c =
    let short : c.loop-digit.digit-index < 9 = omega arith in
    omega (arith, fits_next c.loop-digit.value c.loop-digit.digit-index c.loop-digit.invariant.small short)

pub overflow_add-value : goal.overflow_add-value
overflow_add-value c =
    let short : c.loop-digit.digit-index < 9 = omega arith in
    omega (arith, fits_next c.loop-digit.value c.loop-digit.digit-index c.loop-digit.invariant.small short)
