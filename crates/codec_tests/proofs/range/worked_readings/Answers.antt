use Rattle.std.proofs.Common.{refl}
use Rattle.ffv1_range.specs.Reading.{opened, bit_of, narrowed, renewed, after_bit}
use Rattle.codec_tests.proofs.range.worked_readings.Goals as goal

pub returns-clause-first : goal.returns-clause-first
unfolding opened bit_of narrowed renewed after_bit
returns-clause-first c table = refl

pub returns-clause-second : goal.returns-clause-second
unfolding bit_of narrowed renewed after_bit
returns-clause-second c table = refl
