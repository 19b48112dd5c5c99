-- The reader after the samples tells whether it took too much.
use Rattle.std.proofs.Common.{refl, arith}
use Rattle.ffv1_slice.specs.Slice.{standing}
use Rattle.ffv1_slice.proofs.range_slice.decode_slice.Goals as goal

pub returns-then-taken-content-clause-gives : goal.returns-then-taken-content-clause-gives
returns-then-taken-content-clause-gives c =
    (standing c.in-Ok.after c.decode_samples.new.picture, c.in-Ok.ensures.ok, omega (arith, c.taken.ensures))

pub returns-clause-gives : goal.returns-clause-gives
returns-clause-gives c =
    (standing c.in-Ok.after c.decode_samples.new.picture, c.in-Ok.ensures.ok, refl, omega (arith, c.taken.ensures))
