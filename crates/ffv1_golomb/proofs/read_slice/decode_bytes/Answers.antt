-- The reader after the samples tells whether it took too much.
use Rattle.std.proofs.Common.{subst, arith}
use Rattle.ffv1_rice.specs.Bits.{Reading}
use Rattle.ffv1_slice.specs.Slice.{slice_of}
use Rattle.ffv1_golomb.specs.Slice.{standing, ReadsSlice}
use Rattle.ffv1_golomb.proofs.read_slice.decode_bytes.Goals as goal

pub returns-then-taken-bytes-clause-gives : goal.returns-then-taken-bytes-clause-gives
returns-then-taken-bytes-clause-gives c =
    let Reads : Reading → Type 0 = λ r. ReadsSlice (slice_of c.args.luma c.args.chroma c.args.areas) (standing r c.args.picture.now) (standing c.in-Ok.after c.decode_samples.new.picture) in
    (standing c.in-Ok.after c.decode_samples.new.picture, subst Reads c.over-bits.ensures c.in-Ok.ensures.ok, omega (arith, c.taken.ensures))
