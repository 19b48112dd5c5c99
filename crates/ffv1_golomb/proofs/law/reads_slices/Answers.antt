use Rattle.ffv1_golomb.proofs.BackSlice.{reads_slices}
use Rattle.ffv1_golomb.proofs.WrittenBits.{reads_packed}
use Rattle.ffv1_golomb.proofs.law.reads_slices.Goals as goal

pub returns-clause-spelled : goal.returns-clause-spelled
returns-clause-spelled c = reads_slices

pub returns-clause-packed : goal.returns-clause-packed
returns-clause-packed c = reads_packed
