use Rattle.std.proofs.Common.{arith}
use Rattle.ffv1_frame.proofs.SliceSteps.{most-next}
use Rattle.ffv1_frame.proofs.samples.most_of.Goals as goal

pub loop-set-preserved : goal.loop-set-preserved
loop-set-preserved c =
    most-next c.args.sets.now c.loop-set.set-index c.set-item.result c.loop-set.most c.larger-most.result c.loop-set-test.true c.set-item.is c.loop-set.invariant c.larger-most.ensures.second
    (omega (arith, c.context_count.ensures, c.larger-most.ensures.first))
