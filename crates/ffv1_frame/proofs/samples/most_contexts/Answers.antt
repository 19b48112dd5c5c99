use Rattle.ffv1_frame.proofs.SliceSteps.{most-of-sets}
use Rattle.ffv1_frame.proofs.samples.most_contexts.Goals as goal

pub returns : goal.returns
returns c = most-of-sets c.args.record.now c.table_sets.result.now c.most_of.result c.table_sets.ensures.sets c.most_of.ensures
