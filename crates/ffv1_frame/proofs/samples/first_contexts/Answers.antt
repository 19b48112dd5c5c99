use Rattle.std.proofs.Common.{arith}
use Rattle.ffv1_frame.proofs.Cells.{contexts_few}
use Rattle.ffv1_frame.proofs.samples.first_contexts.Goals as goal

pub returns-clause-few : goal.returns-clause-few
returns-clause-few c = omega (arith, c.context_count.ensures, contexts_few c.args.record.now c.lawful.ensures.fields)
