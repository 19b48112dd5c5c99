use Rattle.std.proofs.Common.{◌∙◌}
use Rattle.ffv1_record.specs.Parameters.{tables_of, context_count_of}
use Rattle.ffv1_frame.proofs.SliceSteps.{contexts-fit}
use Rattle.ffv1_frame.proofs.samples.quantization.Goals as goal

pub returns-clause-fits : goal.returns-clause-fits
returns-clause-fits c =
    contexts-fit c.arrays.result.now (tables_of c.args.record.now c.args.set) c.context_count.result (context_count_of c.args.record.now c.args.set)
    (c.arrays.ensures ∙ c.requires.tables) c.context_count.ensures (c.lawful.ensures.contexts c.args.set c.requires.set)
