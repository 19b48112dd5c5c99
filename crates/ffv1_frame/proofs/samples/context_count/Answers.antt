use Rattle.std.proofs.Common.{◌<◌, List, length, ap, ◌∙◌, arith}
use Rattle.std.proofs.lemmas.List.{length-map}
use Rattle.ffv1_record.specs.Tables.{TableSet, set_of}
use Rattle.ffv1_frame.proofs.SliceSteps.{count_in, count-at}
use Rattle.ffv1_frame.proofs.samples.context_count.Goals as goal

pub returns : goal.returns
returns c =
    let lt : c.args.set < length c.table_sets.result.now = omega (arith, c.requires, ap length c.table_sets.ensures.sets, length-map c.table_sets.result.now set_of) in
    c.context_count.ensures ∙ count-at c.table_sets.result.now c.args.set c.index-table_sets-set.result lt c.index-table_sets-set.is
    ∙ ap (λ (l : List TableSet). count_in l c.args.set) c.table_sets.ensures.sets
