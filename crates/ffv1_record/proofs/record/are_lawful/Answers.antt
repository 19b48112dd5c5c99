use Rattle.std.proofs.Common.{[]}
use Rattle.std.proofs.lemmas.List.Elements.{All-get_or}
use Rattle.ffv1_record.specs.Tables.{AreSetRuns}
use Rattle.ffv1_record.proofs.Contexts.{contexts}
use Rattle.ffv1_record.proofs.record.are_lawful.Goals as goal

pub returns : goal.returns
returns c = λ set lt. contexts _ (All-get_or AreSetRuns c.args.sets.now set [] lt c.requires.each)
