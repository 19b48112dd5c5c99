use Rattle.ffv1_record.proofs.Runs.{lengths-sound}
use Rattle.ffv1_record.proofs.entries.lengths_of.Goals as goal

pub returns-clause-runs : goal.returns-clause-runs
returns-clause-runs c = lengths-sound c.args.tables.now c.args.i c.index-tables-i.result c.as_slice.result.now c.requires.sound c.requires.table c.as_slice.ensures.value
