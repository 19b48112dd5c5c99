use Rattle.ffv1_range.proofs.Tables.{fresh_kept}
use Rattle.ffv1_range.proofs.reader.RangeReader.over.Goals as goal

pub returns-clause-fresh : goal.returns-clause-fresh
returns-clause-fresh c = fresh_kept c.args.table.now c.keeps-keeps_first.ensures.sound.keeps_first
