use Rattle.std.proofs.Common.{sym, arith}
use Rattle.ffv1_record.specs.Tables.{first_half}
use Rattle.ffv1_record.proofs.Runs.{half-none_below, table-done}
use Rattle.ffv1_record.proofs.entries.table_of.Goals as goal

pub mirror-requires-clause-none_below : goal.mirror-requires-clause-none_below
mirror-requires-clause-none_below c = λ k. half-none_below (first_half c.args.scale 0 c.args.lengths.now) c.fill_half.new.half k c.fill_half.ensures

pub returns : goal.returns
returns c = table-done c.args.scale c.args.lengths.now c.fill_half.new.half c.mirror.new.rest c.requires.runs.whole c.fill_half.ensures (omega arith) c.mirror.ensures.first c.mirror.ensures.others
