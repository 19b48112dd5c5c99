use Rattle.std.proofs.Common.{map}
use Rattle.ffv1_record.proofs.Runs.{next_fits}
use Rattle.ffv1_record.proofs.entries.fill_arrays.Goals as goal

pub next_scale-scale-requires-clause-fits : goal.next_scale-scale-requires-clause-fits
next_scale-scale-requires-clause-fits c =
    next_fits (map (λ t. t.lengths.items) c.args.tables.now) c.loop-i.i c.loop-i.scale c.lengths_of-lengths.result.now c.requires c.loop-i-test.true c.loop-i.invariant.scale c.lengths_of-lengths.ensures.lengths
