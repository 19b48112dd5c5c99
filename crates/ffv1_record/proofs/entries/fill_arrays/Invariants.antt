use Rattle.std.proofs.Common.{◌≡◌, ◌++◌, map, take, drop}
use Rattle.ffv1_record.specs.Tables.{tables_from, scale_after}
use Rattle.ffv1_record.proofs.entries.fill_arrays.Given as goal

abbrev pub invariant-loop-i : goal.invariant-loop-i
invariant-loop-i l = record {
  scale : l.scale ≡ scale_after 1 (take l.i (map (λ t. t.lengths.items) l.tables));
  arrays : l.arrays ≡ tables_from 1 (take l.i (map (λ t. t.lengths.items) l.tables)) ++ drop l.i l.initial.arrays;
}
