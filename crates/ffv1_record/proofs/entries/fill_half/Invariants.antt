use Rattle.std.proofs.Common.{◌≡◌, ◌++◌, map, take, drop, pos, sum}
use Rattle.ffv1_record.specs.Tables.{first_half}
use Rattle.ffv1_record.proofs.entries.fill_half.Given as goal

abbrev pub invariant-loop-i : goal.invariant-loop-i
invariant-loop-i l = record {
  from : l.from ≡ sum (take l.i l.lengths);
  half : l.half ≡ map pos (first_half l.scale 0 (take l.i l.lengths)) ++ drop l.from l.initial.half;
}
