use Rattle.std.proofs.Common.{◌≡◌, ◌<◌, ◌≤◌, ◌^◌, ◌++◌}
use Rattle.ffv1_rice.specs.Lines.{fitting}
use Rattle.ffv1_rice.proofs.lines.put_whole_runs.Given as goal

abbrev pub invariant-runs : goal.invariant-runs
invariant-runs l = record {
  bits : l.initial.bits ++ (fitting l.count l.index).bits ≡ l.bits ++ (fitting l.left l.next).bits;
  index : (fitting l.count l.index).index ≡ (fitting l.left l.next).index;
  rest : (fitting l.count l.index).rest ≡ (fitting l.left l.next).rest;
  in_table : l.next ≤ 40;
  short : l.left < 2 ^ 24;
}

abbrev pub decreases-runs : goal.decreases-runs
decreases-runs l = l.left
