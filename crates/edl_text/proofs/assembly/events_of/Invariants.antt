use Rattle.std.proofs.Common.{◌≡◌, ◌+◌, ◌++◌, map, drop}
use Rattle.edl_text.specs.Row.{said}
use Rattle.edl_text.specs.List.{events_from}
use Rattle.edl_text.specs.Names.{names_in}
use Rattle.edl_text.proofs.assembly.events_of.Given as goal

abbrev pub invariant-loop-row : goal.invariant-loop-row
invariant-loop-row l = record {
  so_far : l.events.items ++ events_from (names_in l.names) (l.line + 1) (map said (drop l.row-index l.rows)) ≡ events_from (names_in l.names) 1 (map said l.rows);
  count : l.line ≡ l.row-index;
}
