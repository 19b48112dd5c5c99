use Rattle.std.proofs.Common.{◌≡◌, map, drop}
use Rattle.edl_text.specs.Row.{said}
use Rattle.edl_text.specs.List.{title_of}
use Rattle.edl_text.proofs.names.title_of.Given as goal

abbrev pub invariant-loop-row : goal.invariant-loop-row
invariant-loop-row l = title_of (map said (drop l.row-index l.rows)) ≡ title_of (map said l.rows)
