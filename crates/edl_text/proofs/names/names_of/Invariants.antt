use Rattle.std.proofs.Common.{◌≡◌, ℕ, map, drop, nat_eq}
use Rattle.std.specs.Option.{option_or}
use Rattle.std.specs.Map.{lookup}
use Rattle.edl_text.specs.Row.{said}
use Rattle.edl_text.specs.Names.{name_at}
use Rattle.edl_text.specs.List.{names_from, name_of}
use Rattle.edl_text.proofs.names.names_of.Given as goal

abbrev pub invariant-loop-row : goal.invariant-loop-row
invariant-loop-row l =
    (q : ℕ) → option_or (name_at l.names q) (lookup (λ other. nat_eq other q) (names_from l.side l.above (map said (drop l.row-index l.rows)))) ≡ name_of l.side (map said l.rows) q
