use Rattle.std.proofs.Common.{◌≡◌, ◌++◌, Ok, None, length}
use Rattle.edl_text.specs.List.{◌>>=◌}
use Rattle.edl_build.specs.Clip.{known_at}
use Rattle.edl_build.specs.Build.{parts_from}
use Rattle.edl_build.proofs.building.parts_of.Given as goal

abbrev pub invariant-loop-left : goal.invariant-loop-left
invariant-loop-left l = (parts_from (known_at l.known) l.from l.left >>= λ more. Ok (l.parts.items ++ more)) ≡ parts_from (known_at l.known) None l.events

abbrev pub decreases-loop-left : goal.decreases-loop-left
decreases-loop-left l = length l.left
