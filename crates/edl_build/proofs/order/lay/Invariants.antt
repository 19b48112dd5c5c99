use Rattle.std.proofs.Common.{◌≡◌, ◌++◌, drop, Ok}
use Rattle.edl_text.specs.List.{◌>>=◌}
use Rattle.edl_build.specs.Build.{laid_from, laid}
use Rattle.edl_build.proofs.order.lay.Given as goal

abbrev pub invariant-loop-part : goal.invariant-loop-part
invariant-loop-part l = (laid_from l.at (drop l.part-index l.parts) >>= λ more. Ok (l.segments.items ++ more)) ≡ laid l.parts
