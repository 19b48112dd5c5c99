use Rattle.render_core.specs.Parts.{recipes_of}
use Rattle.render_core.proofs.Ranges.{IsLeft}
use Rattle.render_core.proofs.results.place_of.Given as goal

abbrev pub invariant-loop-i : goal.invariant-loop-i
invariant-loop-i g l = IsLeft l.recipe (recipes_of l.filed) l.i
