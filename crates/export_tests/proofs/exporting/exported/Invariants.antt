use Rattle.tl_model.specs.Sound.{IsSound}
use Rattle.export_tests.proofs.exporting.exported.Given as goal

abbrev pub invariant-loop-cut : goal.invariant-loop-cut
invariant-loop-cut g l = IsSound (g.M.Media.library l.media) l.lane
