use Rattle.std.proofs.Common.{◌≡◌}
use Rattle.work_gen.proofs.Drawing.{drawn}
use Rattle.work_gen.proofs.pictures.draw.Given as goal

abbrev pub invariant-loop-plane : goal.invariant-loop-plane
invariant-loop-plane l = l.into ≡ drawn l.plane l.frame l.initial.into
