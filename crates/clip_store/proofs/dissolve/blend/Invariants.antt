use Rattle.std.proofs.Common.{◌≡◌}
use Rattle.clip_store.specs.Blend.{blend}
use Rattle.clip_store.proofs.Blending.{upto}
use Rattle.clip_store.proofs.dissolve.blend.Given as goal

abbrev pub invariant-loop-plane : goal.invariant-loop-plane
invariant-loop-plane l = l.picture ≡ record { shape = l.from.shape; planes = upto l.plane (blend l.weight l.from l.to).planes l.from.planes }
