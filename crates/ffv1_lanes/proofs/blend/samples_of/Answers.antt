use Rattle.std.proofs.Common.{◌/◌, get_or, arith, refl}
use Rattle.std.proofs.lemmas.Simd.{Each1-zip2, Each2-splat, Each1-weaker}
use Rattle.ffv1_lanes.proofs.Sixteen.{HasLanes-splat, HasLanes-map}
use Rattle.ffv1_lanes.proofs.blend.samples_of.Goals as goal

pub overflow_cast-result : goal.overflow_cast-result
overflow_cast-result c =
    let sums = c.args.sums in
    Each1-zip2 _ _ sums _ (Each2-splat _ sums 16 8 (Each1-weaker _ _ (λ a h. record { fits = omega arith }) sums c.fits-sums.1))

pub returns : goal.returns
returns c =
    let sums = c.args.sums in
    HasLanes-map _ _ (λ k. get_or sums k 0 / 256) _ (HasLanes-splat _ sums 8 _ c.fits-sums.0 (λ k l. refl)) (λ k l. refl)
