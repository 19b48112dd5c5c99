use Rattle.std.proofs.Common.{ℕ, ◌*◌, ◌%◌, get_or, ◌∙◌, ap, arith}
use Rattle.std.proofs.lemmas.List.{length-map, get_or-map}
use Rattle.std.proofs.lemmas.Simd.{Each1-get_or}
use Rattle.ffv1_lanes.proofs.Sixteen.{HasLanes-splat, product-fits}
use Rattle.ffv1_lanes.proofs.blend.weighted.Goals as goal

pub returns : goal.returns
returns c =
    let v = c.args.samples in
    let fits = c.fits-samples in
    HasLanes-splat _ _ c.args.weight _ (length-map v _ ∙ fits.0)
    (λ k l.
    let small = Each1-get_or _ v k 0 (omega (arith, fits.0)) fits.1 in
    ap (λ (x : ℕ). (x * c.args.weight) % 65536) (get_or-map {X = ℕ} {Y = ℕ} _ v k 0 0 (omega (arith, fits.0))) ∙ product-fits (get_or v k 0) c.args.weight small.fits c.requires)
