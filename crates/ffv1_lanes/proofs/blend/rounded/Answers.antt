use Rattle.std.proofs.Common.{ℕ, ◌+◌, ◌%◌, get_or, ◌∙◌, ap, refl}
use Rattle.ffv1_lanes.proofs.Sixteen.{HasLanes-splat, HasLanes-zip2, sum-fits}
use Rattle.ffv1_lanes.proofs.blend.rounded.Goals as goal

pub returns : goal.returns
returns c =
    let a = c.args.a in
    let b = c.args.b in
    let sum = HasLanes-zip2 _ a b (λ k. (get_or a k 0 + get_or b k 0) % 65536) c.fits-a.0 c.fits-b.0 (λ k l. refl) in
    HasLanes-splat _ _ 128 _ sum.long (λ k l. ap (λ (x : ℕ). (x + 128) % 65536) (sum.each k l) ∙ sum-fits (get_or a k 0) (get_or b k 0) (c.requires k l))
