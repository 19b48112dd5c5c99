use Rattle.std.proofs.Common.{◌≡◌, ℕ, List, length, take, drop, sym, ap, ◌∙◌, eq-eqb}
use Rattle.std.proofs.lemmas.Bool.{eqb-true}
use Rattle.std.proofs.lemmas.Simd.{length-chunk}
use Rattle.std.specs.Simd.Lanes.{zip2}
use lib.Lanes.{mask_l}
use Rattle.ffv1_lanes.proofs.Masks.{differ, none_differ, differ-same, mask-differ}
use Rattle.ffv1_lanes.proofs.same.same_lanes.Goals as goal

pub returns : goal.returns
returns c =
    let xs = take 32 (drop c.args.from c.args.a.now) in
    let ys = take 32 (drop c.args.from c.args.b.now) in
    let long : length xs ≡ 32 = length-chunk c.args.from 32 c.args.a.now c.requires.a in
    let wide : length ys ≡ 32 = length-chunk c.args.from 32 c.args.b.now c.requires.b in
    let mask = mask-differ xs ys long wide in (
      λ h. none_differ xs ys (long ∙ sym wide) (sym mask ∙ eqb-true _ _ h),
      λ e. eq-eqb _ _ (mask ∙ ap (λ (l : List ℕ). mask_l (zip2 differ xs l)) (sym e) ∙ differ-same xs),
    )
