use Rattle.std.proofs.Common.{subst}
use Rattle.pic_planes.specs.Shape.{Layout}
use Rattle.ffv1_slice.specs.Slice.{CanHold}
use Rattle.std.proofs.Common.{◌≤◌, arith, ap}
use Rattle.ffv1_frame.proofs.encode_range.range_content.Goals as goal

pub encode_slice-requires-clause-areas : goal.encode_slice-requires-clause-areas
encode_slice-requires-clause-areas c =
    let wide : c.shape.result.width ≤ c.args.scratch.now.width = omega (arith, c.requires.width, ap (λ (s : Layout). s.width) c.shape.ensures.shape) in
    subst (λ (s : Layout). CanHold s c.args.scratch.now c.areas-areas.result) c.shape.ensures.shape (c.areas-areas.ensures.within c.args.scratch.now wide)
