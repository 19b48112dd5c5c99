use Rattle.std.proofs.Common.{◌<◌, get_or, arith}
use Rattle.std.proofs.lemmas.Simd.{Each1-get_or}
use Rattle.ffv1_lanes.proofs.Sixteen.{HasLanes-blended, weighted-fit}
use Rattle.ffv1_lanes.proofs.blend.blended_lanes.Goals as goal

pub rounded-requires : goal.rounded-requires
rounded-requires c = λ k l.
    let first = Each1-get_or _ c.args.a k 0 (omega (arith, c.fits-a.0)) c.fits-a.1 in
    let second = Each1-get_or _ c.args.b k 0 (omega (arith, c.fits-b.0)) c.fits-b.1 in
    let small : c.from-weight.result < 256 = omega (arith, c.from-weight.ensures) in
    let p = c.weighted.ensures.each k l in
    let q = c.weighted-2.ensures.each k l in
    omega (arith, p, q, weighted-fit (get_or c.args.a k 0) (get_or c.args.b k 0) c.from-weight.result first.fits second.fits small)

pub returns : goal.returns
returns c =
    HasLanes-blended c.args.weight c.from-weight.result c.args.a c.args.b c.weighted.result c.weighted-2.result c.rounded.result c.samples_of.result
    c.from-weight.ensures c.weighted.ensures c.weighted-2.ensures c.rounded.ensures c.samples_of.ensures
