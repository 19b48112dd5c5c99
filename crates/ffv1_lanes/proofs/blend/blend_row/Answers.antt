use Rattle.std.proofs.Common.{◌+◌, ◌≤◌, length, arith}
use Rattle.std.proofs.lemmas.Simd.{length-put_chunk}
use Rattle.ffv1_lanes.proofs.Sixteen.{stored}
use Rattle.ffv1_lanes.proofs.blend.blend_row.Goals as goal

pub loop-into-preserved : goal.loop-into-preserved
loop-into-preserved c =
    let i = c.loop-into.first in
    let into = c.loop-into.into in
    let r = c.blended_lanes-lanes.result in
    let room : i + 16 ≤ length into = omega arith in
    record {
      within = omega (arith, length-put_chunk i into r);
      done = stored c.args.weight i c.args.a.now c.args.b.now into c.loaded.result c.loaded-in-loop-into.result r room c.loaded.ensures c.loaded-in-loop-into.ensures c.blended_lanes-lanes.ensures c.loop-into.invariant.done;
    }
