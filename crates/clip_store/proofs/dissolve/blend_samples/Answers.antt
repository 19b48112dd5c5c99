use Rattle.std.proofs.Common.{◌≤◌, sym, ◌∙◌, arith}
use Rattle.clip_store.proofs.Blending.{same_blended, row_blended}
use Rattle.clip_store.proofs.dissolve.blend_samples.Goals as goal

pub returns-then-same_row : goal.returns-then-same_row
returns-then-same_row c =
    let small : c.args.weight ≤ 256 = omega arith in
    c.copy_from_slice.ensures.after ∙ sym (same_blended c.args.weight c.args.from.now c.args.to.now small (c.same_row.ensures.0 c.if-same_row.true))

pub returns-else-same_row : goal.returns-else-same_row
returns-else-same_row c =
    row_blended c.args.weight c.args.from.now c.args.to.now c.blend_row.new.into c.requires.to (omega (arith, c.requires.into, c.blend_row.auto.into)) c.blend_row.ensures
