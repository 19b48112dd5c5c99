use Rattle.std.proofs.Common.{◌∙◌, arith}
use Rattle.work_gen.proofs.Drawing.{row_filled}
use Rattle.work_gen.proofs.pictures.fill.Goals as goal

pub returns : goal.returns
returns c =
    row_filled c.args.plane c.args.y c.args.frame c.loop-x.samples (c.loop-x.invariant.len ∙ c.requires.width)
    (λ k lt. c.loop-x.invariant.each k (omega (arith, lt, c.loop-x-test.false, c.loop-x.auto.x-end, c.requires.width, c.loop-x.invariant.len)))
