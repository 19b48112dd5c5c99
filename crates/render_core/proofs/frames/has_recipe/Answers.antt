use Rattle.std.proofs.Common.{◌≡◌, ◌+◌, Bool, true, false, ◌||◌, sym, ◌∙◌, arith}
use Rattle.tl_model.specs.Cells.{recipes}
use Rattle.render_core.proofs.Ranges.{among_next}
use Rattle.render_core.proofs.frames.has_recipe.Goals as goal

found : (whole left here rest : Bool) → left ≡ whole → left ≡ (here || rest) → here ≡ true → true ≡ whole
found whole left true rest so_far next some = sym next ∙ so_far
found whole left false rest so_far next some = absurd cc

gone_on : (whole left here rest : Bool) → left ≡ whole → left ≡ (here || rest) → here ≡ false → rest ≡ whole
gone_on whole left true rest so_far next none = absurd cc
gone_on whole left false rest so_far next none = sym next ∙ so_far

pub returns-then-is : goal.returns-then-is
returns-then-is g c =
    let rs = recipes (g.L.Lane.cells c.args.lane.now) in
    let next = among_next rs c.loop-n.n (c.args.first + c.args.len) c.args.recipe c.recipe_in.result c.recipe_in.ensures (omega arith) in
    found _ _ _ _ c.loop-n.invariant next (sym c.is.ensures ∙ c.if-is.true)

pub loop-n-preserved : goal.loop-n-preserved
loop-n-preserved g c =
    let rs = recipes (g.L.Lane.cells c.args.lane.now) in
    let next = among_next rs c.loop-n.n (c.args.first + c.args.len) c.args.recipe c.recipe_in.result c.recipe_in.ensures (omega arith) in
    gone_on _ _ _ _ c.loop-n.invariant next (sym c.is.ensures ∙ c.if-is.false)
