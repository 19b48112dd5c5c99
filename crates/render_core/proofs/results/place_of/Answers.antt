use Rattle.std.proofs.Common.{sym, ◌∙◌}
use Rattle.render_core.specs.Parts.{recipes_of}
use Rattle.render_core.proofs.Ranges.{filed_item, left_next, left_here}
use Rattle.render_core.proofs.results.place_of.Goals as goal

pub returns-then-is : goal.returns-then-is
returns-then-is g c =
    let item = filed_item c.args.filed.now c.loop-i.i c.index-filed-i.result c.recipe.result c.loop-i-test.true c.index-filed-i.is c.recipe.ensures in
    left_here c.args.recipe c.recipe.result (recipes_of c.args.filed.now) c.loop-i.i item (sym c.is.ensures ∙ c.if-is.true) c.loop-i.invariant

pub loop-i-preserved : goal.loop-i-preserved
loop-i-preserved g c =
    let item = filed_item c.args.filed.now c.loop-i.i c.index-filed-i.result c.recipe.result c.loop-i-test.true c.index-filed-i.is c.recipe.ensures in
    left_next c.args.recipe c.recipe.result (recipes_of c.args.filed.now) c.loop-i.i item (sym c.is.ensures ∙ c.if-is.false) c.loop-i.invariant
