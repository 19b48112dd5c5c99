use Rattle.std.proofs.Common.{◌≡◌, ℕ, ◌+◌, ◌-◌, Bool, true, false, ◌||◌, ap, sym, ◌∙◌}
use Rattle.tl_model.specs.Recipe.{same_recipe}
use Rattle.tl_model.specs.declared.recipe.Recipe.{Recipe}
use Rattle.tl_model.specs.declared.segment.Segment.{Segment}
use Rattle.tl_model.specs.Cells.{run, cell_at, cells_of, recipe_of, recipes, is_among}
use Rattle.time_list.proofs.Steps.{among_next, among_all}
use Rattle.time_list.proofs.piece.uses.Goals as goal

gone_on : (whole left here rest : Bool) → left ≡ whole → left ≡ (here || rest) → here ≡ false → rest ≡ whole
gone_on whole left true rest so_far next none = absurd cc
gone_on whole left false rest so_far next none = sym next ∙ so_far

abbrev left_of : Recipe → Segment → ℕ → Bool
left_of r s n = is_among r (run (λ (k : ℕ). recipe_of (cell_at s k)) n (s.len - n))

pub loop-n-init : goal.loop-n-init
loop-n-init c = among_all c.args.segment.now c.args.recipe

pub loop-n-preserved : goal.loop-n-preserved
loop-n-preserved c =
    let s = c.args.segment.now in
    let r = c.args.recipe in
    let n = c.loop-n.n in
    let next = among_next s r n c.loop-n-test.true in
    let none : same_recipe r (recipe_of (cell_at s n)) ≡ false = ap (same_recipe r) (sym c.recipe_at.ensures) ∙ sym c.is.ensures ∙ c.if-is.false in
    gone_on (is_among r (recipes (cells_of s))) (left_of r s n) (same_recipe r (recipe_of (cell_at s n))) (left_of r s (n + 1)) c.loop-n.invariant next none
