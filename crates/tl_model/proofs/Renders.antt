-- The recipe of each cell of a sound timeline can be rendered.
use Rattle.std.proofs.Common.{◌≡◌, ℕ, zero, suc, ◌+◌, ◌*◌, ◌/◌, ◌<◌, ◌≤◌, List, [], ◌∷◌, Option, Some, None, subst, arith}
use Rattle.std.specs.Prelude.{slice_get}
use Rattle.std.proofs.Math.Nat.{div-lt_iff_lt-mul}
use Rattle.tl_model.specs.Media.{Library, IsShown, CanRender}
use Rattle.tl_model.specs.declared.recipe.Side.{Side}
use Rattle.tl_model.specs.declared.recipe.Side.TheVariants as side
use Rattle.tl_model.specs.declared.recipe.Recipe.{Recipe}
use Rattle.tl_model.specs.Cells.{Cell, CellMix, mixed_or_alone, recipe_of, recipes}
use Rattle.tl_model.specs.Sound.{AreSound, IsSoundMix}

pub weight-small : (step total : ℕ) → step ≤ total → 256 * step / (total + 1) < 256
weight-small step total h =
    let some : zero < total + 1 = omega arith in
    let less : 256 * step < 256 * (total + 1) = omega arith in
    (div-lt_iff_lt-mul {k = total + 1} {x = 256 * step} {y = 256} some).1 less

pub cell-renders : {F : Type 0} (lib : Library F) (mix : Option CellMix) (x : Side) → IsShown lib x → IsSoundMix lib mix → CanRender lib (mixed_or_alone mix x)
cell-renders lib None side.Black s m = tt
cell-renders lib None (side.Clip clip frame) s m = s
cell-renders lib (Some mix) x s m = (m.0, s, weight-small mix.step mix.total m.1)

pub line-renders : {F : Type 0} (lib : Library F) (line : List Cell) (n : ℕ) (r : Recipe) → AreSound lib line → slice_get (recipes line) n ≡ Some r → CanRender lib r
line-renders lib [] n r s e = absurd cc
line-renders lib (c ∷ cs) zero r s e = let same : recipe_of c ≡ r = cc in subst (CanRender lib) same (cell-renders lib c.mix c.side s.0.0 s.0.1)
line-renders lib (c ∷ cs) (suc n) r s e = line-renders lib cs n r s.1 e
