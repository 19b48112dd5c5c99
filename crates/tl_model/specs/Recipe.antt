-- When two recipes are the same.
use Rattle.std.specs.Prelude.{Bool, true, false, ◌&&◌, ◌==◌}
use Rattle.tl_model.specs.declared.recipe.Side.{Side}
use Rattle.tl_model.specs.declared.recipe.Side.TheVariants as side
use Rattle.tl_model.specs.declared.recipe.Recipe.{Recipe}
use Rattle.tl_model.specs.declared.recipe.Recipe.TheVariants as recipe

abbrev pub same_side : Side → Side → Bool
same_side side.Black side.Black = true
same_side (side.Clip c f) (side.Clip d g) = (c == d) && (f == g)
same_side side.Black (side.Clip d g) = false
same_side (side.Clip c f) side.Black = false

abbrev pub same_recipe : Recipe → Recipe → Bool
same_recipe recipe.Black recipe.Black = true
same_recipe (recipe.Source c f) (recipe.Source d g) = (c == d) && (f == g)
same_recipe (recipe.Mix a b w) (recipe.Mix d e v) = (same_side a d) && ((same_side b e) && (w == v))
same_recipe recipe.Black (recipe.Source d g) = false
same_recipe recipe.Black (recipe.Mix d e v) = false
same_recipe (recipe.Source c f) recipe.Black = false
same_recipe (recipe.Source c f) (recipe.Mix d e v) = false
same_recipe (recipe.Mix a b w) recipe.Black = false
same_recipe (recipe.Mix a b w) (recipe.Source d g) = false
