-- A timeline as a list of cells, one a frame, and the recipe of each.
use Rattle.std.specs.Prelude.{ℕ, zero, suc, ◌+◌, ◌*◌, ◌/◌, ◌==◌, nat_lt, if◌then◌else◌, Bool, List, [], ◌∷◌, ◌++◌, map, Option, Some, None}
use Rattle.std.specs.List.{count_by, list_any}
use Rattle.tl_model.specs.Recipe.{same_recipe}
use Rattle.tl_model.specs.Media.{alone}
use Rattle.tl_model.specs.declared.recipe.Side.{Side}
use Rattle.tl_model.specs.declared.recipe.Side.TheVariants as side
use Rattle.tl_model.specs.declared.recipe.Mix.{Mix}
use Rattle.tl_model.specs.declared.recipe.Recipe.{Recipe}
use Rattle.tl_model.specs.declared.recipe.Recipe.TheVariants as recipe
use Rattle.tl_model.specs.declared.segment.Segment.{Segment}

-- One step of a dissolve: its outgoing side, and which step it is of how many.
pub record CellMix : Type 0 where
  pub from : Side
  pub step : ℕ
  pub total : ℕ

pub record Cell : Type 0 where
  pub side : Side
  pub mix : Option CellMix
  -- a segment starts here
  pub is_head : Bool

-- What follows a side after n frames.
abbrev pub side_at : Side → ℕ → Side
side_at side.Black n = side.Black
side_at (side.Clip clip frame) n = side.Clip clip (frame + n)

abbrev pub mix_at : Option Mix → ℕ → Option CellMix
mix_at None n = None
mix_at (Some mix) n =
    if nat_lt n mix.steps
    then Some (record { from = side_at mix.from n; step = mix.done + n + 1; total = mix.total })
    else None

-- The cell of frame n of a segment.
abbrev pub cell_at : Segment → ℕ → Cell
cell_at s n = record { side = side_at s.first n; mix = mix_at s.mix n; is_head = n == 0 }

-- What f gives for `count` numbers from `from` on.
abbrev pub run : {A : Type 0} → (ℕ → A) → (from count : ℕ) → List A
run f from zero = []
run f from (suc count) = f from ∷ run f (from + 1) count

abbrev pub cells_of : Segment → List Cell
cells_of s = run (cell_at s) 0 s.len

-- The cells of segments, one after the other.
abbrev pub cells : List Segment → List Cell
cells [] = []
cells (s ∷ ss) = cells_of s ++ cells ss

-- How many segments there are.
abbrev pub segment_count : List Cell → ℕ
segment_count line = count_by (λ c. c.is_head) line

abbrev pub mixed_or_alone : Option CellMix → Side → Recipe
mixed_or_alone None side = alone side
mixed_or_alone (Some mix) side = recipe.Mix mix.from side (256 * mix.step / (mix.total + 1))

abbrev pub recipe_of : Cell → Recipe
recipe_of c = mixed_or_alone c.mix c.side

-- The recipe of each frame.
abbrev pub recipes : List Cell → List Recipe
recipes line = map recipe_of line

abbrev pub is_among : Recipe → List Recipe → Bool
is_among recipe rs = list_any (same_recipe recipe) rs
