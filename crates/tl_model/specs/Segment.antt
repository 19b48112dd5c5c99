-- Which segments are well formed, and which have frames that 32-bit numbers can name.
use Rattle.std.specs.Prelude.{ℕ, ◌+◌, ◌≤◌, ◌^◌, List, [], ◌∷◌, Option, Some, None}
use Rattle.tl_model.specs.declared.recipe.Side.{Side}
use Rattle.tl_model.specs.declared.recipe.Side.TheVariants as side
use Rattle.tl_model.specs.declared.recipe.Mix.{Mix}
use Rattle.tl_model.specs.declared.segment.Segment.{Segment}

-- The steps of a dissolve number at least one and end at the latest with its total.
abbrev pub IsMix : Option Mix → Type 0
IsMix None = Unit {0}
IsMix (Some mix) = (1 ≤ mix.steps) × (mix.done + mix.steps ≤ mix.total)

abbrev pub IsSegment : Segment → Type 0
IsSegment s = (1 ≤ s.len) × IsMix s.mix

-- The frames of a side from itself on, of which there are so many, have 32-bit numbers.
abbrev pub Reaches : Side → ℕ → Type 0
Reaches side.Black len = Unit {0}
Reaches (side.Clip clip frame) len = frame + len ≤ 2 ^ 32

-- The outgoing frames have 32-bit numbers, and the steps end at the latest with the segment.
abbrev pub IsMixOf : ℕ → Option Mix → Type 0
IsMixOf len None = Unit {0}
IsMixOf len (Some mix) = (mix.steps ≤ len) × Reaches mix.from mix.steps

-- A well formed segment each of whose frames can be named.
pub record IsPiece (s : Segment) : Type 0 where
  pub formed : IsSegment s
  pub side : Reaches s.first s.len
  pub mix : IsMixOf s.len s.mix

abbrev pub ArePieces : List Segment → Type 0
ArePieces [] = Unit {0}
ArePieces (s ∷ ss) = IsPiece s × ArePieces ss
