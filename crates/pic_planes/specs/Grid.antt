-- The grid of slices of a picture, and whether it covers the planes. RFC 9043 section 4.6.
use Rattle.std.specs.Prelude.{◌≡◌, ℕ, ◌+◌, ◌-◌, ◌*◌, ◌/◌, ◌≤◌, Bool, true, ◌&&◌, ◌==◌}
use Rattle.tl_limits.specs.Limits.{max_slices}
use Rattle.pic_planes.specs.declared.shape.Chroma.{Chroma}
use Rattle.pic_planes.specs.declared.shape.Chroma.TheVariants.{Grey, Shifts}
use Rattle.pic_planes.specs.Shape.{shifted_down, shifted_up}

-- The columns and rows of a grid: at least one of each, and few slices.
pub record IsGrid (columns rows : ℕ) : Type 0 where
  pub some_columns : 1 ≤ columns
  pub some_rows : 1 ≤ rows
  pub few : columns * rows ≤ max_slices

-- where the last of so many columns or rows of slices starts, in luma samples
abbrev pub last_start : ℕ → ℕ → ℕ
last_start cells size = (cells - 1) * size / cells

-- where the last of so many columns or rows of slices ends in a chroma plane
abbrev pub last_end : (cells size shift : ℕ) → ℕ
last_end cells size shift = shifted_down (last_start cells size) shift + shifted_up (size - last_start cells size) shift

-- The last column or row of slices reaches the end of a chroma plane.
abbrev pub ReachesEnd : (cells size shift : ℕ) → Type 0
ReachesEnd cells size shift = last_end cells size shift ≡ shifted_up size shift

-- The last column and row of slices reach the ends of the chroma planes.
abbrev pub ReachesEnds : (columns rows width height : ℕ) → Chroma → Type 0
ReachesEnds columns rows width height Grey = Unit {0}
ReachesEnds columns rows width height (Shifts h v) = ReachesEnd columns width h × ReachesEnd rows height v

-- the same as a test
abbrev pub reaches_end : (cells size shift : ℕ) → Bool
reaches_end cells size shift = last_end cells size shift == shifted_up size shift

abbrev pub reaches_ends : (columns rows width height : ℕ) → Chroma → Bool
reaches_ends columns rows width height Grey = true
reaches_ends columns rows width height (Shifts h v) = reaches_end columns width h && reaches_end rows height v
