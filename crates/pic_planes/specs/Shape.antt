-- What a shape is: a width, a height, and grey or two shifts of chroma. RFC 9043 sections 4.2.7 to 4.2.9.
use Rattle.std.specs.Prelude.{ℕ, ◌+◌, ◌-◌, ◌/◌, ◌^◌, ◌≤◌, ◌==◌, if◌then◌else◌}
use Rattle.tl_limits.specs.Limits.{IsSide}
use Rattle.pic_planes.specs.declared.shape.Chroma.{Chroma}
use Rattle.pic_planes.specs.declared.shape.Chroma.TheVariants.{Grey, Shifts}

pub record Layout : Type 0 where
  pub width : ℕ
  pub height : ℕ
  pub chroma : Chroma

abbrev pub layout : ℕ → ℕ → Chroma → Layout
layout width height chroma = record { width = width; height = height; chroma = chroma }

abbrev pub AreShifts : Chroma → Type 0
AreShifts Grey = Unit {0}
AreShifts (Shifts h v) = (h ≤ 2) × (v ≤ 2)

pub record IsShape (s : Layout) : Type 0 where
  pub width : IsSide s.width
  pub height : IsSide s.height
  pub chroma : AreShifts s.chroma

-- a size divided by 2 to the power of a shift, rounded down and up
abbrev pub shifted_down : ℕ → ℕ → ℕ
shifted_down size shift = size / 2 ^ shift

abbrev pub shifted_up : ℕ → ℕ → ℕ
shifted_up size shift = (size + (2 ^ shift - 1)) / 2 ^ shift

-- Y alone, or Y, Cb and Cr
abbrev pub chroma_count : Chroma → ℕ
chroma_count Grey = 1
chroma_count (Shifts h v) = 3

abbrev pub plane_count : Layout → ℕ
plane_count s = chroma_count s.chroma

-- the width and height of the chroma planes
abbrev pub chroma_width : ℕ → Chroma → ℕ
chroma_width width Grey = 0
chroma_width width (Shifts h v) = shifted_up width h

abbrev pub chroma_height : ℕ → Chroma → ℕ
chroma_height height Grey = 0
chroma_height height (Shifts h v) = shifted_up height v

-- the width and height of a plane, counted from 0
abbrev pub plane_width : Layout → ℕ → ℕ
plane_width s plane = if plane == 0 then s.width else chroma_width s.width s.chroma

abbrev pub plane_height : Layout → ℕ → ℕ
plane_height s plane = if plane == 0 then s.height else chroma_height s.height s.chroma
