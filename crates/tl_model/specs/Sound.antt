-- Which timelines are sound over a library: each frame can be rendered, and the limits are kept.
use Rattle.std.specs.Prelude.{◌≤◌, List, [], ◌∷◌, length, Option, Some, None}
use Rattle.tl_limits.specs.Limits.{max_frames, max_segments}
use Rattle.tl_model.specs.Media.{Library, IsShown}
use Rattle.tl_model.specs.Cells.{CellMix, Cell, segment_count}

abbrev pub IsSoundMix : {F : Type 0} → Library F → Option CellMix → Type 0
IsSoundMix lib None = Unit {0}
IsSoundMix lib (Some mix) = IsShown lib mix.from × (mix.step ≤ mix.total)

-- Every side and every outgoing side is black or a frame of a clip that fits.
abbrev pub AreSound : {F : Type 0} → Library F → List Cell → Type 0
AreSound lib [] = Unit {0}
AreSound lib (c ∷ cs) = (IsShown lib c.side × IsSoundMix lib c.mix) × AreSound lib cs

pub record IsSound {F : Type 0} (lib : Library F) (line : List Cell) : Type 0 where
  pub shown : AreSound lib line
  pub frames : length line ≤ max_frames
  pub segments : segment_count line ≤ max_segments
