-- Which edits are well formed.
use Rattle.std.specs.Prelude.{ℕ, ℤ, ◌≤◌, unsigned_abs, All, Option, Some, None}
use Rattle.tl_limits.specs.Limits.{max_frames, IsFrameCount, IsSmall, timecode_frames}
use Rattle.tl_model.specs.Segment.{IsSegment}
use Rattle.tl_model.specs.declared.recipe.Side.{Side}
use Rattle.tl_model.specs.declared.recipe.Side.TheVariants as side
use Rattle.tl_model.specs.declared.recipe.Mix.{Mix}
use Rattle.tl_model.specs.declared.segment.Segment.{Segment}
use Rattle.tl_model.specs.declared.edit.Edit.{Edit}
use Rattle.tl_model.specs.declared.edit.Edit.TheVariants as edit

-- No number passes a bound.
abbrev pub IsSideWithin : ℕ → Side → Type 0
IsSideWithin most side.Black = Unit {0}
IsSideWithin most (side.Clip clip frame) = (clip ≤ most) × (frame ≤ most)

abbrev pub IsMixWithin : ℕ → Option Mix → Type 0
IsMixWithin most None = Unit {0}
IsMixWithin most (Some mix) = IsSideWithin most mix.from × (mix.done ≤ most) × (mix.steps ≤ most) × (mix.total ≤ most)

abbrev pub IsSegmentWithin : ℕ → Segment → Type 0
IsSegmentWithin most s = IsSideWithin most s.first × (s.len ≤ most) × IsMixWithin most s.mix

-- A segment that may take the timeline's place: each frame number of a timecode is at most this bound.
abbrev pub IsReplacement : Segment → Type 0
IsReplacement s = IsSegment s × IsSegmentWithin timecode_frames s

-- A distance that an edit may name, to either side.
abbrev pub IsNear : ℤ → Type 0
IsNear by = IsSmall (unsigned_abs by)

-- Each length but a dissolve's is at least 1, and no number passes its bound.
abbrev pub IsEdit : Edit → Type 0
IsEdit (edit.Insert at take len) = IsSmall at × IsSideWithin max_frames take × IsFrameCount len
IsEdit (edit.Extract at len) = IsSmall at × IsFrameCount len
IsEdit (edit.Overwrite at take len) = IsSmall at × IsSideWithin max_frames take × IsFrameCount len
IsEdit (edit.Lift at len) = IsSmall at × IsFrameCount len
IsEdit (edit.Split at) = IsSmall at
IsEdit (edit.TrimIn at by) = IsSmall at × IsNear by
IsEdit (edit.TrimOut at by) = IsSmall at × IsNear by
IsEdit (edit.Slip at by) = IsSmall at × IsNear by
IsEdit (edit.Dissolve at len) = IsSmall at × IsSmall len
IsEdit (edit.Relink at clip first) = IsSmall at × IsSmall clip × IsSmall first
IsEdit (edit.Replace segments) = All IsReplacement segments
