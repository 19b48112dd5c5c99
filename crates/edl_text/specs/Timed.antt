-- What the numbers of an event that was read are below.
use Rattle.std.specs.Prelude.{◌<◌}
use Rattle.tl_limits.specs.Limits.{timecode_frames}
use Rattle.edl_text.specs.declared.event.Event.{Event}
use Rattle.edl_text.specs.Law.{IsDuration}

-- A duration has at most three digits, and each time is the frame number of a timecode.
pub record IsTimed (e : Event) : Type 0 where
  pub duration : IsDuration e.duration
  pub source_in : e.source_in < timecode_frames
  pub source_out : e.source_out < timecode_frames
  pub record_in : e.record_in < timecode_frames
  pub record_out : e.record_out < timecode_frames
