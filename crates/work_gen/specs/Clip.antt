-- The generated clip: a Matroska file of the pictures' packets.
use Rattle.std.specs.Prelude.{◌≡◌, ℕ, ◌<◌, List, [], length, slice_index_or, Some, None}
use Rattle.pic_planes.specs.declared.shape.Chroma.TheVariants.{Shifts}
use Rattle.ffv1_record.specs.declared.record.Coder.TheVariants.{Range}
use Rattle.ffv1_record.specs.Parameters.{Parameters}
use Rattle.ffv1_record.specs.Default.{default_parameters}
use Rattle.ffv1_record.specs.Spelling.{record_bytes}
use Rattle.ffv1_frame.specs.Written.{Writes}
use Rattle.mkv_write.specs.File.{mkv}
use Rattle.work_gen.specs.Picture.{picture}

-- the default record of the range coder, with two columns and two rows of slices
abbrev pub clip_record : Parameters
clip_record = default_parameters Range (Shifts 1 1) 2 2

-- This is the packet that the picture of a frame is written as.
abbrev pub IsPacket : (frame : ℕ) → List ℕ → Type 0
IsPacket frame packet = Writes clip_record (picture frame) (Some packet)

-- These are the packets of the first frames.
abbrev pub ArePackets : List (List ℕ) → Type 0
ArePackets packets = (frame : ℕ) → frame < length packets → IsPacket frame (slice_index_or packets frame [])

-- The bytes are the file of 64 x 48 samples at 25 frames a second with this record and the packets of so many frames.
pub record IsClip (frames : ℕ) (bytes : List ℕ) : Type 0 where
  pub packets : List (List ℕ)
  pub count : length packets ≡ frames
  pub each : ArePackets packets
  pub whole : bytes ≡ mkv (record_bytes clip_record) 64 48 25 packets
