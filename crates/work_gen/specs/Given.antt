-- What a writer of the clip was given.
use Rattle.std.specs.Prelude.{◌≡◌, ℕ, List, length}
use Rattle.ffv1_record.specs.Spelling.{record_bytes}
use Rattle.mkv_write.specs.Writing.{Writing, nothing_yet, with_packet}
use Rattle.work_gen.specs.Clip.{clip_record, IsPacket, ArePackets}

-- The file of the clip that has these packets so far.
abbrev pub clip_with : List (List ℕ) → Writing
clip_with packets = record (nothing_yet (record_bytes clip_record) 64 48 25) { packets = packets }

-- The writer was given the packets of so many frames.
pub record IsGiven (frames : ℕ) (writer : Writing) : Type 0 where
  pub packets : List (List ℕ)
  pub count : length packets ≡ frames
  pub each : ArePackets packets
  pub all : writer ≡ clip_with packets

-- It was given the packet of one more frame.
abbrev pub AddsFrame : (frame : ℕ) (old new : Writing) → Type 0
AddsFrame frame old new = (packet : List ℕ) × IsPacket frame packet × (new ≡ with_packet old packet)
