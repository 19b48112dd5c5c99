-- The law of writing and reading back: the clip of a written file is what was written.
use Rattle.std.specs.Prelude.{◌≡◌, ℕ, ◌+◌, ◌≤◌, List, length, map, Ok}
use Rattle.std.specs.List.{AllByRecursion}
use Rattle.tl_limits.specs.Limits.{IsSide, IsRecordLength, IsRate, IsFrameCount, max_packet_bytes}
use Rattle.ebml_core.specs.Spelling.{between}
use Rattle.mkv_read.specs.declared.clip.Place.{Place}
use Rattle.mkv_read.specs.declared.clip.ClipIndex.{ClipIndex}
use Rattle.mkv_read.specs.Clip.{clip_of}
use Rattle.mkv_write.specs.Writing.{Writing}

-- What a writer asks for, and at least one packet.
pub record IsWritable (w : Writing) : Type 0 where
  pub width : IsSide w.width
  pub height : IsSide w.height
  pub private : IsRecordLength (length w.private)
  pub rate : IsRate w.rate
  pub frames : IsFrameCount (length w.packets)
  pub packets : AllByRecursion (λ packet. length packet ≤ max_packet_bytes) w.packets

-- the bytes at a place
abbrev pub bytes_at : List ℕ → Place → List ℕ
bytes_at bytes place = between bytes place.from (place.from + place.len)

-- These bytes have a clip, whose size, configuration record and packets are those that were written, the packets in order.
pub record IsReadBack (w : Writing) (bytes : List ℕ) : Type 0 where
  pub clip : ClipIndex
  pub read : clip_of bytes ≡ Ok clip
  pub width_is : clip.width ≡ w.width
  pub height_is : clip.height ≡ w.height
  pub private_is : bytes_at bytes clip.private ≡ w.private
  pub packets_are : map (bytes_at bytes) clip.packets ≡ w.packets
