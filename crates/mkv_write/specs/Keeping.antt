-- What a writer keeps between two calls.
use Rattle.std.specs.Prelude.{◌≡◌, ℕ, ◌+◌, ◌*◌, ◌/◌, ◌^◌, ◌≤◌, List, length, drop}
use Rattle.std.specs.List.{flat_map}
use Rattle.mkv_write.specs.declared.cue.Cue.{Cue}
use Rattle.tl_limits.specs.Limits.{IsRate, max_frames, cluster_frames}
use Rattle.mkv_write.specs.File.{frame_time, lead, blocks, cluster_place, cue_point, cue_points}
use Rattle.mkv_write.specs.Writing.{Writing}

-- How many Clusters are full.
abbrev pub full_count : Writing → ℕ
full_count w = length w.packets / cluster_frames

-- The first frame after the full Clusters.
abbrev pub first_open : Writing → ℕ
first_open w = cluster_frames * full_count w

-- The blocks of the packets after the full Clusters.
abbrev pub open_blocks : Writing → List ℕ
open_blocks w = blocks w.rate (frame_time w.rate (first_open w)) (first_open w) (drop (first_open w) w.packets)

-- How many bytes stand before the first Cluster in the Segment's content.
abbrev pub lead_length : Writing → ℕ
lead_length w = length (lead w.private w.width w.height)

-- The CuePoints of these Cues, as bytes.
abbrev pub points_of : List Cue → List ℕ
points_of cues = flat_map (λ cue. cue_point cue.time cue.place) cues

-- The blocks of the open Cluster, a Cue for each full one, and the place after them.
pub record Keeps (w : Writing) (frames place : ℕ) (open_bytes : List ℕ) (cues : List Cue) : Type 0 where
  pub rate : IsRate w.rate
  pub frames_are : frames ≡ length w.packets
  pub frames_limit : frames ≤ max_frames
  pub open_are : open_bytes ≡ open_blocks w
  pub cues_are : points_of cues ≡ cue_points (lead_length w) w.rate w.packets (full_count w)
  pub place_is : place ≡ cluster_place (lead_length w) w.rate w.packets (full_count w)
  pub bytes_limit : place + length open_bytes ≤ 2 ^ 17 + frames * 2 ^ 41
