-- The constants of the code are these numbers.
use Rattle.std.specs.Prelude.{◌≡◌}
use Rattle.tl_limits.specs.declared.TheConstants.{MAX_SIDE, MAX_SLICES, MAX_RECORD_BYTES, MAX_SLICE_BYTES, MAX_PACKET_BYTES, MAX_CLIP_BYTES, MAX_TOTAL_BYTES, MAX_CLIPS, MAX_FRAMES, MAX_SEGMENTS, MAX_MIX, TIMECODE_FRAMES, MAX_RATE, CLUSTER_FRAMES, MAX_TEXT_BYTES, MAX_LINES, MAX_WORKERS, USUAL_WORKERS, MAX_CACHE, USUAL_CACHE, MIN_JOURNAL, MAX_JOURNAL, USUAL_JOURNAL, MAX_ENTRIES}
use Rattle.tl_limits.specs.Limits.{max_side, max_slices, max_record_bytes, max_slice_bytes, max_packet_bytes, max_clip_bytes, max_total_bytes, max_clips, max_frames, max_segments, max_mix, timecode_frames, max_rate, cluster_frames, max_text_bytes, max_lines, max_workers, max_cache, max_entries}

pub record AreStated : Type 0 where
  pub side : MAX_SIDE ≡ max_side
  pub slices : MAX_SLICES ≡ max_slices
  pub record_bytes : MAX_RECORD_BYTES ≡ max_record_bytes
  pub slice_bytes : MAX_SLICE_BYTES ≡ max_slice_bytes
  pub packet_bytes : MAX_PACKET_BYTES ≡ max_packet_bytes
  pub clip_bytes : MAX_CLIP_BYTES ≡ max_clip_bytes
  pub total_bytes : MAX_TOTAL_BYTES ≡ max_total_bytes
  pub clips : MAX_CLIPS ≡ max_clips
  pub frames : MAX_FRAMES ≡ max_frames
  pub segments : MAX_SEGMENTS ≡ max_segments
  pub mix : MAX_MIX ≡ max_mix
  pub timecodes : TIMECODE_FRAMES ≡ timecode_frames
  pub rate : MAX_RATE ≡ max_rate
  pub cluster : CLUSTER_FRAMES ≡ cluster_frames
  pub text_bytes : MAX_TEXT_BYTES ≡ max_text_bytes
  pub lines : MAX_LINES ≡ max_lines
  pub workers : MAX_WORKERS ≡ max_workers
  pub usual_workers : USUAL_WORKERS ≡ 2
  pub cache : MAX_CACHE ≡ max_cache
  pub usual_cache : USUAL_CACHE ≡ 64
  pub least_journal : MIN_JOURNAL ≡ 16
  pub most_journal : MAX_JOURNAL ≡ 4000000
  pub usual_journal : USUAL_JOURNAL ≡ 1000000
  pub entries : MAX_ENTRIES ≡ max_entries
