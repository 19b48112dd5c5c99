-- The limits as numbers, and the word for what keeps each. None is a standard's, but for the size of a slice (RFC 9043 section 4.9.1).
use Rattle.std.specs.Prelude.{ℕ, ◌≤◌, ◌^◌}

-- the most samples of a picture's width or height
abbrev pub max_side : ℕ
max_side = 8192

abbrev pub IsSide : ℕ → Type 0
IsSide side = (1 ≤ side) × (side ≤ max_side)

-- the most slices of a picture
abbrev pub max_slices : ℕ
max_slices = 1024

-- the most bytes of a configuration record
abbrev pub max_record_bytes : ℕ
max_record_bytes = 65536

abbrev pub IsRecordLength : ℕ → Type 0
IsRecordLength bytes = (1 ≤ bytes) × (bytes ≤ max_record_bytes)

-- the most bytes of a slice's content, which its size in 24 bits can say
abbrev pub max_slice_bytes : ℕ
max_slice_bytes = 16777215

-- the most bytes of a packet that is written
abbrev pub max_packet_bytes : ℕ
max_packet_bytes = 2 ^ 40

-- the most bytes of a clip's file, and of all clips' files together
abbrev pub max_clip_bytes : ℕ
max_clip_bytes = 2147483648

abbrev pub max_total_bytes : ℕ
max_total_bytes = 4294967296

-- the most clips of a session
abbrev pub max_clips : ℕ
max_clips = 1000

-- the most frames of a clip and of a timeline, and the largest number of an edit or a script
abbrev pub max_frames : ℕ
max_frames = 1000000

-- A length of at least one frame.
abbrev pub IsFrameCount : ℕ → Type 0
IsFrameCount frames = (1 ≤ frames) × (frames ≤ max_frames)

-- A place or a number that a script or an edit may name.
abbrev pub IsSmall : ℕ → Type 0
IsSmall number = number ≤ max_frames

-- the most segments of a timeline
abbrev pub max_segments : ℕ
max_segments = 100000

-- the most frames of a dissolve
abbrev pub max_mix : ℕ
max_mix = 250

-- what each frame number of a timecode is below
abbrev pub timecode_frames : ℕ
timecode_frames = 33554432

-- whole frames a second
abbrev pub max_rate : ℕ
max_rate = 240

abbrev pub IsRate : ℕ → Type 0
IsRate rate = (1 ≤ rate) × (rate ≤ max_rate)

-- the frames of a full Cluster
abbrev pub cluster_frames : ℕ
cluster_frames = 25

-- the most bytes of a script or an edit list, and the most lines of a script
abbrev pub max_text_bytes : ℕ
max_text_bytes = 16777216

abbrev pub max_lines : ℕ
max_lines = 100000

-- worker threads
abbrev pub max_workers : ℕ
max_workers = 16

-- filed results
abbrev pub max_cache : ℕ
max_cache = 4096

abbrev pub IsCacheSize : ℕ → Type 0
IsCacheSize cache = (1 ≤ cache) × (cache ≤ max_cache)

-- entries of a journal: those that a command line may name, and those that the library takes
abbrev pub IsNamedJournal : ℕ → Type 0
IsNamedJournal limit = (16 ≤ limit) × (limit ≤ 4000000)

abbrev pub max_entries : ℕ
max_entries = 2 ^ 40

abbrev pub IsJournalLimit : ℕ → Type 0
IsJournalLimit limit = (1 ≤ limit) × (limit ≤ max_entries)
