-- What is read of a file: the limits of a clip, and how many masters stand in one another.
use Rattle.std.specs.Prelude.{ℕ}

-- the most samples of a picture's width or height
abbrev pub max_side : ℕ
max_side = 8192

-- the most bytes of a configuration record
abbrev pub max_private : ℕ
max_private = 65536

-- the most packets of a clip
abbrev pub max_frames : ℕ
max_frames = 1000000

-- the TrackType of video (RFC 9559 section 5.1.4.1.3)
abbrev pub video_type : ℕ
video_type = 1

-- How many masters stand in one another at most that are read, and the file around them: Segment, Tracks, TrackEntry and Video.
abbrev pub depth : ℕ
depth = 5
