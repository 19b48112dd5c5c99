-- Which track is read, and what is taken of its TrackEntry (RFC 9559 section 5.1.4).
use Rattle.std.specs.Prelude.{ℕ, ◌+◌, ◌-◌, ◌==◌, nat_lt, nat_le, min, Bool, false, ◌&&◌, List, [], ◌∷◌, length, take, drop, Option, Some, None, is_some, Result, Ok, Err, if◌then◌else◌, codes}
use Rattle.std.specs.Str.{bytes_eq}
use Rattle.ebml_core.specs.declared.element.Element.{Element}
use Rattle.ebml_core.specs.Spelling.{unsigned_of}
use Rattle.mkv_elements.specs.declared.TheConstants.{TRACKS, TRACK_ENTRY, TRACK_NUMBER, TRACK_TYPE, CODEC_ID, CODEC_PRIVATE, CONTENT_ENCODINGS, VIDEO, PIXEL_WIDTH, PIXEL_HEIGHT}
use Rattle.mkv_read.specs.declared.clip.Place.{Place}
use Rattle.mkv_read.specs.declared.fault.ClipFault.{ClipFault}
use Rattle.mkv_read.specs.declared.fault.ClipFault.TheVariants as faults
use Rattle.mkv_read.specs.declared.fault.Which.TheVariants as limits
use Rattle.mkv_read.specs.declared.track.Track.{Track}
use Rattle.mkv_read.specs.Elements.{content_of, text_of, elements_in, first_where, first, number_of}
use Rattle.mkv_read.specs.Limits.{max_side, max_private, video_type}

-- whether there is an element with this text
abbrev pub is_text : List ℕ → List ℕ → Option Element → Bool
is_text bytes text None = false
is_text bytes text (Some e) = bytes_eq (text_of (content_of bytes e)) text

-- where the bytes of a CodecPrivate lie; a missing one has none
abbrev pub private_place : Option Element → Place
private_place None = record { from = 0; len = 0 }
private_place (Some private) = record { from = private.content; len = private.end - private.content }

-- How many bytes follow the 40 of a BITMAPINFOHEADER, whose biSize is this, in so many bytes:
-- up to biSize, where it is more than 40, else all.
abbrev pub len_behind : ℕ → ℕ → ℕ
len_behind size len = if nat_lt 40 size then min size len - 40 else len - 40

-- a BITMAPINFOHEADER's biSize, which is little-endian
abbrev pub bi_size : List ℕ → ℕ
bi_size [] = 0
bi_size (a ∷ []) = 0
bi_size (a ∷ b ∷ []) = 0
bi_size (a ∷ b ∷ c ∷ []) = 0
bi_size (a ∷ b ∷ c ∷ d ∷ rest) = unsigned_of (d ∷ c ∷ b ∷ a ∷ [])

-- the record behind the BITMAPINFOHEADER of a CodecPrivate, if its biCompression is FFV1
unfoldable pub fourcc_place : List ℕ → Option Element → Option Place
fourcc_place bytes None = None
fourcc_place bytes (Some private) =
    let content = content_of bytes private in
    if nat_lt (length content) 40 then None else (
    if bytes_eq (take 4 (drop 16 content)) (codes "FFV1") then
    Some (record { from = private.content + 40; len = len_behind (bi_size content) (length content) }) else None)

-- where the configuration record of an entry's codec lies, if that is FFV1
unfoldable pub record_place : List ℕ → Element → Option Place
record_place bytes entry =
    let es = elements_in bytes entry in
    if is_text bytes (codes "V_FFV1") (first CODEC_ID es) then Some (private_place (first CODEC_PRIVATE es)) else (
    if is_text bytes (codes "V_MS/VFW/FOURCC") (first CODEC_ID es) then fourcc_place bytes (first CODEC_PRIVATE es) else None)

-- whether an element is a TrackEntry of video
unfoldable pub is_video : List ℕ → Element → Bool
is_video bytes e = e.id == TRACK_ENTRY && number_of bytes (first TRACK_TYPE (elements_in bytes e)) == video_type

-- whether an element is a TrackEntry of video of FFV1
unfoldable pub is_ffv1 : List ℕ → Element → Bool
is_ffv1 bytes e = is_video bytes e && is_some (record_place bytes e)

-- a picture's width or height; without Video it is missing too
unfoldable pub side_of : List ℕ → ℕ → Option Element → ℕ
side_of bytes id None = 0
side_of bytes id (Some video) = number_of bytes (first id (elements_in bytes video))

-- whether a picture may be so wide or high
abbrev pub is_side : ℕ → Bool
is_side n = nat_lt 0 n && nat_le n max_side

-- a track that is within the limits, or its first fault
unfoldable pub track_within : Track → Bool → Result Track ClipFault
track_within track encoded =
    if track.private.len == 0 then Err faults.NoPrivate else (
    if encoded then Err faults.Encoded else (
    if is_side track.width then (
    if is_side track.height then (
    if nat_le track.private.len max_private then Ok track else
    Err (faults.Limit limits.Private)) else
    Err (faults.Limit limits.Height)) else
    Err (faults.Limit limits.Width)))

-- the track of an entry with its record
abbrev pub track_with : List ℕ → Element → Option Place → Result Track ClipFault
track_with bytes entry None = Err faults.Codec
track_with bytes entry (Some private) =
    let es = elements_in bytes entry in
    let video = first VIDEO es in
    track_within (record {
      number = number_of bytes (first TRACK_NUMBER es);
      width = side_of bytes PIXEL_WIDTH video;
      height = side_of bytes PIXEL_HEIGHT video;
      private = private;
    }) (is_some (first CONTENT_ENCODINGS es))

-- the track of an entry that is FFV1, if there is one; else there may be one of another codec
abbrev pub track_among : List ℕ → Option Element → Option Element → Result Track ClipFault
track_among bytes (Some ffv1) video = track_with bytes ffv1 (record_place bytes ffv1)
track_among bytes None (Some video) = Err faults.Codec
track_among bytes None None = Err faults.NoTrack

-- a TrackEntry of video, and where that is asked for, of FFV1
abbrev pub is_wanted : List ℕ → Bool → Element → Bool
is_wanted bytes ffv1 e = if ffv1 then is_ffv1 bytes e else is_video bytes e

-- the first video track that is FFV1, among the elements of a Tracks
unfoldable pub track_in : List ℕ → Option Element → Result Track ClipFault
track_in bytes None = Err faults.NoTrack
track_in bytes (Some tracks) =
    let entries = elements_in bytes tracks in
    track_among bytes (first_where (is_ffv1 bytes) entries) (first_where (is_video bytes) entries)

-- the track of a Segment that is read
unfoldable pub track_of : List ℕ → Option Element → Result Track ClipFault
track_of bytes None = Err faults.NoTrack
track_of bytes (Some segment) = track_in bytes (first TRACKS (elements_in bytes segment))
