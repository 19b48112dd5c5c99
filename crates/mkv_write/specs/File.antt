-- The whole Matroska file that is written, as one list of bytes (RFC 8794, RFC 9559).
use Rattle.std.specs.Prelude.{ℕ, zero, suc, ◌+◌, ◌-◌, ◌*◌, ◌/◌, ◌^◌, List, [], ◌∷◌, ◌++◌, length, take, drop, codes}
use Rattle.std.specs.Int.{bytes_high_first}
use Rattle.tl_limits.specs.Limits.{cluster_frames}
use Rattle.mkv_elements.specs.declared.TheConstants.{EBML, EBML_VERSION, EBML_READ_VERSION, EBML_MAX_ID_LENGTH, EBML_MAX_SIZE_LENGTH, DOC_TYPE, DOC_TYPE_VERSION, DOC_TYPE_READ_VERSION, SEGMENT, INFO, TIMESTAMP_SCALE, MUXING_APP, WRITING_APP, TRACKS, TRACK_ENTRY, TRACK_NUMBER, TRACK_UID, TRACK_TYPE, FLAG_LACING, CODEC_ID, CODEC_PRIVATE, VIDEO, PIXEL_WIDTH, PIXEL_HEIGHT, CLUSTER, TIMESTAMP, SIMPLE_BLOCK, CUES, CUE_POINT, CUE_TIME, CUE_TRACK_POSITIONS, CUE_TRACK, CUE_CLUSTER_POSITION}

-- The time of a frame in milliseconds, the nearest to its own.
unfoldable pub frame_time : (rate frame : ℕ) → ℕ
frame_time rate frame = (1000 * frame + rate / 2) / rate

-- A size of 1 to 8 octets: a marker, and below it seven bits of the number for each octet (RFC 8794 sections 4 and 6).
unfoldable pub size : (octets number : ℕ) → List ℕ
size octets number = bytes_high_first octets (2 ^ (7 * octets) + number)

-- An element: its id with the marker, the size of its content, and the content (RFC 8794 section 3).
unfoldable pub element : (id_octets id size_octets : ℕ) (content : List ℕ) → List ℕ
element id_octets id size_octets content = bytes_high_first id_octets id ++ size size_octets (length content) ++ content

-- An unsigned integer element of so many octets (RFC 8794 section 7.2).
unfoldable pub number : (id_octets id octets value : ℕ) → List ℕ
number id_octets id octets value = element id_octets id 1 (bytes_high_first octets value)

-- The EBML header (RFC 8794 section 11.2, RFC 9559 section 4).
unfoldable pub ebml_header : List ℕ
ebml_header = element 4 EBML 1 (number 2 EBML_VERSION 1 1 ++ number 2 EBML_READ_VERSION 1 1
    ++ number 2 EBML_MAX_ID_LENGTH 1 4 ++ number 2 EBML_MAX_SIZE_LENGTH 1 8
    ++ element 2 DOC_TYPE 1 (codes "matroska") ++ number 2 DOC_TYPE_VERSION 1 4 ++ number 2 DOC_TYPE_READ_VERSION 1 2)

-- The id of the Segment, and the unknown size, all of whose bits are one (RFC 9559 section 5.1, RFC 8794 section 6.2).
unfoldable pub segment_head : List ℕ
segment_head = bytes_high_first 4 SEGMENT ++ size 8 (2 ^ 56 - 1)

-- Info: timestamps count milliseconds, that is 1,000,000 nanoseconds (RFC 9559 section 5.1.2).
unfoldable pub info : List ℕ
info = element 4 INFO 1 (number 3 TIMESTAMP_SCALE 3 1000000
    ++ element 2 MUXING_APP 1 (codes "ffv1-timeline") ++ element 2 WRITING_APP 1 (codes "ffv1-timeline"))

-- The size of the picture in pixels (RFC 9559 section 5.1.4.1.28).
unfoldable pub video : (width height : ℕ) → List ℕ
video width height = element 1 VIDEO 1 (number 1 PIXEL_WIDTH 2 width ++ number 1 PIXEL_HEIGHT 2 height)

-- The one track, of video without lacing, with the configuration record as its private data
-- (RFC 9559 section 5.1.4.1, RFC 9043 section 4.3.4).
unfoldable pub track : (private : List ℕ) (width height : ℕ) → List ℕ
track private width height = number 1 TRACK_NUMBER 1 1 ++ number 2 TRACK_UID 1 1 ++ number 1 TRACK_TYPE 1 1 ++ number 1 FLAG_LACING 1 0
    ++ element 1 CODEC_ID 1 (codes "V_FFV1") ++ element 2 CODEC_PRIVATE 4 private ++ video width height

-- What stands before the first Cluster in the Segment's content: Info and Tracks (RFC 9559 sections 5.1.2 and 5.1.4).
unfoldable pub lead : (private : List ℕ) (width height : ℕ) → List ℕ
lead private width height = info ++ element 4 TRACKS 4 (element 1 TRACK_ENTRY 4 (track private width height))

-- The file up to the first Cluster.
unfoldable pub head : (private : List ℕ) (width height : ℕ) → List ℕ
head private width height = ebml_header ++ segment_head ++ lead private width height

-- A SimpleBlock: the number of track 1 (129, by RFC 8794 section 4), the time after its Cluster's in 2 octets,
-- the flags of a key frame (128), and the packet (RFC 9559 sections 5.1.3.4 and 10.2).
unfoldable pub simple_block : (time : ℕ) (packet : List ℕ) → List ℕ
simple_block time packet = element 1 SIMPLE_BLOCK 8 (129 ∷ bytes_high_first 2 time ++ 128 ∷ packet)

-- The blocks of packets from a frame on, in a Cluster of this time.
unfoldable pub blocks : (rate time frame : ℕ) (packets : List (List ℕ)) → List ℕ
blocks rate time frame [] = []
blocks rate time frame (packet ∷ packets) = simple_block (frame_time rate frame - time) packet ++ blocks rate time (frame + 1) packets

-- A Cluster of this time with these blocks (RFC 9559 section 5.1.3).
unfoldable pub cluster_of : (time : ℕ) (content : List ℕ) → List ℕ
cluster_of time content = element 4 CLUSTER 8 (number 1 TIMESTAMP 8 time ++ content)

-- The Cluster of an index, from 0, with 25 packets or, at the end, those that are left.
unfoldable pub cluster : (rate : ℕ) (packets : List (List ℕ)) (index : ℕ) → List ℕ
cluster rate packets index =
    let first = cluster_frames * index in
    let time = frame_time rate first in
    cluster_of time (blocks rate time first (take cluster_frames (drop first packets)))

-- The first Clusters.
unfoldable pub clusters : (rate : ℕ) (packets : List (List ℕ)) (count : ℕ) → List ℕ
clusters rate packets zero = []
clusters rate packets (suc index) = clusters rate packets index ++ cluster rate packets index

-- How many Clusters so many packets take.
abbrev pub cluster_count : ℕ → ℕ
cluster_count packets = (packets + (cluster_frames - 1)) / cluster_frames

-- Where a Cluster begins, counted from the first byte of the Segment's content, where so many bytes stand before the
-- first Cluster (RFC 9559 section 16).
unfoldable pub cluster_place : (lead_length rate : ℕ) (packets : List (List ℕ)) (index : ℕ) → ℕ
cluster_place lead_length rate packets index = lead_length + length (clusters rate packets index)

-- The time and the place of a Cluster (RFC 9559 section 5.1.5.1).
unfoldable pub cue_point : (time place : ℕ) → List ℕ
cue_point time place = element 1 CUE_POINT 1 (number 1 CUE_TIME 8 time
    ++ element 1 CUE_TRACK_POSITIONS 1 (number 1 CUE_TRACK 1 1 ++ number 1 CUE_CLUSTER_POSITION 8 place))

-- A CuePoint for each of the first Clusters.
unfoldable pub cue_points : (lead_length rate : ℕ) (packets : List (List ℕ)) (count : ℕ) → List ℕ
cue_points lead_length rate packets zero = []
cue_points lead_length rate packets (suc index) = cue_points lead_length rate packets index
    ++ cue_point (frame_time rate (cluster_frames * index)) (cluster_place lead_length rate packets index)

-- Cues (RFC 9559 section 5.1.5).
unfoldable pub cues : (lead_length rate : ℕ) (packets : List (List ℕ)) (count : ℕ) → List ℕ
cues lead_length rate packets count = element 4 CUES 8 (cue_points lead_length rate packets count)

-- The whole file: EBML, Segment, Info, Tracks, the Clusters, Cues.
unfoldable pub mkv : (private : List ℕ) (width height rate : ℕ) (packets : List (List ℕ)) → List ℕ
mkv private width height rate packets =
    let count = cluster_count (length packets) in
    head private width height ++ clusters rate packets count ++ cues (length (lead private width height)) rate packets count
