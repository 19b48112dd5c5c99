-- Plain Matroska files (RFC 9559), and the clip that each holds.
use Rattle.std.specs.Prelude.{◌≡◌, ℕ, ◌+◌, ◌≤◌, ◌==◌, List, [], ◌∷◌, ◌++◌, length, map, filter, bit_and, codes}
use Rattle.ebml_core.specs.declared.element.Element.{Element}
use Rattle.ebml_core.specs.declared.vint.Size.TheVariants.{Known}
use Rattle.ebml_core.specs.Spelling.{unsigned_of, IsSize, Holds}
use Rattle.mkv_elements.specs.declared.TheConstants.{EBML, DOC_TYPE, SEGMENT, TRACKS, TRACK_ENTRY, TRACK_NUMBER, TRACK_TYPE, CODEC_ID, CODEC_PRIVATE, CONTENT_ENCODINGS, VIDEO, PIXEL_WIDTH, PIXEL_HEIGHT, CLUSTER, TIMESTAMP, SIMPLE_BLOCK, BLOCK_GROUP}
use Rattle.mkv_read.specs.declared.clip.Place.{Place}
use Rattle.mkv_read.specs.declared.clip.ClipIndex.{ClipIndex}
use Rattle.mkv_read.specs.Elements.{content_of, text_of}
use Rattle.mkv_read.specs.Faults.{signed_plus_32768}
use Rattle.mkv_read.specs.Limits.{max_side, max_private, max_frames, video_type}

-- a place that lies before an end
abbrev pub LiesBefore : ℕ → Place → Type 0
LiesBefore end place = place.from + place.len ≤ end

-- A master's content is these elements, all of known size.
abbrev pub Children : List ℕ → Element → List Element → Type 0
Children bytes master children = Holds bytes master.content master.end children

-- the elements of one id
abbrev pub named : ℕ → List Element → List Element
named id es = filter (λ e. e.id == id) es

abbrev pub Lacks : ℕ → List Element → Type 0
Lacks id es = named id es ≡ []

-- exactly one child of this id
pub record HasOne (bytes : List ℕ) (master : Element) (id : ℕ) (child : Element) : Type 0 where
  pub children : List Element
  pub held : Children bytes master children
  pub one : named id children ≡ child ∷ []

pub record HasNone (bytes : List ℕ) (master : Element) (id : ℕ) : Type 0 where
  pub children : List Element
  pub held : Children bytes master children
  pub lacks : Lacks id children

-- an unsigned number, of at most 8 octets (RFC 8794 section 7.2)
pub record IsNumber (bytes : List ℕ) (e : Element) (n : ℕ) : Type 0 where
  pub short : length (content_of bytes e) ≤ 8
  pub value : unsigned_of (content_of bytes e) ≡ n

-- the EBML header of a Matroska file (RFC 9559 section 4)
pub record IsMatroska (bytes : List ℕ) (header : Element) : Type 0 where
  pub doc_type : Element
  pub one_doc_type : HasOne bytes header DOC_TYPE doc_type
  pub text : text_of (content_of bytes doc_type) ≡ codes "matroska"

-- a picture's width or height (RFC 9559 section 5.1.4.1.28)
pub record IsSide (bytes : List ℕ) (video : Element) (id n : ℕ) : Type 0 where
  pub side : Element
  pub one : HasOne bytes video id side
  pub value : IsNumber bytes side n
  pub some : 1 ≤ n
  pub most : n ≤ max_side

-- where the configuration record lies
pub record IsPrivate (bytes : List ℕ) (entry : Element) (place : Place) : Type 0 where
  pub private : Element
  pub one : HasOne bytes entry CODEC_PRIVATE private
  pub from : place.from ≡ private.content
  pub len : place.from + place.len ≡ private.end
  pub some : 1 ≤ place.len
  pub most : place.len ≤ max_private

-- the entry of a video track of FFV1 with this number, whose blocks are neither compressed nor encrypted
pub record IsFfv1 (bytes : List ℕ) (entry : Element) (number : ℕ) : Type 0 where
  pub number_element : Element
  pub one_number : HasOne bytes entry TRACK_NUMBER number_element
  pub number_is : IsNumber bytes number_element number
  pub type_element : Element
  pub one_type : HasOne bytes entry TRACK_TYPE type_element
  pub type_is : IsNumber bytes type_element video_type
  pub codec : Element
  pub one_codec : HasOne bytes entry CODEC_ID codec
  pub codec_is : text_of (content_of bytes codec) ≡ codes "V_FFV1"
  pub plain : HasNone bytes entry CONTENT_ENCODINGS

-- a Tracks with one TrackEntry (RFC 9559 section 5.1.4)
pub record IsTrack (bytes : List ℕ) (tracks : Element) (number width height : ℕ) (private : Place) : Type 0 where
  pub entry : Element
  pub one_entry : HasOne bytes tracks TRACK_ENTRY entry
  pub ffv1 : IsFfv1 bytes entry number
  pub configured : IsPrivate bytes entry private
  pub video : Element
  pub one_video : HasOne bytes entry VIDEO video
  pub width_is : IsSide bytes video PIXEL_WIDTH width
  pub height_is : IsSide bytes video PIXEL_HEIGHT height

-- a block: its time plus 32,768, which is never negative, and where its packet lies
pub record Block : Type 0 where
  pub time : ℕ
  pub packet : Place

-- a SimpleBlock of this track, without lacing, in a Cluster of this time (RFC 9559 section 10.2)
pub record IsBlock (bytes : List ℕ) (number timestamp : ℕ) (e : Element) (block : Block) : Type 0 where
  pub track : List ℕ
  pub high : ℕ
  pub low : ℕ
  pub flags : ℕ
  pub packet : List ℕ
  pub content : content_of bytes e ≡ track ++ (high ∷ (low ∷ (flags ∷ packet)))
  pub of_track : IsSize track (Known number)
  pub unlaced : bit_and flags 6 ≡ 0
  pub time : block.time ≡ timestamp + signed_plus_32768 high low
  pub from : block.packet.from ≡ e.content + (length track + 3)
  pub len : block.packet.len ≡ length packet

-- elements that are these blocks, in order
abbrev pub AreBlocks : List ℕ → ℕ → ℕ → List Element → List Block → Type 0
AreBlocks bytes number timestamp [] blocks = blocks ≡ []
AreBlocks bytes number timestamp (e ∷ es) [] = ⊥
AreBlocks bytes number timestamp (e ∷ es) (block ∷ blocks) =
    IsBlock bytes number timestamp e block × AreBlocks bytes number timestamp es blocks

-- a Cluster with one Timestamp, which stands before its SimpleBlocks, and no BlockGroup (RFC 9559 section 5.1.3)
pub record IsCluster (bytes : List ℕ) (number : ℕ) (cluster : Element) (blocks : List Block) : Type 0 where
  pub before : List Element
  pub timestamp : Element
  pub after : List Element
  pub held : Children bytes cluster (before ++ timestamp ∷ after)
  pub is_timestamp : timestamp.id ≡ TIMESTAMP
  pub none_before : Lacks TIMESTAMP before
  pub none_after : Lacks TIMESTAMP after
  pub no_early_block : Lacks SIMPLE_BLOCK before
  pub no_group_before : Lacks BLOCK_GROUP before
  pub no_group_after : Lacks BLOCK_GROUP after
  pub time : ℕ
  pub time_is : IsNumber bytes timestamp time
  pub are_blocks : AreBlocks bytes number time (named SIMPLE_BLOCK after) blocks

-- Clusters that hold these blocks, in order.
abbrev pub AreClusters : List ℕ → ℕ → List Element → List Block → Type 0
AreClusters bytes number [] blocks = blocks ≡ []
AreClusters bytes number (cluster ∷ clusters) blocks =
    (front back : List Block) × IsCluster bytes number cluster front × AreClusters bytes number clusters back × (blocks ≡ front ++ back)

-- No block's time is below this time, or below that of the block before.
abbrev pub NeverFall : ℕ → List Block → Type 0
NeverFall time [] = Unit {0}
NeverFall time (block ∷ blocks) = (time ≤ block.time) × NeverFall block.time blocks

-- a Segment with one Tracks, before all its Clusters (RFC 9559 section 5.1)
pub record IsSegment (bytes : List ℕ) (segment : Element) (clip : ClipIndex) : Type 0 where
  pub before : List Element
  pub tracks : Element
  pub after : List Element
  pub held : Children bytes segment (before ++ tracks ∷ after)
  pub is_tracks : tracks.id ≡ TRACKS
  pub none_before : Lacks TRACKS before
  pub none_after : Lacks TRACKS after
  pub no_early_cluster : Lacks CLUSTER before
  pub number : ℕ
  pub track : IsTrack bytes tracks number clip.width clip.height clip.private
  pub blocks : List Block
  pub clusters : AreClusters bytes number (named CLUSTER after) blocks
  pub in_order : NeverFall 0 blocks
  pub some : 1 ≤ length blocks
  pub most : length blocks ≤ max_frames
  pub packets : clip.packets ≡ map (λ block. block.packet) blocks

-- A file that is an EBML header and a Segment, and nothing else, and holds this clip.
pub record IsPlainFile (bytes : List ℕ) (clip : ClipIndex) : Type 0 where
  pub header : Element
  pub segment : Element
  pub file : Holds bytes 0 (length bytes) (header ∷ (segment ∷ []))
  pub is_header : header.id ≡ EBML
  pub is_segment : segment.id ≡ SEGMENT
  pub matroska : IsMatroska bytes header
  pub holds : IsSegment bytes segment clip
