-- The clip of a Matroska file (RFC 9559), or its first fault.
use Rattle.std.specs.Prelude.{ℕ, ◌≤◌, ◌==◌, nat_lt, Bool, false, List, [], ◌∷◌, length, map, Option, Some, None, Result, Ok, Err, if◌then◌else◌, codes}
use Rattle.ebml_core.specs.declared.element.Element.{Element}
use Rattle.ebml_core.specs.Reading.{◌>>=◌}
use Rattle.ebml_core.specs.Listing.{Listing, ends, breaks, gives}
use Rattle.mkv_elements.specs.declared.TheConstants.{EBML, DOC_TYPE, SEGMENT}
use Rattle.mkv_elements.specs.declared.table.TheConstants.{FILE}
use Rattle.mkv_read.specs.declared.clip.ClipIndex.{ClipIndex}
use Rattle.mkv_read.specs.declared.fault.ClipFault.{ClipFault}
use Rattle.mkv_read.specs.declared.fault.ClipFault.TheVariants as faults
use Rattle.mkv_read.specs.declared.fault.Which.TheVariants as limits
use Rattle.mkv_read.specs.declared.track.Track.{Track}
use Rattle.mkv_read.specs.declared.block.Block.{Block}
use Rattle.mkv_read.specs.Elements.{elements, elements_in, first}
use Rattle.mkv_read.specs.Faults.{fault_in}
use Rattle.mkv_read.specs.Blocks.{blocks_in, fault_after}
use Rattle.mkv_read.specs.Tracks.{is_text, track_of}
use Rattle.mkv_read.specs.Limits.{max_side, max_private, max_frames, depth}

-- the Segment that is read
unfoldable pub segment_of : List ℕ → Option Element
segment_of bytes = first SEGMENT (elements bytes 0 (length bytes))

abbrev pub end_or : ℕ → Option Element → ℕ
end_or end None = end
end_or end (Some e) = e.end

-- The elements of the file that are read: what follows the first Segment is passed over.
unfoldable pub file_of : List ℕ → Listing
file_of bytes = elements bytes 0 (end_or (length bytes) (segment_of bytes))

-- whether the first element has this id
abbrev pub begins_with : ℕ → Listing → Bool
begins_with id ends = false
begins_with id (breaks at) = false
begins_with id (gives e later) = e.id == id

-- The place of the first faulty element. That is 0 where the file doesn't begin with an EBML header.
unfoldable pub fault_of : List ℕ → Option ℕ
fault_of bytes =
    if begins_with EBML (elements bytes 0 (length bytes)) then fault_in depth bytes FILE (file_of bytes) else Some 0

abbrev pub has_doc_type : List ℕ → Option Element → Bool
has_doc_type bytes None = false
has_doc_type bytes (Some header) = is_text bytes (codes "matroska") (first DOC_TYPE (elements_in bytes header))

-- whether the EBML header says that the file is Matroska
unfoldable pub is_matroska : List ℕ → Bool
is_matroska bytes = has_doc_type bytes (first EBML (elements bytes 0 (length bytes)))

abbrev pub packed : Track → List Block → Option ClipFault → Result ClipIndex ClipFault
packed track blocks (Some fault) = Err fault
packed track [] None = Err faults.NoFrames
packed track (block ∷ blocks) None =
    Ok (record {
      width = track.width;
      height = track.height;
      private = track.private;
      packets = map (λ block. block.packet) (block ∷ blocks);
    })

-- the clip of a track with these blocks
unfoldable pub clip_with : Track → List Block → Result ClipIndex ClipFault
clip_with track blocks =
    if nat_lt max_frames (length blocks) then Err (faults.Limit limits.Frames) else packed track blocks (fault_after 0 blocks)

abbrev pub unless_faulty : Option ℕ → Result Unit ClipFault
unless_faulty (Some at) = Err (faults.Ebml at)
unless_faulty None = Ok tt

abbrev pub require : Bool → ClipFault → Result Unit ClipFault
require holds fault = if holds then Ok tt else Err fault

-- a clip within the limits: the size of its pictures, the bytes of its record, and the number of its packets
pub record IsWithinLimits (clip : ClipIndex) : Type 0 where
  pub width : (1 ≤ clip.width) × (clip.width ≤ max_side)
  pub height : (1 ≤ clip.height) × (clip.height ≤ max_side)
  pub private : (1 ≤ clip.private.len) × (clip.private.len ≤ max_private)
  pub frames : (1 ≤ length clip.packets) × (length clip.packets ≤ max_frames)

-- The clip of a file, or its first fault: of an element, of the DocType, of the track, of the track's blocks.
unfoldable pub clip_of : List ℕ → Result ClipIndex ClipFault
clip_of bytes = do
  sound ← unless_faulty (fault_of bytes)
  matroska ← require (is_matroska bytes) faults.DocType
  track ← track_of bytes (segment_of bytes)
  clip_with track (blocks_in depth bytes (Some track.number) FILE 0 (file_of bytes))
