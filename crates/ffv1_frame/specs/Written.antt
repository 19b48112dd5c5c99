-- What a picture is written as: a packet with one slice for each cell of the grid, row by row. RFC 9043 sections 4.4 to 4.9.
use Rattle.std.specs.Prelude.{◌≡◌, ⊤, ℕ, zero, suc, ◌*◌, ◌/◌, ◌%◌, ◌<◌, ◌≤◌, Bool, true, false, ◌==◌, List, [], ◌∷◌, ◌++◌, length, slice_index_or, All, Option, Some, None, Result, Ok, Err}
use Rattle.std.specs.List.{flat_map}
use Rattle.std.specs.Global.{Vec}
use Rattle.byteorder.specs.Endian.{big_bytes}
use Rattle.tl_limits.specs.Limits.{max_slice_bytes}
use Rattle.tl_base.specs.Parity.{parity}
use Rattle.tl_model.specs.declared.media.EncodeFault.{EncodeFault}
use Rattle.tl_model.specs.declared.media.EncodeFault.TheVariants.{SliceTooLong, NoMemory}
use Rattle.pic_planes.specs.Shape.{Layout}
use Rattle.pic_planes.specs.Picture.{Image, IsPicture}
use Rattle.ffv1_range.specs.Writing.{Writing, started, put, part, with_sentinel}
use Rattle.ffv1_record.specs.Parameters.{Parameters, IsRecord}
use Rattle.ffv1_record.specs.Suits.{Suits}
use Rattle.ffv1_slice.specs.declared.header.Header.{Header}
use Rattle.ffv1_slice.specs.Header.{with_header}
use Rattle.ffv1_slice.specs.Cells.{areas_of}
use Rattle.ffv1_slice.specs.Slice as slices
use Rattle.ffv1_slice.specs.Writing.{WritesSlice}
use Rattle.ffv1_golomb.specs.Writing as rice
use Rattle.ffv1_frame.specs.Packet.{Slice, bytes_of}
use Rattle.ffv1_frame.specs.Frame.{Gives, grid_of, slice_by}

-- ---- the content of a slice
-- the header of the slice of a cell: it has the first set of tables for all planes
abbrev pub cell_header : ℕ → ℕ → Header
cell_header columns cell = record { x = cell % columns; y = cell / columns; columns = 1; rows = 1; luma_set = 0; chroma_set = 0 }

-- the start of a content: in the first slice the bit of the key frame, with a fresh state of its own. RFC 9043 section 4.4.
abbrev pub content_start : List ℕ → Bool → Writing
content_start table true = put (started table) 128 true
content_start table false = started table

-- a content up to the end of its header
abbrev pub header_written : Parameters → ℕ → Writing
header_written p cell = with_header (content_start p.transition (cell == 0)) (cell % p.columns) (cell / p.columns)

-- the samples of a cell, by the tables and the areas of its header
abbrev pub cell_slice : Parameters → Layout → ℕ → slices.Slice
cell_slice p shape cell = slice_by p (cell_header p.columns cell) (areas_of (grid_of p) shape (cell_header p.columns cell))

-- The content of a range-coded slice: the samples stand behind the header, and Sentinel mode ends them. RFC 9043 section 3.8.1.1.1.
pub record IsRangeContent (slice : slices.Slice) (image : Image) (header : Writing) (content : List ℕ) : Type 0 where
  pub writing : Writing
  pub samples : WritesSlice slice image header writing
  pub ended : content ≡ part (with_sentinel writing)

-- The content of a slice in Golomb-Rice mode: the bits of the samples stand behind the range-coded header. RFC 9043 section 3.8.2.
pub record IsRiceContent (slice : slices.Slice) (image : Image) (header : Writing) (content : List ℕ) : Type 0 where
  pub bits : List ℕ
  pub samples : rice.WritesSlice slice image [] bits
  pub joined : content ≡ rice.content_of header bits

-- the same by the coder type: 0 is Golomb-Rice mode, and the others are the range coder. RFC 9043 section 4.2.3.
abbrev pub IsContent : ℕ → slices.Slice → Image → Writing → List ℕ → Type 0
IsContent zero slice image header content = IsRiceContent slice image header content
IsContent (suc coder) slice image header content = IsRangeContent slice image header content

-- The content of the slice of a cell.
abbrev pub WritesContent : Parameters → Image → ℕ → List ℕ → Type 0
WritesContent p image cell content = IsContent p.coder_type (cell_slice p image.shape cell) image (header_written p cell) content

-- ---- the slices
-- slice_size, and with error correction error_status 0 and the parity of the slice's bytes before it. RFC 9043 section 4.9.
unfoldable pub footer_of : Bool → List ℕ → List ℕ
footer_of false content = big_bytes 3 (length content)
footer_of true content =
    let front : List ℕ = big_bytes 3 (length content) ++ 0 ∷ [] in front ++ big_bytes 4 (parity (content ++ front))

abbrev pub slice_of : Bool → List ℕ → Slice
slice_of ec content = record { content = content; footer = footer_of ec content }

-- slices of these contents one after the other
abbrev pub packet_of : Bool → List (List ℕ) → List ℕ
packet_of ec contents = flat_map (λ content. bytes_of (slice_of ec content)) contents

-- ---- the packet
-- These are the contents of the first cells, and none has more bytes than slice_size can say.
pub record AreContents (p : Parameters) (image : Image) (contents : List (List ℕ)) : Type 0 where
  pub each : (cell : ℕ) → cell < length contents → WritesContent p image cell (slice_index_or contents cell [])
  pub short : All (λ content. length content ≤ max_slice_bytes) contents

-- The packet has a slice for each cell.
pub record IsPacket (p : Parameters) (image : Image) (packet : List ℕ) : Type 0 where
  pub contents : List (List ℕ)
  pub are : AreContents p image contents
  pub all : length contents ≡ p.columns * p.rows
  pub bytes : packet ≡ packet_of p.ec contents

-- The content of a cell has more bytes than slice_size can say.
pub record IsTooLong (p : Parameters) (image : Image) : Type 0 where
  pub cell : ℕ
  pub within : cell < p.columns * p.rows
  pub content : List ℕ
  pub written : WritesContent p image cell content
  pub long : max_slice_bytes < length content

-- What a picture is written as: a packet, or none where a slice is too long.
abbrev pub Writes : Parameters → Image → Option (List ℕ) → Type 0
Writes p image (Some packet) = IsPacket p image packet
Writes p image None = IsTooLong p image

abbrev pub items_of : Option (Vec ℕ) → Option (List ℕ)
items_of (Some bytes) = Some bytes.items
items_of None = None

-- The packet is answered, or that it is too long, exactly where it is.
abbrev pub Encodes : Parameters → Image → Result (Vec ℕ) EncodeFault → Type 0
Encodes p image (Ok bytes) = Writes p image (Some bytes.items)
Encodes p image (Err SliceTooLong) = Writes p image None
Encodes p image (Err NoMemory) = ⊤

-- ---- the law
-- The packet that a picture is written as decodes to the picture.
abbrev pub IsReadBack : Type 0
IsReadBack =
    (p : Parameters) (image : Image) (packet : List ℕ) → IsRecord p → IsPicture image → Suits p image.shape → Writes p image (Some packet)
    → Gives p image.shape packet (Ok image)
