-- What a packet decodes to: a picture, or the first fault. RFC 9043 sections 4.4 to 4.9.
use Rattle.std.specs.Prelude.{◌≡◌, ◌≢◌, ℕ, zero, suc, ◌+◌, ◌*◌, ◌<◌, ◌≤◌, Bool, true, false, ◌==◌, List, [], ◌∷◌, length, take, reverse, replicate, slice_index_or, All, Result, Ok, Err, ⊤}
use Rattle.pic_planes.specs.Shape.{Layout}
use Rattle.pic_planes.specs.Picture.{Image, filled}
use Rattle.ffv1_range.specs.Reading.{Reading, opened, bit_of, after_bit}
use Rattle.ffv1_range.specs.Symbol.{source}
use Rattle.ffv1_record.specs.Parameters.{Parameters, tables_of, context_count_of}
use Rattle.ffv1_slice.specs.declared.header.Grid.{Grid}
use Rattle.ffv1_slice.specs.declared.header.Header.{Header}
use Rattle.ffv1_slice.specs.declared.area.Areas.{Areas}
use Rattle.ffv1_slice.specs.declared.fault.HeaderFault.{HeaderFault}
use Rattle.ffv1_slice.specs.declared.fault.HeaderFault.TheVariants as header_faults
use Rattle.ffv1_slice.specs.declared.fault.SliceFault.{SliceFault}
use Rattle.ffv1_slice.specs.declared.fault.SliceFault.TheVariants as slice_faults
use Rattle.ffv1_slice.specs.Header as headers
use Rattle.ffv1_slice.specs.Cells.{areas_of}
use Rattle.ffv1_slice.specs.Room.{Room}
use Rattle.ffv1_slice.specs.Area.{chroma_areas}
use Rattle.ffv1_slice.specs.Slice as slices
use Rattle.ffv1_golomb.specs.Slice as rice
use Rattle.tl_model.specs.declared.fault.FrameFault.{FrameFault}
use Rattle.tl_model.specs.declared.fault.FrameFault.TheVariants.{Empty, Chain, Parity, NotKey, Header as BadHeader, TableIndex, Cover, Symbol, Overrun}
use Rattle.ffv1_frame.specs.declared.fault.DecodeFault.{DecodeFault}
use Rattle.ffv1_frame.specs.declared.fault.DecodeFault.TheVariants.{Frame, NoMemory}
use Rattle.ffv1_frame.specs.Packet.{Slice, EndsWith, HasParity, no_slice}
use Rattle.ffv1_frame.specs.Cover.{AreCovered, IsUncovered}

abbrev pub grid_of : Parameters → Grid
grid_of p = record { columns = p.columns; rows = p.rows; table_sets = length p.sets }

-- ---- the slices of a packet
-- With error correction each slice has its parity.
abbrev pub HaveParities : Bool → List Slice → Type 0
HaveParities false slices = ⊤
HaveParities true slices = All HasParity slices

-- keyframe: the first bit of the first slice, with a fresh state of its own. RFC 9043 section 4.4.
abbrev pub keyframe : List ℕ → List Slice → Bool
keyframe table slices = bit_of (opened table (slice_index_or slices 0 no_slice).content) 128

-- The packet has bytes, and they are these slices, with their parities.
pub record AreSlices (p : Parameters) (packet : List ℕ) (slices : List Slice) : Type 0 where
  pub some : packet ≢ []
  pub chain : EndsWith p.ec packet (reverse slices)
  pub parities : HaveParities p.ec slices

-- The frame is a key frame.
pub record IsKeyFrame (p : Parameters) (packet : List ℕ) (slices : List Slice) : Type 0 where
  pub sliced : AreSlices p packet slices
  pub key : keyframe p.transition slices ≡ true

-- ---- the headers
-- a reader at the header of a slice, which in the first slice stands behind the bit of the key frame
abbrev pub reader_at : List ℕ → Bool → List ℕ → Reading
reader_at table true content = after_bit (opened table content) 128
reader_at table false content = opened table content

-- What the header of a slice gives, counted from 0.
abbrev pub HeaderGives : Parameters → ℕ → Slice → Reading → Result Header HeaderFault → Type 0
HeaderGives p i slice reading result = headers.Gives (grid_of p) (source (reader_at p.transition (i == 0) slice.content)
    (replicate 32 128)) reading result

abbrev pub no_header : Header
no_header = record { x = 0; y = 0; columns = 0; rows = 0; luma_set = 0; chroma_set = 0 }

-- These are the headers of the first slices.
pub record AreHeaders (p : Parameters) (slices : List Slice) (found : List Header) : Type 0 where
  pub few : length found < length slices + 1
  pub each : (i : ℕ) → i < length found
      → (reading : Reading) × HeaderGives p i (slice_index_or slices i no_slice) reading (Ok (slice_index_or found i no_header))

-- All slices have headers.
pub record HaveHeaders (p : Parameters) (packet : List ℕ) (slices : List Slice) (found : List Header) : Type 0 where
  pub frame : IsKeyFrame p packet slices
  pub headers : AreHeaders p slices found
  pub all : length found ≡ length slices

-- The first slice whose header has a fault.
pub record IsBadHeader (p : Parameters) (packet : List ℕ) (i : ℕ) (fault : HeaderFault) : Type 0 where
  pub slices : List Slice
  pub found : List Header
  pub reading : Reading
  pub frame : IsKeyFrame p packet slices
  pub headers : AreHeaders p slices found
  pub at : i ≡ length found
  pub within : i < length slices
  pub fault_is : HeaderGives p i (slice_index_or slices i no_slice) reading (Err fault)

abbrev pub header_fault_of : HeaderFault → ℕ → FrameFault
header_fault_of header_faults.Header i = BadHeader i
header_fault_of header_faults.TableIndex i = TableIndex i

abbrev pub slice_fault_of : SliceFault → ℕ → FrameFault
slice_fault_of slice_faults.Symbol i = Symbol i
slice_fault_of slice_faults.Overrun i = Overrun i

-- ---- the samples
-- the tables of a slice's header, and the areas of its cells
abbrev pub slice_by : Parameters → Header → Areas → slices.Slice
slice_by p h areas = record {
  luma = slices.part (tables_of p h.luma_set) (context_count_of p h.luma_set) (areas.luma ∷ []);
  chroma = slices.part (tables_of p h.chroma_set) (context_count_of p h.chroma_set) (chroma_areas areas.chroma);
}

-- What the samples of a content give behind a header, by the coder type: 0 is Golomb-Rice mode, and the others are the range coder.
-- RFC 9043 section 4.2.3.
abbrev pub SamplesGive : ℕ → slices.Slice → List ℕ → slices.Standing → Image → Result (⊤) SliceFault → Type 0
SamplesGive zero s content at image result = rice.Gives s (rice.sample_bytes content at.reading) at.image image result
SamplesGive (suc coder) s content at image result = slices.Gives s (length content) at image result

-- What the samples of a slice give, in the picture of the slices before it.
abbrev pub SliceGives : Parameters → Layout → ℕ → Slice → Image → Image → Result (⊤) SliceFault → Type 0
SliceGives p shape i slice before image result =
    (h : Header) × (reading : Reading) × HeaderGives p i slice reading (Ok h)
    × SamplesGive p.coder_type (slice_by p h (areas_of (grid_of p) shape h)) slice.content (slices.standing reading before) image result

-- The first slices decode to this picture, in turn: a later slice's samples stand, and a sample that no slice has is 0.
abbrev pub DecodesTo : Parameters → Layout → List Slice → ℕ → Image → Type 0
DecodesTo p shape slices zero image = image ≡ filled shape 0 0
DecodesTo p shape slices (suc n) image =
    (before : Image) × DecodesTo p shape slices n before × SliceGives p shape n (slice_index_or slices n no_slice) before image (Ok tt)

-- All cells are covered, each by one slice.
pub record IsWhole (p : Parameters) (packet : List ℕ) (slices : List Slice) : Type 0 where
  pub found : List Header
  pub headers : HaveHeaders p packet slices found
  pub cover : AreCovered p.columns found (p.columns * p.rows)

-- The first slice whose samples have a fault.
pub record IsBadSlice (p : Parameters) (shape : Layout) (packet : List ℕ) (i : ℕ) (fault : SliceFault) : Type 0 where
  pub slices : List Slice
  pub before : Image
  pub image : Image
  pub whole : IsWhole p packet slices
  pub within : i < length slices
  pub decodes : DecodesTo p shape slices i before
  pub fault_is : SliceGives p shape i (slice_index_or slices i no_slice) before image (Err fault)

-- ---- the whole packet
abbrev pub Gives : Parameters → Layout → List ℕ → Result Image DecodeFault → Type 0
Gives p shape packet (Ok image) = (slices : List Slice) × IsWhole p packet slices × DecodesTo p shape slices (length slices) image
Gives p shape packet (Err (Frame Empty)) = packet ≡ []
Gives p shape packet (Err (Frame Chain)) = (packet ≢ []) × ((slices : List Slice) → EndsWith p.ec packet slices → ⊥)
Gives p shape packet (Err (Frame (Parity i))) =
    (slices : List Slice) × (packet ≢ []) × EndsWith p.ec packet (reverse slices) × (p.ec ≡ true) × (i < length slices)
    × All HasParity (take i slices) × (HasParity (slice_index_or slices i no_slice) → ⊥)
Gives p shape packet (Err (Frame NotKey)) = (slices : List Slice) × AreSlices p packet slices × (keyframe p.transition slices ≡ false)
Gives p shape packet (Err (Frame (BadHeader i))) = IsBadHeader p packet i header_faults.Header
Gives p shape packet (Err (Frame (TableIndex i))) = IsBadHeader p packet i header_faults.TableIndex
Gives p shape packet (Err (Frame (Cover cell))) =
    (slices : List Slice) × (found : List Header) × HaveHeaders p packet slices found × IsUncovered p.columns p.rows found cell
Gives p shape packet (Err (Frame (Symbol i))) = IsBadSlice p shape packet i slice_faults.Symbol
Gives p shape packet (Err (Frame (Overrun i))) = IsBadSlice p shape packet i slice_faults.Overrun
Gives p shape packet (Err NoMemory) = ⊤

-- ---- slice by slice
-- There is room for the contexts of each set of tables, and for the lines of the shape.
pub record HasRoom (p : Parameters) (shape : Layout) (room : Room) : Type 0 where
  pub width : shape.width ≤ room.width
  pub contexts : (set : ℕ) → set < length p.sets → context_count_of p set ≤ room.contexts

-- What one slice more gives, in the picture of those before it: its samples, or the fault of the packet.
abbrev pub StepGives : Parameters → Layout → List ℕ → List Slice → ℕ → Image → Image → Result (⊤) DecodeFault → Type 0
StepGives p shape packet slices i before image (Ok _) = SliceGives p shape i (slice_index_or slices i no_slice) before image (Ok tt)
StepGives p shape packet slices i before image (Err fault) =
    IsWhole p packet slices → DecodesTo p shape slices i before → Gives p shape packet (Err fault)
