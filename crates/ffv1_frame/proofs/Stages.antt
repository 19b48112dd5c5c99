-- The stages of decoding a packet: at each it passes, or ends with a fault.
use Rattle.std.proofs.Common.{◌≡◌, ℕ, ◌*◌, ◌<◌, Bool, true, false, List, [], length, take, reverse, refl, inl, inr, Result, Ok, Err}
use Rattle.std.specs.Prelude.{◌≢◌, ◌⊎◌, slice_index_or, All}
use Rattle.pic_planes.specs.Shape.{Layout}
use Rattle.pic_planes.specs.Picture.{Image}
use Rattle.ffv1_range.specs.Reading.{Reading}
use Rattle.ffv1_record.specs.Parameters.{Parameters}
use Rattle.ffv1_slice.specs.declared.header.Header.{Header}
use Rattle.ffv1_slice.specs.declared.fault.HeaderFault.{HeaderFault}
use Rattle.ffv1_slice.specs.declared.fault.HeaderFault.TheVariants as header_faults
use Rattle.ffv1_slice.specs.declared.fault.SliceFault.{SliceFault}
use Rattle.ffv1_slice.specs.declared.fault.SliceFault.TheVariants as slice_faults
use Rattle.tl_model.specs.declared.fault.FrameFault.{FrameFault}
use Rattle.tl_model.specs.declared.fault.FrameFault.TheVariants.{Empty, Chain, Parity, NotKey, Header as BadHeader, TableIndex, Cover, Symbol, Overrun}
use Rattle.ffv1_frame.specs.Packet.{Slice, EndsWith, HasParity, no_slice}
use Rattle.ffv1_frame.specs.Cover.{AreCovered, IsUncovered}
use Rattle.ffv1_frame.specs.Frame.{Gives, HaveParities, keyframe, AreSlices, IsKeyFrame, HeaderGives, AreHeaders, HaveHeaders, IsBadHeader, IsBadSlice, header_fault_of, slice_fault_of, SliceGives, DecodesTo, IsWhole}
use Rattle.ffv1_frame.specs.Law.{told}

-- The parity of a slice is wrong, and those before it are right.
pub record IsWrong (ec : Bool) (all : List Slice) (i : ℕ) : Type 0 where
  pub ec_is : ec ≡ true
  pub within : i < length all
  pub before : All HasParity (take i all)
  pub wrong : HasParity (slice_index_or all i no_slice) → ⊥

-- The first slice whose header has a fault, behind the headers of those before it.
pub record IsFaulty (p : Parameters) (all : List Slice) (i : ℕ) (fault : HeaderFault) : Type 0 where
  pub found : List Header
  pub reading : Reading
  pub headers : AreHeaders p all found
  pub at : i ≡ length found
  pub within : i < length all
  pub fault_is : HeaderGives p i (slice_index_or all i no_slice) reading (Err fault)

-- The first slice whose samples have a fault, behind the samples of those before it.
pub record IsStuck (p : Parameters) (shape : Layout) (all : List Slice) (i : ℕ) (fault : SliceFault) : Type 0 where
  pub before : Image
  pub image : Image
  pub within : i < length all
  pub decodes : DecodesTo p shape all i before
  pub fault_is : SliceGives p shape i (slice_index_or all i no_slice) before image (Err fault)

-- the samples of slices that cover all cells
abbrev pub OfSamples : Parameters → Layout → List Slice → Result Image FrameFault → Type 0
OfSamples p shape all result =
    ((i : ℕ) × (fault : SliceFault) × IsStuck p shape all i fault × (result ≡ Err (slice_fault_of fault i)))
    ⊎ ((image : Image) × DecodesTo p shape all (length all) image × (result ≡ Ok image))

-- slices by their headers
abbrev pub OfCells : Parameters → Layout → List Slice → List Header → Result Image FrameFault → Type 0
OfCells p shape all found result =
    ((cell : ℕ) × IsUncovered p.columns p.rows found cell × (result ≡ Err (Cover cell)))
    ⊎ (AreCovered p.columns found (p.columns * p.rows) × OfSamples p shape all result)

-- the slices of a key frame
abbrev pub OfKeyFrame : Parameters → Layout → List Slice → Result Image FrameFault → Type 0
OfKeyFrame p shape all result =
    ((i : ℕ) × (fault : HeaderFault) × IsFaulty p all i fault × (result ≡ Err (header_fault_of fault i)))
    ⊎ ((found : List Header) × AreHeaders p all found × (length found ≡ length all) × OfCells p shape all found result)

-- slices that have their parities
abbrev pub OfParities : Parameters → Layout → List Slice → Result Image FrameFault → Type 0
OfParities p shape all result =
    ((keyframe p.transition all ≡ false) × (result ≡ Err NotKey)) ⊎ ((keyframe p.transition all ≡ true) × OfKeyFrame p shape all result)

-- slices of a packet
abbrev pub OfSlices : Parameters → Layout → List Slice → Result Image FrameFault → Type 0
OfSlices p shape all result =
    ((i : ℕ) × IsWrong p.ec all i × (result ≡ Err (Parity i))) ⊎ (HaveParities p.ec all × OfParities p shape all result)

-- a packet that has bytes
abbrev pub OfBytes : Parameters → Layout → List ℕ → Result Image FrameFault → Type 0
OfBytes p shape packet result =
    (((all : List Slice) → EndsWith p.ec packet all → ⊥) × (result ≡ Err Chain))
    ⊎ ((all : List Slice) × EndsWith p.ec packet (reverse all) × OfSlices p shape all result)

abbrev pub OfPacket : Parameters → Layout → List ℕ → Result Image FrameFault → Type 0
OfPacket p shape packet result = ((packet ≡ []) × (result ≡ Err Empty)) ⊎ ((packet ≢ []) × OfBytes p shape packet result)

of_slices : (p : Parameters) (shape : Layout) (packet : List ℕ) (all : List Slice) (result : Result Image FrameFault)
    → AreSlices p packet all → OfParities p shape all result → OfPacket p shape packet result
of_slices p shape packet all result are rest = inr (are.some, inr (all, are.chain, inr (are.parities, rest)))

of_key_frame : (p : Parameters) (shape : Layout) (packet : List ℕ) (all : List Slice) (result : Result Image FrameFault)
    → IsKeyFrame p packet all → OfKeyFrame p shape all result → OfPacket p shape packet result
of_key_frame p shape packet all result is rest = of_slices p shape packet all result is.sliced (inr (is.key, rest))

of_headers : (p : Parameters) (shape : Layout) (packet : List ℕ) (all : List Slice) (found : List Header) (result : Result Image FrameFault)
    → HaveHeaders p packet all found → OfCells p shape all found result → OfPacket p shape packet result
of_headers p shape packet all found result have rest = of_key_frame p shape packet all result have.frame (inr (found, have.headers, have.all, rest))

of_whole : (p : Parameters) (shape : Layout) (packet : List ℕ) (all : List Slice) (result : Result Image FrameFault)
    → IsWhole p packet all → OfSamples p shape all result → OfPacket p shape packet result
of_whole p shape packet all result is rest = of_headers p shape packet all is.found result is.headers (inr (is.cover, rest))

of_bad_header : (p : Parameters) (shape : Layout) (packet : List ℕ) (i : ℕ) (fault : HeaderFault) → IsBadHeader p packet i fault → OfPacket p shape packet (Err (header_fault_of fault i))
of_bad_header p shape packet i fault is =
    of_key_frame p shape packet is.slices (Err (header_fault_of fault i)) is.frame
    (inl (i, fault, record { found = is.found; reading = is.reading; headers = is.headers; at = is.at; within = is.within; fault_is = is.fault_is }, refl))

of_bad_slice : (p : Parameters) (shape : Layout) (packet : List ℕ) (i : ℕ) (fault : SliceFault) → IsBadSlice p shape packet i fault → OfPacket p shape packet (Err (slice_fault_of fault i))
of_bad_slice p shape packet i fault is =
    of_whole p shape packet is.slices (Err (slice_fault_of fault i)) is.whole
    (inl (i, fault, record { before = is.before; image = is.image; within = is.within; decodes = is.decodes; fault_is = is.fault_is }, refl))

-- Each answer ends one of the stages.
pub stages : (p : Parameters) (shape : Layout) (packet : List ℕ) (result : Result Image FrameFault) → Gives p shape packet (told result) → OfPacket p shape packet result
stages p shape packet (Ok image) (all, whole, decodes) = of_whole p shape packet all (Ok image) whole (inr (image, decodes, refl))
stages p shape packet (Err Empty) is = inl (is, refl)
stages p shape packet (Err Chain) (some, alone) = inr (some, inl (alone, refl))
stages p shape packet (Err (Parity i)) (all, some, chain, ec, within, before, wrong) =
    inr (some, inr (all, chain, inl (i, record { ec_is = ec; within = within; before = before; wrong = wrong }, refl)))
stages p shape packet (Err NotKey) (all, sliced, inter) = of_slices p shape packet all (Err NotKey) sliced (inl (inter, refl))
stages p shape packet (Err (BadHeader i)) is = of_bad_header p shape packet i header_faults.Header is
stages p shape packet (Err (TableIndex i)) is = of_bad_header p shape packet i header_faults.TableIndex is
stages p shape packet (Err (Cover cell)) (all, found, have, is) = of_headers p shape packet all found (Err (Cover cell)) have (inl (cell, is, refl))
stages p shape packet (Err (Symbol i)) is = of_bad_slice p shape packet i slice_faults.Symbol is
stages p shape packet (Err (Overrun i)) is = of_bad_slice p shape packet i slice_faults.Overrun is
