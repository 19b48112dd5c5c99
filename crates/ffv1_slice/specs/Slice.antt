-- The samples of a slice, read into a picture. RFC 9043 sections 4.7 and 4.8.
use Rattle.std.specs.Prelude.{◌≡◌, ◌⊎◌, ⊤, ℕ, ◌+◌, ◌≤◌, ◌<◌, Result, Ok, Err, List, [], ◌∷◌, length, replicate, slice_index_or, ℤ}
use Rattle.pic_planes.specs.Picture.{Image, IsPlane, IsRow}
use Rattle.ffv1_range.specs.Reading.{Reading}
use Rattle.ffv1_predict.specs.Border.{rows_of_plane}
use Rattle.ffv1_slice.specs.declared.area.Area.{Area}
use Rattle.ffv1_slice.specs.declared.area.Areas.{Areas}
use Rattle.ffv1_slice.specs.declared.range_slice.Quantization.{Quantization}
use Rattle.ffv1_slice.specs.Room.{Room}
use Rattle.pic_planes.specs.Shape.{Layout}
use Rattle.ffv1_slice.specs.declared.fault.SliceFault.{SliceFault}
use Rattle.ffv1_slice.specs.declared.fault.SliceFault.TheVariants.{Symbol, Overrun}
use Rattle.ffv1_slice.specs.Order.{InRows}
use Rattle.ffv1_slice.specs.Reading.{Coding, coding, ReadsSample, TooLongInRows, ContextsFit}
use Rattle.ffv1_slice.specs.Area.{with_rows, AreWithin, chroma_areas}

-- the reader with the states of its contexts, and the picture
pub record Decoding : Type 0 where
  pub coding : Coding
  pub image : Image

abbrev pub decoding : Coding → Image → Decoding
decoding coding image = record { coding = coding; image = image }

-- the reader and the picture alone
pub record Standing : Type 0 where
  pub reading : Reading
  pub image : Image

abbrev pub standing : Reading → Image → Standing
standing reading image = record { reading = reading; image = image }

-- The samples of an area are read: its finished plane is what the differences give at the contexts of that plane.
pub record ReadsArea (tables : List (List ℤ)) (area : Area) (old new : Decoding) : Type 0 where
  pub plane : List (List ℕ)
  pub sizes : IsPlane area.width area.height plane
  pub read : InRows (ReadsSample tables) (rows_of_plane area.width plane) old.coding new.coding
  pub put : new.image ≡ with_rows old.image area plane

-- the first rows of a plane
pub record IsFront (width height : ℕ) (rows : List (List ℕ)) : Type 0 where
  pub few : length rows ≤ height
  pub each : (y : ℕ) → y < length rows → IsRow width (slice_index_or rows y [])

-- A symbol in an area is too long, at the contexts of the samples before it.
pub record TooLongInArea (tables : List (List ℤ)) (area : Area) (old : Decoding) : Type 0 where
  pub plane : List (List ℕ)
  pub sizes : IsFront area.width area.height plane
  pub too_long : TooLongInRows tables (rows_of_plane area.width plane) old.coding

-- Areas in turn: each goes on with the states that the one before left.
abbrev pub ReadsAreas : List (List ℤ) → List Area → Decoding → Decoding → Type 0
ReadsAreas tables [] old new = old ≡ new
ReadsAreas tables (area ∷ more) old new = (mid : Decoding) × ReadsArea tables area old mid × ReadsAreas tables more mid new

abbrev pub TooLongInAreas : List (List ℤ) → List Area → Decoding → Type 0
TooLongInAreas tables [] old = ⊥
TooLongInAreas tables (area ∷ more) old =
    TooLongInArea tables area old ⊎ ((mid : Decoding) × ReadsArea tables area old mid × TooLongInAreas tables more mid)

-- Samples that share the states of their contexts: Y, and again Cb and Cr. They have the five quantization tables, how many
-- contexts these give, and the areas of their planes.
pub record Part : Type 0 where
  pub tables : List (List ℤ)
  pub context_count : ℕ
  pub areas : List Area

abbrev pub part : List (List ℤ) → ℕ → List Area → Part
part tables context_count areas = record { tables = tables; context_count = context_count; areas = areas }

-- areas by their tables
abbrev pub part_of : Quantization → List Area → Part
part_of q areas = part q.tables.now q.context_count areas

-- sets of states that were never used
abbrev pub fresh_contexts : ℕ → List (List ℕ)
fresh_contexts count = replicate count (replicate 32 128)

-- the start of a part: the states of its contexts are fresh
abbrev pub begun : Part → Standing → Decoding
begun p at = decoding (coding at.reading (fresh_contexts p.context_count)) at.image

-- The samples of a part are read. The states that its contexts then have serve no more.
abbrev pub ReadsPart : Part → Standing → Standing → Type 0
ReadsPart p old new =
    (contexts : List (List ℕ)) × ReadsAreas p.tables p.areas (begun p old) (decoding (coding new.reading contexts) new.image)

abbrev pub TooLongInPart : Part → Standing → Type 0
TooLongInPart p old = TooLongInAreas p.tables p.areas (begun p old)

-- A slice has two parts: Y, and Cb and Cr, which a grey picture lacks.
pub record Slice : Type 0 where
  pub luma : Part
  pub chroma : Part

-- by the tables of the parts and the areas of the slice
abbrev pub slice_of : Quantization → Quantization → Areas → Slice
slice_of luma chroma areas = record {
  luma = part_of luma (areas.luma ∷ []);
  chroma = part_of chroma (chroma_areas areas.chroma);
}

-- There is a set of states for each context of the tables, and room for so many.
pub record IsReady (q : Quantization) (room : Room) : Type 0 where
  pub few : q.context_count ≤ room.contexts
  pub fits : ContextsFit q.tables.now q.context_count

-- The areas lie within the planes, and there is room for their lines.
pub record CanHold (shape : Layout) (room : Room) (areas : Areas) : Type 0 where
  pub luma : AreWithin shape room.width (areas.luma ∷ [])
  pub chroma : AreWithin shape room.width (chroma_areas areas.chroma)

abbrev pub ReadsSlice : Slice → Standing → Standing → Type 0
ReadsSlice s old new = (mid : Standing) × ReadsPart s.luma old mid × ReadsPart s.chroma mid new

abbrev pub TooLongInSlice : Slice → Standing → Type 0
TooLongInSlice s old = TooLongInPart s.luma old ⊎ ((mid : Standing) × ReadsPart s.luma old mid × TooLongInPart s.chroma mid)

-- What the samples of a slice give, from a content of so many bytes: the picture, or the first fault. The coder may take two
-- bytes more than the content has. RFC 9043 section 3.8.1.1.1.
abbrev pub Gives : Slice → ℕ → Standing → Image → Result (⊤) SliceFault → Type 0
Gives s content old image (Ok _) = (new : Standing) × ReadsSlice s old new × (new.image ≡ image) × (new.reading.taken ≤ content + 2)
Gives s content old image (Err Symbol) = TooLongInSlice s old
Gives s content old image (Err Overrun) = (new : Standing) × ReadsSlice s old new × (content + 2 < new.reading.taken)
