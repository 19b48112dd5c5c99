-- A slice that was written is read back.
use Rattle.std.specs.Prelude.{◌≡◌, ℕ, ◌+◌, ◌<◌, List, [], ◌∷◌, ◌++◌, length, slice_index, Ok}
use Rattle.std.specs.List.{All}
use Rattle.pic_planes.specs.Picture.{Image, IsPicture}
use Rattle.ffv1_range.specs.Reading as range
use Rattle.ffv1_rice.specs.Bits.{bits_of_bytes, padded}
use Rattle.ffv1_slice.specs.declared.area.Area.{Area}
use Rattle.ffv1_slice.specs.Area.{IsWithin, with_rows}
use Rattle.ffv1_slice.specs.Slice.{Slice}
use Rattle.ffv1_slice.specs.Writing.{samples}
use Rattle.ffv1_golomb.specs.Slice.{Gives, sample_bytes}
use Rattle.ffv1_golomb.specs.Writing.{WritesSlice, packed}

-- a picture with the samples of another in some areas
abbrev pub copied : Image → List Area → Image → Image
copied image [] before = before
copied image (area ∷ more) before = copied image more (with_rows before area (samples image area))

-- The areas of a slice lie within a picture's planes.
pub record AreInside (image : Image) (s : Slice) : Type 0 where
  pub sound : IsPicture image
  pub luma : All (IsWithin image.shape) s.luma.areas
  pub chroma : All (IsWithin image.shape) s.chroma.areas

-- The bits that were written of a slice, with zeros that fill their last byte, are read as its samples.
abbrev pub ReadsSlices : Type 0
ReadsSlices = (s : Slice) (image before : Image) (bits bytes : List ℕ) → AreInside image s → WritesSlice s image [] bits
    → bits_of_bytes bytes ≡ padded bits → Gives s bytes before (copied image s.chroma.areas (copied image s.luma.areas before)) (Ok tt)

-- The bytes of a list of bits are these, where they spell it.
abbrev pub PacksBits : Type 0
PacksBits = (bytes bits : List ℕ) → ((k : ℕ) → slice_index bytes k < 256) → bits_of_bytes bytes ≡ padded bits → bytes ≡ packed bits

-- So are the bytes of the definition.
abbrev pub ReadsPacked : Type 0
ReadsPacked = (s : Slice) (image before : Image) (bits : List ℕ) → AreInside image s → WritesSlice s image [] bits
    → Gives s (packed bits) before (copied image s.chroma.areas (copied image s.luma.areas before)) (Ok tt)

-- Where the range coder takes one byte more than its part has, the bytes behind that part are those of the samples.
abbrev pub FindsBits : Type 0
FindsBits = (part more : List ℕ) (header : range.Reading) → (range.after_bit header 129).taken ≡ length part + 1
    → sample_bytes (part ++ more) header ≡ more
