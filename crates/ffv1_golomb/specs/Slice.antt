-- The samples of a slice, read in Golomb-Rice mode into a picture. RFC 9043 sections 3.8.2, 4.7 and 4.8.
use Rattle.std.specs.Prelude.{◌≡◌, ⊤, ℕ, ◌-◌, ◌*◌, ◌≤◌, ◌<◌, Result, Ok, Err, List, [], ◌∷◌, length, drop, replicate, ℤ}
use Rattle.pic_planes.specs.Picture.{Image, IsPlane}
use Rattle.ffv1_range.specs.Reading as range
use Rattle.ffv1_rice.specs.Bits.{Reading, opened}
use Rattle.ffv1_rice.specs.State.{State, fresh}
use Rattle.ffv1_rice.specs.Runs.{Run, source, coding, first_run}
use Rattle.ffv1_predict.specs.Border.{rows_of_plane}
use Rattle.ffv1_slice.specs.declared.area.Area.{Area}
use Rattle.ffv1_slice.specs.declared.fault.SliceFault.{SliceFault}
use Rattle.ffv1_slice.specs.declared.fault.SliceFault.TheVariants.{Symbol, Overrun}
use Rattle.ffv1_slice.specs.Area.{with_rows}
use Rattle.ffv1_slice.specs.Slice.{Part, Slice, IsFront}
use Rattle.ffv1_golomb.specs.Turn.{InTurn, FailsInTurn}
use Rattle.ffv1_golomb.specs.Reading.{ReadsRow, OutOfRangeInRow}

-- the states of the contexts, the bits that are left, and the picture
pub record Decoding : Type 0 where
  pub states : List State
  pub reading : Reading
  pub image : Image

abbrev pub decoding : List State → Reading → Image → Decoding
decoding states reading image = record { states = states; reading = reading; image = image }

-- The samples of an area are read: its finished plane is what the differences give at the contexts of that plane. Its runs begin
-- anew.
pub record ReadsArea (tables : List (List ℤ)) (area : Area) (old new : Decoding) : Type 0 where
  pub plane : List (List ℕ)
  pub sizes : IsPlane area.width area.height plane
  pub run : Run
  pub read : InTurn (ReadsRow tables) (rows_of_plane area.width plane)
      (coding (source first_run old.reading) old.states) (coding (source run new.reading) new.states)
  pub put : new.image ≡ with_rows old.image area plane

-- A residual in an area is out of range, at the contexts of the samples before it.
pub record OutOfRangeInArea (tables : List (List ℤ)) (area : Area) (old : Decoding) : Type 0 where
  pub plane : List (List ℕ)
  pub sizes : IsFront area.width area.height plane
  pub out_of_range : FailsInTurn (ReadsRow tables) (OutOfRangeInRow tables) (rows_of_plane area.width plane)
      (coding (source first_run old.reading) old.states)

-- the bits and the picture alone
pub record Standing : Type 0 where
  pub reading : Reading
  pub image : Image

abbrev pub standing : Reading → Image → Standing
standing reading image = record { reading = reading; image = image }

-- the start of a part: the states of its contexts are fresh
abbrev pub begun : Part → Standing → Decoding
begun p at = decoding (replicate p.context_count fresh) at.reading at.image

-- The samples of a part are read: of two planes the second goes on with the states of the first.
abbrev pub ReadsPart : Part → Standing → Standing → Type 0
ReadsPart p old new = (states : List State) × InTurn (ReadsArea p.tables) p.areas (begun p old) (decoding states new.reading new.image)

abbrev pub OutOfRangeInPart : Part → Standing → Type 0
OutOfRangeInPart p old = FailsInTurn (ReadsArea p.tables) (OutOfRangeInArea p.tables) p.areas (begun p old)

-- Y, and then Cb and Cr
abbrev pub parts : Slice → List Part
parts s = s.luma ∷ s.chroma ∷ []

abbrev pub ReadsSlice : Slice → Standing → Standing → Type 0
ReadsSlice s old new = InTurn ReadsPart (parts s) old new

abbrev pub OutOfRangeInSlice : Slice → Standing → Type 0
OutOfRangeInSlice s old = FailsInTurn ReadsPart OutOfRangeInPart (parts s) old

-- The bytes of a content in which the samples stand, by the range coder behind the header: one more bit is read, with state 129, and
-- the last of the bytes that were then taken is their first. RFC 9043 section 3.8.1.1.1.
abbrev pub sample_bytes : List ℕ → range.Reading → List ℕ
sample_bytes content header = drop ((range.after_bit header 129).taken - 1) content

-- What these bytes give: the picture, or the first fault.
abbrev pub Gives : Slice → List ℕ → Image → Image → Result (⊤) SliceFault → Type 0
Gives s bytes old image (Ok _) =
    (new : Standing) × ReadsSlice s (standing (opened bytes) old) new × (new.image ≡ image) × (new.reading.taken ≤ 8 * length bytes)
Gives s bytes old image (Err Symbol) = OutOfRangeInSlice s (standing (opened bytes) old)
Gives s bytes old image (Err Overrun) =
    (new : Standing) × ReadsSlice s (standing (opened bytes) old) new × (8 * length bytes < new.reading.taken)
