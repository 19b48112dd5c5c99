-- A library of clips as contracts see it, and what holds of every library.
use Rattle.std.specs.Prelude.{◌≡◌, ℕ, ◌<◌, ◌≤◌, Bool, IsTrue, List, length, Option, Some, None, Result, Ok, Err, IsOk}
use Rattle.std.specs.Arc.{arc_value}
use Rattle.std.specs.Global.{Vec}
use Rattle.tl_limits.specs.Limits.{max_packet_bytes}
use Rattle.tl_model.specs.declared.fault.FrameFault.{FrameFault}
use Rattle.tl_model.specs.declared.fault.RenderFault.{RenderFault}
use Rattle.tl_model.specs.declared.recipe.Side.{Side}
use Rattle.tl_model.specs.declared.recipe.Side.TheVariants as side
use Rattle.tl_model.specs.declared.recipe.Recipe.{Recipe}
use Rattle.tl_model.specs.declared.recipe.Recipe.TheVariants as recipe
use Rattle.tl_model.specs.declared.media.Picked.{Picked}
use Rattle.tl_model.specs.declared.media.Picked.TheVariants as picked
use Rattle.tl_model.specs.declared.media.EncodeFault.{EncodeFault}
use Rattle.tl_model.specs.declared.media.EncodeFault.TheVariants as encoding

-- Clips and their frames are counted from 0. F is the type of a picture.
pub record Library (F : Type 0) : Type 0 where
  pub clips : ℕ
  pub frames : ℕ → ℕ
  -- the clip's shape is the session's; its record bytes are the output's
  pub fits : ℕ → Bool
  pub copies : ℕ → Bool
  pub packet : ℕ → ℕ → List ℕ
  -- the output's record bytes, and its size
  pub record_bytes : List ℕ
  pub width : ℕ
  pub height : ℕ
  -- the picture is of the session's shape
  pub has_shape : F → Bool
  -- the picture of a recipe, made from scratch, or the fault of one of its sides
  pub render : Recipe → Result F RenderFault
  -- the packet of a picture, or none where it is too long
  pub coded : F → Option (List ℕ)
  -- what a packet gives under the output's record and shape
  pub unpacked : List ℕ → Result F FrameFault

-- Black, or a frame of a clip that fits.
abbrev pub IsShown : {F : Type 0} → Library F → Side → Type 0
IsShown lib side.Black = Unit {0}
IsShown lib (side.Clip clip frame) = (clip < lib.clips) × IsTrue (lib.fits clip) × (frame < lib.frames clip)

abbrev pub CanRender : {F : Type 0} → Library F → Recipe → Type 0
CanRender lib recipe.Black = Unit {0}
CanRender lib (recipe.Source clip frame) = IsShown lib (side.Clip clip frame)
CanRender lib (recipe.Mix from to weight) = IsShown lib from × IsShown lib to × (weight < 256)

-- A side by itself.
abbrev pub alone : Side → Recipe
alone side.Black = recipe.Black
alone (side.Clip clip frame) = recipe.Source clip frame

-- A dissolve has the outgoing side's fault, else the incoming side's, else none.
abbrev pub MixFaults : {F : Type 0} → Result F RenderFault → Result F RenderFault → Result F RenderFault → Type 0
MixFaults (Err fault) to mixed = mixed ≡ Err fault
MixFaults (Ok from) (Err fault) mixed = mixed ≡ Err fault
MixFaults (Ok from) (Ok to) mixed = IsOk mixed

-- A fault without its place.
abbrev pub kind_of : {F : Type 0} → Result F RenderFault → Result F FrameFault
kind_of (Ok frame) = Ok frame
kind_of (Err fault) = Err fault.kind

pub record IsLibrary {F : Type 0} (lib : Library F) : Type 0 where
  pub black : IsOk (lib.render recipe.Black)
  -- the fault of a frame names the frame
  pub placed : (clip frame : ℕ) (fault : RenderFault) → CanRender lib (recipe.Source clip frame)
      → lib.render (recipe.Source clip frame) ≡ Err fault → (fault.clip ≡ clip) × (fault.frame ≡ frame)
  pub shaped : (recipe : Recipe) (frame : F) → CanRender lib recipe → lib.render recipe ≡ Ok frame → IsTrue (lib.has_shape frame)
  pub mixed : (from to : Side) (weight : ℕ) → CanRender lib (recipe.Mix from to weight)
      → MixFaults (lib.render (alone from)) (lib.render (alone to)) (lib.render (recipe.Mix from to weight))
  pub read_back : (frame : F) (packet : List ℕ) → IsTrue (lib.has_shape frame) → lib.coded frame ≡ Some packet
      → lib.unpacked packet ≡ Ok frame
  pub copied : (clip frame : ℕ) → clip < lib.clips → frame < lib.frames clip → IsTrue (lib.fits clip) → IsTrue (lib.copies clip)
      → lib.unpacked (lib.packet clip frame) ≡ kind_of (lib.render (recipe.Source clip frame))

-- What a picked value stands for.
abbrev pub outcome_of : {F : Type 0} → Picked F → Result F RenderFault
outcome_of (picked.Frame frame) = Ok (arc_value frame)
outcome_of (picked.Fault fault) = Err fault

-- The packet is answered, or that it is too long, exactly where it is.
abbrev pub Encodes : Option (List ℕ) → Result (Vec ℕ) EncodeFault → Type 0
Encodes (Some packet) (Ok bytes) = (bytes.items ≡ packet) × (length packet ≤ max_packet_bytes)
Encodes None (Ok bytes) = ⊥
Encodes None (Err encoding.SliceTooLong) = Unit {0}
Encodes (Some packet) (Err encoding.SliceTooLong) = ⊥
Encodes packet (Err encoding.NoMemory) = Unit {0}

-- A rendered value: its recipe, and the library that it was rendered in.
pub record RenderedOf (M : Type 0) : Type 0 where
  pub recipe : Recipe
  pub library : M
