-- A library for tests: two clips of twenty frames that fit, one that doesn't, and one of two frames whose packets can be copied.
-- A picture is a number: that of its frame, the weight of a dissolve, or 255 for black. Frame 9 of a clip can't be rendered, and the
-- picture 1 is too long to be coded. Packets that can be copied have a byte 7 more than coded ones.
use Rattle.std.specs.Prelude.{ℕ, ◌==◌, if◌then◌else◌, true, not, List, [], ◌∷◌, Option, Some, None, Result, Ok, Err}
use Rattle.tl_model.specs.Media.{Library}
use Rattle.tl_model.specs.declared.fault.FrameFault.{FrameFault}
use Rattle.tl_model.specs.declared.fault.FrameFault.TheVariants as fault
use Rattle.tl_model.specs.declared.fault.RenderFault.{RenderFault}
use Rattle.tl_model.specs.declared.recipe.Side.{Side}
use Rattle.tl_model.specs.declared.recipe.Side.TheVariants as side
use Rattle.tl_model.specs.declared.recipe.Recipe.{Recipe}
use Rattle.tl_model.specs.declared.recipe.Recipe.TheVariants as recipe

abbrev pub picture : (clip frame : ℕ) → Result ℕ RenderFault
picture clip frame = if frame == 9 then Err (record { clip = clip; frame = frame; kind = fault.Empty }) else Ok frame

abbrev pub shown : Side → Result ℕ RenderFault
shown side.Black = Ok 255
shown (side.Clip clip frame) = picture clip frame

-- The picture of a dissolve is its weight.
abbrev pub mixed : (from to : Result ℕ RenderFault) → ℕ → Result ℕ RenderFault
mixed (Err why) to weight = Err why
mixed (Ok from) (Err why) weight = Err why
mixed (Ok from) (Ok to) weight = Ok weight

abbrev pub number_of : Recipe → Result ℕ RenderFault
number_of recipe.Black = shown side.Black
number_of (recipe.Source clip frame) = picture clip frame
number_of (recipe.Mix from to weight) = mixed (shown from) (shown to) weight

abbrev pub frames_of : (clip : ℕ) → ℕ
frames_of clip = if clip == 3 then 2 else 20

abbrev pub packet_of : (frame : ℕ) → List ℕ
packet_of frame = if frame == 0 then 0 ∷ 7 ∷ [] else (if frame == 1 then 1 ∷ 7 ∷ [] else [])

abbrev pub coded : (number : ℕ) → Option (List ℕ)
coded number = if number == 1 then None else Some (number ∷ [])

abbrev pub unpacked : List ℕ → Result ℕ FrameFault
unpacked [] = Err fault.Empty
unpacked (number ∷ rest) = Ok number

abbrev pub numbers : Library ℕ
numbers = record {
  clips = 4;
  frames = frames_of;
  fits = λ clip. not (clip == 2);
  copies = λ clip. clip == 3;
  packet = λ clip frame. packet_of frame;
  record_bytes = 1 ∷ [];
  width = 1;
  height = 1;
  has_shape = λ number. true;
  render = number_of;
  coded = coded;
  unpacked = unpacked;
}
