-- Which packet each frame of a timeline has.
use Rattle.std.specs.Prelude.{◌≡◌, ℕ, if◌then◌else◌, List, [], ◌∷◌, Option, Some, None, Ok}
use Rattle.std.specs.Option.{option_or}
use Rattle.tl_model.specs.Media.{Library}
use Rattle.tl_model.specs.declared.recipe.Recipe.{Recipe}
use Rattle.tl_model.specs.declared.recipe.Recipe.TheVariants as recipe

-- The clip's own packet, of a frame that is shown as it is and whose clip has the output's record bytes.
abbrev pub own_packet : {F : Type 0} → Library F → Recipe → Option (List ℕ)
own_packet lib recipe.Black = None
own_packet lib (recipe.Source clip frame) = if lib.copies clip then Some (lib.packet clip frame) else None
own_packet lib (recipe.Mix from to weight) = None

-- The packet of a recipe whose render is this picture: the clip's own, or else that of the picture, or none where it is too long.
abbrev pub packet_of : {F : Type 0} → Library F → Recipe → F → Option (List ℕ)
packet_of lib recipe picture = option_or (own_packet lib recipe) (lib.coded picture)

-- The recipe renders, this is its packet, and the packet decodes to that render.
pub record IsPacket {F : Type 0} (lib : Library F) (recipe : Recipe) (packet : List ℕ) : Type 0 where
  pub picture : F
  pub rendered : lib.render recipe ≡ Ok picture
  pub chosen : packet_of lib recipe picture ≡ Some packet
  pub decoded : lib.unpacked packet ≡ Ok picture

-- The recipe renders, and its packet is too long.
abbrev pub IsTooLong : {F : Type 0} → Library F → Recipe → Type 0
IsTooLong {F} lib recipe = (picture : F) × (lib.render recipe ≡ Ok picture) × (packet_of lib recipe picture ≡ None)

-- There is one packet for each recipe, in order, and it is that recipe's.
abbrev pub AreRendered : {F : Type 0} → Library F → List Recipe → List (List ℕ) → Type 0
AreRendered lib [] [] = Unit {0}
AreRendered lib [] (packet ∷ packets) = ⊥
AreRendered lib (recipe ∷ recipes) [] = ⊥
AreRendered lib (recipe ∷ recipes) (packet ∷ packets) = IsPacket lib recipe packet × AreRendered lib recipes packets

-- Each recipe has a packet.
abbrev pub HavePackets : {F : Type 0} → Library F → List Recipe → Type 0
HavePackets lib [] = Unit {0}
HavePackets lib (recipe ∷ recipes) = ((packet : List ℕ) × IsPacket lib recipe packet) × HavePackets lib recipes
