-- Which packet a recipe has, from what a library tells of it.
use Rattle.std.proofs.Common.{◌≡◌, ℕ, ◌≤◌, ◌^◌, Bool, true, false, List, length, Option, Some, None, Result, Ok, Err, refl, sym, ap, ◌∙◌, subst}
use Rattle.std.specs.Prelude.{if◌then◌else◌}
use Rattle.std.specs.Option.{option_or}
use Rattle.std.specs.Global.{Vec}
use Rattle.tl_model.specs.Media.{Library, IsLibrary, CanRender, Encodes, kind_of}
use Rattle.tl_model.specs.declared.fault.RenderFault.{RenderFault}
use Rattle.tl_model.specs.declared.recipe.Recipe.{Recipe}
use Rattle.tl_model.specs.declared.recipe.Recipe.TheVariants as recipe
use Rattle.tl_model.specs.declared.media.EncodeFault.TheVariants as encoding
use Rattle.smart_export.specs.Rendered.{own_packet, packet_of, IsPacket, IsTooLong}

-- A packet that is there only where a test is true.
chosen_where : (test : Bool) (own packet : List ℕ) → (if test then Some own else None) ≡ Some packet → (test ≡ true) × (own ≡ packet)
chosen_where true own packet e = (refl, cc)
chosen_where false own packet e = absurd cc

packet_of-own : {F : Type 0} (lib : Library F) (recipe : Recipe) (picture : F) (packet : List ℕ) → own_packet lib recipe ≡ Some packet → packet_of lib recipe picture ≡ Some packet
packet_of-own lib recipe picture packet own = ap (λ (o : Option (List ℕ)). option_or o (lib.coded picture)) own

packet_of-coded : {F : Type 0} (lib : Library F) (recipe : Recipe) (picture : F) → own_packet lib recipe ≡ None → packet_of lib recipe picture ≡ lib.coded picture
packet_of-coded lib recipe picture own = ap (λ (o : Option (List ℕ)). option_or o (lib.coded picture)) own

own-decodes : {F : Type 0} (lib : Library F) (laws : IsLibrary lib) (recipe : Recipe) (picture : F) (packet : List ℕ) → CanRender lib recipe → lib.render recipe ≡ Ok picture → own_packet lib recipe ≡ Some packet → lib.unpacked packet ≡ Ok picture
own-decodes lib laws recipe.Black picture packet can rendered own = absurd cc
own-decodes {F} lib laws (recipe.Source clip frame) picture packet can rendered own =
    let same = chosen_where (lib.copies clip) (lib.packet clip frame) packet own in
    ap lib.unpacked (sym same.1) ∙ laws.copied clip frame can.0 can.2 can.1 same.0 ∙ ap (λ (r : Result F RenderFault). kind_of r) rendered
own-decodes lib laws (recipe.Mix from to weight) picture packet can rendered own = absurd cc

-- A clip's own packet is that of its frame.
pub own_is : {F : Type 0} (lib : Library F) (laws : IsLibrary lib) (recipe : Recipe) (picture : F) (packet : List ℕ) → CanRender lib recipe → lib.render recipe ≡ Ok picture → own_packet lib recipe ≡ Some packet → IsPacket lib recipe packet
own_is lib laws recipe picture packet can rendered own = record {
  picture = picture;
  rendered = rendered;
  chosen = packet_of-own lib recipe picture packet own;
  decoded = own-decodes lib laws recipe picture packet can rendered own;
}

-- Where there is no own packet, that of the picture is.
pub coded_is : {F : Type 0} (lib : Library F) (laws : IsLibrary lib) (recipe : Recipe) (picture : F) (packet : List ℕ) → CanRender lib recipe → lib.render recipe ≡ Ok picture → own_packet lib recipe ≡ None → lib.coded picture ≡ Some packet → IsPacket lib recipe packet
coded_is lib laws recipe picture packet can rendered own coded = record {
  picture = picture;
  rendered = rendered;
  chosen = packet_of-coded lib recipe picture own ∙ coded;
  decoded = laws.read_back picture packet (laws.shaped recipe picture can rendered) coded;
}

pub long_is : {F : Type 0} (lib : Library F) (recipe : Recipe) (picture : F) → lib.render recipe ≡ Ok picture → own_packet lib recipe ≡ None → lib.coded picture ≡ None → IsTooLong lib recipe
long_is lib recipe picture rendered own coded = (picture, rendered, packet_of-coded lib recipe picture own ∙ coded)

-- What a coder answers is the packet, within its bound.
pub encoded : (coded : Option (List ℕ)) (bytes : Vec ℕ) → Encodes coded (Ok bytes) → (coded ≡ Some bytes.items) × (length bytes.items ≤ 2 ^ 40)
encoded (Some packet) bytes h = (ap Some (sym h.0), subst (λ (p : List ℕ). length p ≤ 2 ^ 40) (sym h.0) h.1)
encoded None bytes h = absurd h

pub encoded-long : (coded : Option (List ℕ)) → Encodes coded (Err encoding.SliceTooLong) → coded ≡ None
encoded-long (Some packet) h = absurd h
encoded-long None h = refl
