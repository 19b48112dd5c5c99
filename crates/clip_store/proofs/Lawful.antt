-- The library is one: what holds of every library holds of it.
use Rattle.std.proofs.Common.{◌≡◌, ℕ, List, Option, Some, None, Result, Ok, Err, refl, sym, ◌∙◌, ap, subst, inl, inr}
use Rattle.std.specs.Prelude.{IsTrue, bytes_eq}
use Rattle.std.proofs.lemmas.Bool.{cases_Bool}
use Rattle.std.proofs.lemmas.Slice.Eq.{bytes_eq-Decides}
use Rattle.std.proofs.lemmas.List.Elements.{All-get_or}
use Rattle.pic_planes.specs.Shape.{Layout, IsShape}
use Rattle.pic_planes.specs.Picture.{Image, filled, black}
use Rattle.ffv1_record.specs.Parameters.{Parameters}
use Rattle.ffv1_record.specs.Reading.{parameters}
use Rattle.ffv1_record.specs.Suits.{Suits}
use Rattle.ffv1_frame.specs.Frame.{Gives}
use Rattle.ffv1_frame.specs.Law.{told}
use Rattle.ffv1_frame.specs.Written.{Writes, IsReadBack}
use Rattle.ffv1_frame.proofs.DecodingExists.{decoding_exists}
use Rattle.ffv1_frame.proofs.OneDecoding.{one_decoding}
use Rattle.ffv1_frame.proofs.Writings.{writing_exists}
use Rattle.tl_model.specs.declared.fault.FrameFault.{FrameFault}
use Rattle.tl_model.specs.declared.fault.RenderFault.{RenderFault}
use Rattle.tl_model.specs.declared.recipe.Side.{Side}
use Rattle.tl_model.specs.declared.recipe.Side.TheVariants as side
use Rattle.tl_model.specs.declared.recipe.Recipe.{Recipe}
use Rattle.tl_model.specs.declared.recipe.Recipe.TheVariants as recipe
use Rattle.tl_model.specs.Media.{IsShown, CanRender, MixFaults, IsLibrary, alone, kind_of}
use Rattle.clip_store.specs.Blend.{blend}
use Rattle.clip_store.specs.Clip.{ClipOf, IsClip}
use Rattle.clip_store.specs.Loading.{AreClips}
use Rattle.clip_store.specs.Library.{OutputOf, IsOutput, LibraryOf, no_clip, clip_at, record_bytes_of, packet_of}
use Rattle.clip_store.specs.Pictures.{same_shape, is_picture}
use Rattle.clip_store.specs.Render.{decoded, written, coded, frame_of, at_frame, shown, mixed, render, library_of}
use Rattle.clip_store.proofs.PictureTests.{shape_same, same-shape, picture_is}
use Rattle.clip_store.proofs.DecodedShape.{decoded-shape}

-- ---- a frame
place_of : (clip frame : ℕ) (result : Result Image FrameFault) (fault : RenderFault) → at_frame clip frame result ≡ Err fault → (fault.clip ≡ clip) × (fault.frame ≡ frame)
place_of clip frame (Ok image) fault is = absurd cc
place_of clip frame (Err kind) fault is =
    let same : record { clip = clip; frame = frame; kind = kind } ≡ fault = cc in
    (sym (ap (λ (f : RenderFault). f.clip) same), sym (ap (λ (f : RenderFault). f.frame) same))

image_of : (clip frame : ℕ) (result : Result Image FrameFault) (image : Image) → at_frame clip frame result ≡ Ok image → result ≡ Ok image
image_of clip frame (Ok other) image is = cc
image_of clip frame (Err kind) image is = absurd cc

kind_of_frame : (clip frame : ℕ) (result : Result Image FrameFault) → kind_of (at_frame clip frame result) ≡ result
kind_of_frame clip frame (Ok image) = refl
kind_of_frame clip frame (Err kind) = refl

-- a decoded picture has its shape
shape_decoded : (p : Parameters) (shape : Layout) (packet : List ℕ) (image : Image) → decoded p shape packet ≡ Ok image → image.shape ≡ shape
shape_decoded p shape packet image is =
    decoded-shape p shape packet image (subst (λ (r : Result Image FrameFault). Gives p shape packet (told r)) is (decoding_exists p shape packet).1)

-- ---- sides
shape_black : (shape : Layout) → (black shape).shape ≡ shape
unfolding filled
shape_black shape = refl

pub shape_shown : (l : LibraryOf) (s : Side) (image : Image) → IsShown (library_of l) s → shown l s ≡ Ok image → image.shape ≡ l.output.shape
shape_shown l side.Black image can is =
    let same : black l.output.shape ≡ image = cc in
    sym (ap (λ (i : Image). i.shape) same) ∙ shape_black l.output.shape
shape_shown l (side.Clip clip frame) image (within, fits, below) is =
    let c : ClipOf = clip_at l.clips clip in
    shape_decoded c.parameters c.shape (packet_of c frame) image (image_of clip frame (frame_of c frame) image is) ∙ shape_same c.shape l.output.shape fits

alone_shown : (l : LibraryOf) (s : Side) → render l (alone s) ≡ shown l s
alone_shown l side.Black = refl
alone_shown l (side.Clip clip frame) = refl

-- ---- recipes
shape_mixed : (weight : ℕ) (from to : Result Image RenderFault) (image : Image) (shape : Layout) → ((first : Image) → from ≡ Ok first → first.shape ≡ shape) → mixed weight from to ≡ Ok image → image.shape ≡ shape
shape_mixed weight (Err fault) to image shape first is = absurd cc
shape_mixed weight (Ok from) (Err fault) image shape first is = absurd cc
shape_mixed weight (Ok from) (Ok to) image shape first is =
    let same : blend weight from to ≡ image = cc in
    sym (ap (λ (i : Image). i.shape) same) ∙ first from refl

shape_rendered : (l : LibraryOf) (r : Recipe) (image : Image) → CanRender (library_of l) r → render l r ≡ Ok image → image.shape ≡ l.output.shape
shape_rendered l recipe.Black image can is = shape_shown l side.Black image tt is
shape_rendered l (recipe.Source clip frame) image can is = shape_shown l (side.Clip clip frame) image can is
shape_rendered l (recipe.Mix from to weight) image (first, second, small) is =
    shape_mixed weight (shown l from) (shown l to) image l.output.shape (λ one at. shape_shown l from one first at) is

faults_first : (weight : ℕ) (from to : Result Image RenderFault) → MixFaults from to (mixed weight from to)
faults_first weight (Err fault) to = refl
faults_first weight (Ok from) (Err fault) = refl
faults_first weight (Ok from) (Ok to) = refl

mix_faults : (l : LibraryOf) (from to : Side) (weight : ℕ) → MixFaults (render l (alone from)) (render l (alone to)) (mixed weight (shown l from) (shown l to))
mix_faults l from to weight =
    subst (λ (r : Result Image RenderFault). MixFaults r (render l (alone to)) (mixed weight (shown l from) (shown l to))) (sym (alone_shown l from))
    (subst (λ (r : Result Image RenderFault). MixFaults (shown l from) r (mixed weight (shown l from) (shown l to))) (sym (alone_shown l to)) (faults_first weight (shown l from) (shown l to)))

-- ---- coding
coded_of : (output : OutputOf) (image : Image) (packet : List ℕ) → coded output image ≡ Some packet → IsTrue (is_picture image) × (written output.parameters image ≡ Some packet)
coded_of output image packet is =
    elim (cases_Bool (is_picture image)) [
      | inl whole ↦ (whole, rw whole at is)
      | inr broken ↦ let never : None ≡ Some packet = rw broken at is in absurd (cc never)
    ]

read_again : (output : OutputOf) (image : Image) (packet : List ℕ) → IsReadBack → IsOutput output → image.shape ≡ output.shape → coded output image ≡ Some packet → decoded output.parameters output.shape packet ≡ Ok image
read_again output image packet law sound at is =
    let p : Parameters = output.parameters in
    let parts = coded_of output image packet is in
    let shape : IsShape image.shape = subst IsShape (sym at) sound.shape in
    let suits : Suits p image.shape = subst (λ (s : Layout). Suits p s) (sym at) sound.suits in
    let writes : Writes p image (Some packet) = subst (λ (o : Option (List ℕ)). Writes p image o) parts.1 (writing_exists p image).1 in
    let gives : Gives p image.shape packet (Ok image) = law p image packet sound.sound (picture_is image shape parts.0) suits writes in
    one_decoding p output.shape packet (decoded p output.shape packet) (Ok image) (decoding_exists p output.shape packet).1 (subst (λ (s : Layout). Gives p s packet (Ok image)) at gives)

-- ---- copying
same_record : (clip : ClipOf) (output : OutputOf) → IsClip clip → IsOutput output → IsTrue (bytes_eq (record_bytes_of clip) output.bytes) → clip.parameters ≡ output.parameters
same_record clip output sound is same =
    let bytes : record_bytes_of clip ≡ output.bytes = (bytes_eq-Decides (record_bytes_of clip) output.bytes).0 same in
    let both : Ok clip.parameters ≡ Ok output.parameters = sym sound.read ∙ ap parameters bytes ∙ is.read in
    cc

copied : (l : LibraryOf) (clip frame : ℕ) → IsClip (clip_at l.clips clip) → IsOutput l.output → IsTrue (same_shape (clip_at l.clips clip).shape l.output.shape)
    → IsTrue (bytes_eq (record_bytes_of (clip_at l.clips clip)) l.output.bytes)
    → decoded l.output.parameters l.output.shape (packet_of (clip_at l.clips clip) frame) ≡ kind_of (render l (recipe.Source clip frame))
copied l clip frame sound is fits copies =
    let c : ClipOf = clip_at l.clips clip in
    let packet : List ℕ = packet_of c frame in
    ap (λ (p : Parameters). decoded p l.output.shape packet) (sym (same_record c l.output sound is copies))
    ∙ ap (λ (s : Layout). decoded c.parameters s packet) (sym (shape_same c.shape l.output.shape fits))
    ∙ sym (kind_of_frame clip frame (frame_of c frame))

-- ---- the library
pub lawful : (l : LibraryOf) → IsReadBack → AreClips l.clips → IsOutput l.output → IsLibrary (library_of l)
lawful l law are is = record {
  black = refl;
  placed = λ clip frame fault can at. place_of clip frame (frame_of (clip_at l.clips clip) frame) fault at;
  shaped = λ r image can at. same-shape image.shape l.output.shape (shape_rendered l r image can at);
  mixed = λ from to weight can. mix_faults l from to weight;
  read_back = λ image packet has at. read_again l.output image packet law is (shape_same image.shape l.output.shape has) at;
  copied = λ clip frame within below fits copies. copied l clip frame (All-get_or IsClip l.clips clip no_clip within are.each) is fits copies;
}
