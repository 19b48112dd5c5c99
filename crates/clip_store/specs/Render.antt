-- The library as the editor's core knows it: what a recipe renders to, and what a picture is coded as.
use Rattle.std.specs.Prelude.{ℕ, if◌then◌else◌, List, length, bytes_eq, Option, None, Result, Ok, Err}
use Rattle.pic_planes.specs.Shape.{Layout}
use Rattle.pic_planes.specs.Picture.{Image, black}
use Rattle.ffv1_record.specs.Parameters.{Parameters}
use Rattle.ffv1_frame.proofs.DecodingExists.{decoding_exists}
use Rattle.ffv1_frame.proofs.Writings.{writing_exists}
use Rattle.tl_model.specs.declared.fault.FrameFault.{FrameFault}
use Rattle.tl_model.specs.declared.fault.RenderFault.{RenderFault}
use Rattle.tl_model.specs.declared.recipe.Side.{Side}
use Rattle.tl_model.specs.declared.recipe.Side.TheVariants as side
use Rattle.tl_model.specs.declared.recipe.Recipe.{Recipe}
use Rattle.tl_model.specs.declared.recipe.Recipe.TheVariants as recipe
use Rattle.tl_model.specs.Media.{Library}
use Rattle.clip_store.specs.Blend.{blend}
use Rattle.clip_store.specs.Clip.{ClipOf}
use Rattle.clip_store.specs.Pictures.{same_shape, is_picture}
use Rattle.clip_store.specs.Library.{OutputOf, LibraryOf, clip_at, record_bytes_of, packet_of}

-- ---- coding
-- The one picture or fault that a packet decodes to, and the one packet that a picture is written as, or none where a slice is too long.
-- That there is one is ffv1_frame's; that there is only one too.
abbrev pub decoded : Parameters → Layout → List ℕ → Result Image FrameFault
decoded p shape packet = (decoding_exists p shape packet).0

abbrev pub written : Parameters → Image → Option (List ℕ)
written p image = (writing_exists p image).0

-- An image whose planes aren't its shape's is no picture, and has no packet.
abbrev pub coded : OutputOf → Image → Option (List ℕ)
coded output image = if is_picture image then written output.parameters image else None

-- ---- rendering
-- a frame of a clip, by the clip's own record
abbrev pub frame_of : ClipOf → ℕ → Result Image FrameFault
frame_of clip frame = decoded clip.parameters clip.shape (packet_of clip frame)

-- a fault with its place
abbrev pub at_frame : ℕ → ℕ → Result Image FrameFault → Result Image RenderFault
at_frame clip frame (Ok image) = Ok image
at_frame clip frame (Err kind) = Err (record { clip = clip; frame = frame; kind = kind })

-- black, or a frame of a clip
abbrev pub shown : LibraryOf → Side → Result Image RenderFault
shown library side.Black = Ok (black library.output.shape)
shown library (side.Clip clip frame) = at_frame clip frame (frame_of (clip_at library.clips clip) frame)

-- The outgoing side's fault comes first.
abbrev pub mixed : ℕ → Result Image RenderFault → Result Image RenderFault → Result Image RenderFault
mixed weight (Err fault) to = Err fault
mixed weight (Ok from) (Err fault) = Err fault
mixed weight (Ok from) (Ok to) = Ok (blend weight from to)

abbrev pub render : LibraryOf → Recipe → Result Image RenderFault
render library recipe.Black = shown library side.Black
render library (recipe.Source clip frame) = shown library (side.Clip clip frame)
render library (recipe.Mix from to weight) = mixed weight (shown library from) (shown library to)

-- ---- the library
abbrev pub library_of : LibraryOf → Library Image
library_of l = record {
  clips = length l.clips;
  frames = λ clip. length (clip_at l.clips clip).index.packets;
  fits = λ clip. same_shape (clip_at l.clips clip).shape l.output.shape;
  copies = λ clip. bytes_eq (record_bytes_of (clip_at l.clips clip)) l.output.bytes;
  packet = λ clip frame. packet_of (clip_at l.clips clip) frame;
  record_bytes = l.output.bytes;
  width = l.output.shape.width;
  height = l.output.shape.height;
  has_shape = λ image. same_shape image.shape l.output.shape;
  render = render l;
  coded = coded l.output;
  unpacked = decoded l.output.parameters l.output.shape;
}
