-- What is decoded and coded is what the definitions name.
use Rattle.std.proofs.Common.{◌≡◌, ◌≤◌, List, ℕ, Option, Some, None, Result, Ok, Err, refl, sym, ◌∙◌, ap, subst, arith}
use Rattle.std.specs.Prelude.{IfOk, vec_len}
use Rattle.std.specs.Global.{Vec}
use Rattle.tl_limits.specs.Limits.{max_packet_bytes}
use Rattle.pic_planes.specs.Shape.{Layout}
use Rattle.pic_planes.specs.Picture.{Image, IsPicture}
use Rattle.ffv1_record.specs.Parameters.{Parameters}
use Rattle.ffv1_frame.specs.Frame.{Gives}
use Rattle.ffv1_frame.specs.Law.{told}
use Rattle.ffv1_frame.specs.Written.{Writes, Encodes}
use Rattle.ffv1_frame.proofs.DecodingExists.{decoding_exists}
use Rattle.ffv1_frame.proofs.OneDecoding.{one_decoding}
use Rattle.ffv1_frame.proofs.Writings.{writing_exists, one_writing}
use Rattle.tl_model.specs.declared.fault.FrameFault.{FrameFault}
use Rattle.tl_model.specs.declared.media.EncodeFault.{EncodeFault}
use Rattle.tl_model.specs.declared.media.EncodeFault.TheVariants.{SliceTooLong, NoMemory}
use Rattle.tl_model.specs.Media as media
use Rattle.clip_store.specs.Clip.{ClipOf}
use Rattle.clip_store.specs.Library.{OutputOf, packet_of}
use Rattle.clip_store.specs.Render.{decoded, written, coded, frame_of}
use Rattle.clip_store.proofs.PictureTests.{is_picture_from}

decoded_is : (p : Parameters) (shape : Layout) (packet : List ℕ) (result : Result Image FrameFault) → Gives p shape packet (told result) → result ≡ decoded p shape packet
decoded_is p shape packet result gives = one_decoding p shape packet result (decoded p shape packet) gives (decoding_exists p shape packet).1

-- what is decoded of a frame's packet by the clip's own record
pub frame_is : (clip : ClipOf) (frame : ℕ) (p : Parameters) (shape : Layout) (packet : List ℕ) (result : Result Image FrameFault) → p ≡ clip.parameters → shape ≡ clip.shape → packet ≡ packet_of clip frame
    → Gives p shape packet (told result) → result ≡ frame_of clip frame
frame_is clip frame p shape packet result same_record same_shape same_packet gives =
    decoded_is p shape packet result gives
    ∙ ap (λ (q : Parameters). decoded q shape packet) same_record
    ∙ ap (λ (s : Layout). decoded clip.parameters s packet) same_shape
    ∙ ap (λ (bytes : List ℕ). decoded clip.parameters clip.shape bytes) same_packet

written_is : (p : Parameters) (image : Image) (packet : Option (List ℕ)) → Writes p image packet → written p image ≡ packet
written_is p image packet writes = one_writing p image (written p image) packet (writing_exists p image).1 writes

coded_is : (output : OutputOf) (image : Image) (packet : Option (List ℕ)) → IsPicture image → Writes output.parameters image packet → coded output image ≡ packet
coded_is output image packet sound writes = rw (is_picture_from image sound) (written_is output.parameters image packet writes)

wants_memory : (packet : Option (List ℕ)) → media.Encodes packet (Err NoMemory)
wants_memory None = tt
wants_memory (Some packet) = tt

pub encodes : (output : OutputOf) (image : Image) (result : Result (Vec ℕ) EncodeFault) → IsPicture image → Encodes output.parameters image result → IfOk result (λ bytes. vec_len bytes ≤ max_packet_bytes) → media.Encodes (coded output image) result
encodes output image (Ok bytes) sound writes few =
    let packet : coded output image ≡ Some bytes.items = coded_is output image (Some bytes.items) sound writes in
    subst (λ (o : Option (List ℕ)). media.Encodes o (Ok bytes)) (sym packet) (refl, omega (arith, few, bytes.ok.0))
encodes output image (Err SliceTooLong) sound writes few =
    let none : coded output image ≡ None = coded_is output image None sound writes in
    subst (λ (o : Option (List ℕ)). media.Encodes o (Err SliceTooLong)) (sym none) tt
encodes output image (Err NoMemory) sound writes few = wants_memory (coded output image)
