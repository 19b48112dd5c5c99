-- The clip of a file is within its limits.
use Rattle.std.proofs.Common.{◌≡◌, ℕ, ◌≤◌, Bool, true, false, cond, leb, ltb, eqb, List, [], ◌∷◌, length, map, Option, Some, None, Result, Ok, Err, refl, subst, arith}
use Rattle.std.specs.Prelude.{IfOk}
use Rattle.std.proofs.lemmas.Bool.{leb-true, ltb-true, ltb-false, eqb-false, and_parts}
use Rattle.std.proofs.lemmas.List.{length-map}
use Rattle.ebml_core.specs.Reading.{◌>>=◌}
use Rattle.ebml_core.specs.declared.element.Element.{Element}
use Rattle.mkv_read.specs.declared.clip.ClipIndex.{ClipIndex}
use Rattle.mkv_read.specs.declared.clip.Place.{Place}
use Rattle.mkv_read.specs.declared.fault.ClipFault.{ClipFault}
use Rattle.mkv_read.specs.declared.fault.ClipFault.TheVariants as faults
use Rattle.mkv_read.specs.declared.fault.Which.TheVariants as limits
use Rattle.mkv_read.specs.declared.track.Track.{Track}
use Rattle.mkv_read.specs.declared.block.Block.{Block}
use Rattle.mkv_read.specs.Blocks.{fault_after}
use Rattle.mkv_read.specs.Tracks.{is_side, track_within, track_with, track_among, track_in, track_of, record_place}
use Rattle.mkv_read.specs.Clip.{segment_of, is_matroska, fault_of, unless_faulty, require, packed, clip_with, clip_of, IsWithinLimits}
use Rattle.mkv_read.specs.Taking.{Gives}

bind_ok : {A B : Type 0} (r : Result A ClipFault) (f : A → Result B ClipFault) (y : B) → (r >>= f) ≡ Ok y → (x : A) × (r ≡ Ok x) × (f x ≡ Ok y)
bind_ok (Ok x) f y h = (x, refl, h)
bind_ok (Err fault) f y h = absurd cc

else_ok : {A : Type 0} (b : Bool) (fault : ClipFault) (rest : Result A ClipFault) (y : A) → cond b (Err fault) rest ≡ Ok y → (b ≡ false) × (rest ≡ Ok y)
else_ok true fault rest y h = absurd cc
else_ok false fault rest y h = (refl, h)

then_ok : {A : Type 0} (b : Bool) (fault : ClipFault) (rest : Result A ClipFault) (y : A) → cond b rest (Err fault) ≡ Ok y → (b ≡ true) × (rest ≡ Ok y)
then_ok true fault rest y h = (refl, h)
then_ok false fault rest y h = absurd cc

-- a track within the limits
record IsWithin (track : Track) : Type 0 where
  pub width : (1 ≤ track.width) × (track.width ≤ 8192)
  pub height : (1 ≤ track.height) × (track.height ≤ 8192)
  pub private : (1 ≤ track.private.len) × (track.private.len ≤ 65536)

side : (n : ℕ) → is_side n ≡ true → (1 ≤ n) × (n ≤ 8192)
side n h =
    let parts = and_parts (ltb 0 n) (leb n 8192) h in
    (omega (arith, ltb-true 0 n parts.0), leb-true n 8192 parts.1)

track_within-limits : (track t : Track) (encoded : Bool) → track_within track encoded ≡ Ok t → IsWithin t
unfolding track_within
track_within-limits track t encoded h =
    let a = else_ok (eqb track.private.len 0) faults.NoPrivate _ t h in
    let b = else_ok encoded faults.Encoded _ t a.1 in
    let c = then_ok (is_side track.width) (faults.Limit limits.Width) _ t b.1 in
    let d = then_ok (is_side track.height) (faults.Limit limits.Height) _ t c.1 in
    let e = then_ok (leb track.private.len 65536) (faults.Limit limits.Private) _ t d.1 in
    let is = e.1 in
    let same : track ≡ t = cc in
    let some = eqb-false track.private.len 0 a.0 in
    subst IsWithin same (record { width = side track.width c.0; height = side track.height d.0; private = (omega (arith, some), leb-true track.private.len 65536 e.0) })

track_with-limits : (bytes : List ℕ) (entry : Element) (place : Option Place) (t : Track) → track_with bytes entry place ≡ Ok t → IsWithin t
track_with-limits bytes entry None t h = absurd cc
track_with-limits bytes entry (Some private) t h = track_within-limits _ t _ h

track_among-limits : (bytes : List ℕ) (ffv1 video : Option Element) (t : Track) → track_among bytes ffv1 video ≡ Ok t → IsWithin t
track_among-limits bytes (Some ffv1) video t h = track_with-limits bytes ffv1 (record_place bytes ffv1) t h
track_among-limits bytes None (Some video) t h = absurd cc
track_among-limits bytes None None t h = absurd cc

track_in-limits : (bytes : List ℕ) (tracks : Option Element) (t : Track) → track_in bytes tracks ≡ Ok t → IsWithin t
unfolding track_in
track_in-limits bytes None t h = absurd cc
track_in-limits bytes (Some tracks) t h = track_among-limits bytes _ _ t h

track_of-limits : (bytes : List ℕ) (segment : Option Element) (t : Track) → track_of bytes segment ≡ Ok t → IsWithin t
unfolding track_of
track_of-limits bytes None t h = absurd cc
track_of-limits bytes (Some segment) t h = track_in-limits bytes _ t h

-- a clip of a track with so many packets
record IsOf (track : Track) (count : ℕ) (clip : ClipIndex) : Type 0 where
  pub width : clip.width ≡ track.width
  pub height : clip.height ≡ track.height
  pub private : clip.private ≡ track.private
  pub frames : length clip.packets ≡ count
  pub some : 1 ≤ count

packed-is : (track : Track) (blocks : List Block) (fault : Option ClipFault) (clip : ClipIndex) → packed track blocks fault ≡ Ok clip → IsOf track (length blocks) clip
packed-is track blocks (Some fault) clip h = absurd cc
packed-is track [] None clip h = absurd cc
packed-is track (block ∷ blocks) None clip h =
    let made : ClipIndex = record { width = track.width; height = track.height; private = track.private; packets = map (λ (b : Block). b.packet) (block ∷ blocks) } in
    let same : made ≡ clip = cc in
    subst (IsOf track (length (block ∷ blocks))) same
    (record { width = refl; height = refl; private = refl; frames = length-map (block ∷ blocks) (λ (b : Block). b.packet); some = omega arith })

clip_with-limits : (track : Track) (blocks : List Block) (clip : ClipIndex) → IsWithin track → clip_with track blocks ≡ Ok clip → IsWithinLimits clip
unfolding clip_with
clip_with-limits track blocks clip within h =
    let few = else_ok (ltb 1000000 (length blocks)) (faults.Limit limits.Frames) _ clip h in
    let of = packed-is track blocks (fault_after 0 blocks) clip few.1 in
    let most = ltb-false 1000000 (length blocks) few.0 in
    rw (of.width, of.height, of.private)
    (record { width = within.width; height = within.height; private = within.private; frames = (omega (arith, of.frames, of.some), omega (arith, of.frames, most)) })

clip_of-limits : (bytes : List ℕ) (clip : ClipIndex) → clip_of bytes ≡ Ok clip → IsWithinLimits clip
unfolding clip_of
clip_of-limits bytes clip h =
    let a = bind_ok (unless_faulty (fault_of bytes)) _ clip h in
    let b = bind_ok (require (is_matroska bytes) faults.DocType) _ clip a.2 in
    let c = bind_ok (track_of bytes (segment_of bytes)) _ clip b.2 in
    clip_with-limits c.0 _ clip (track_of-limits bytes (segment_of bytes) c.0 c.1) c.2

-- what is read is within the limits
pub read-limits : (bytes : List ℕ) (r : Result ClipIndex ClipFault) → Gives (λ clip. clip) r (clip_of bytes) → IfOk r IsWithinLimits
read-limits bytes (Ok clip) read = clip_of-limits bytes clip read
read-limits bytes (Err fault) read = tt
