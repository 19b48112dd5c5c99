-- The track, as it is read of what was written.
use Rattle.std.proofs.Common.{◌≡◌, ℕ, suc, Bool, true, false, cond, eqb, ◌+◌, ◌-◌, ◌≤◌, List, [], ◌∷◌, ◌++◌, length, codes, Option, Some, Result, Ok, refl, sym, ap, subst, ◌∙◌, append_assoc, arith}
use Rattle.std.proofs.lemmas.Bool.{lt-ltb, le-leb, ne_eqb}
use Rattle.std.proofs.lemmas.List.{append-nil}
use Rattle.std.specs.Prelude.{is_some}
use Rattle.std.specs.Int.{bytes_high_first}
use Rattle.std.specs.List.{flat_map, AllByRecursion}
use Rattle.ebml_core.specs.declared.element.Element.{Element}
use Rattle.ebml_core.specs.Spelling.{Piece, IsPiece, spelling, element_of, elements_from}
use Rattle.ebml_core.specs.Listing.{Listing, gives, ends, whole}
use Rattle.mkv_elements.specs.declared.TheConstants.{SEGMENT, TRACKS, TRACK_ENTRY, TRACK_NUMBER, TRACK_UID, TRACK_TYPE, FLAG_LACING, CODEC_ID, CODEC_PRIVATE, CONTENT_ENCODINGS, VIDEO, PIXEL_WIDTH, PIXEL_HEIGHT}
use Rattle.mkv_elements.specs.declared.table.Kind.TheVariants as kinds
use Rattle.mkv_elements.specs.Table.{kind_in}
use Rattle.mkv_read.specs.declared.clip.Place.{Place}
use Rattle.mkv_read.specs.declared.fault.ClipFault.{ClipFault}
use Rattle.mkv_read.specs.declared.track.Track.{Track}
use Rattle.mkv_read.specs.Elements.{elements_in, first_where, first, number_of}
use Rattle.mkv_read.specs.Tracks.{is_text, private_place, record_place, is_video, is_ffv1, side_of, track_within, track_with, track_among, track_in}
use Rattle.mkv_write.proofs.Standing.{Stands, Stands-front, Stands-back, Stands-content, content_place, content_end, elements_in-spelled}
use Rattle.mkv_write.proofs.Gathering.{Reads, ReadsOne, Reads-ends, Reads-gives, Reads-append, ReadsOne-master}
use Rattle.mkv_write.proofs.Finding.{finds, finds_none, elements_from-append, flat_map-append, is_text-spelled, IsLeaf, Reads-leaves}
use Rattle.mkv_write.specs.File.{element, number, size, video, track}
use Rattle.mkv_write.proofs.Octets.{length-bytes_high_first}
use Rattle.mkv_write.proofs.Lengths.{length-track, length-element}
use Rattle.mkv_write.proofs.Spelled.{written, written_number, spelling-written, IsPiece-written}
use Rattle.mkv_write.proofs.Parts.{IsPiece-short, IsPiece-number, number_in}

-- ---- Video

abbrev video_pieces : (width height : ℕ) → List Piece
video_pieces width height = written_number 1 PIXEL_WIDTH 2 width ∷ written_number 1 PIXEL_HEIGHT 2 height ∷ []

abbrev video_piece : (width height : ℕ) → Piece
video_piece width height = written 1 VIDEO 1 (number 1 PIXEL_WIDTH 2 width ++ number 1 PIXEL_HEIGHT 2 height)

spelling-number : (id_octets id octets value : ℕ) → spelling (written_number id_octets id octets value) ≡ number id_octets id octets value
unfolding number
spelling-number id_octets id octets value = spelling-written id_octets id 1 (bytes_high_first octets value)

content-video : (width height : ℕ) → number 1 PIXEL_WIDTH 2 width ++ number 1 PIXEL_HEIGHT 2 height ≡ flat_map spelling (video_pieces width height)
content-video width height =
    sym (ap (λ (x : List ℕ). x ++ (spelling (written_number 1 PIXEL_HEIGHT 2 height) ++ [])) (spelling-number 1 PIXEL_WIDTH 2 width)
    ∙ ap (λ (x : List ℕ). number 1 PIXEL_WIDTH 2 width ++ x) (append-nil (spelling (written_number 1 PIXEL_HEIGHT 2 height)) ∙ spelling-number 1 PIXEL_HEIGHT 2 height))

ArePieces-video : (width height : ℕ) → AllByRecursion IsPiece (video_pieces width height)
ArePieces-video width height = (
  IsPiece-number 1 PIXEL_WIDTH 2 width (omega arith) (omega arith) (omega arith),
  (IsPiece-number 1 PIXEL_HEIGHT 2 height (omega arith) (omega arith) (omega arith), tt),
)

inside-video : (bytes : List ℕ) (start width height : ℕ) → Stands bytes start (spelling (video_piece width height)) → elements_in bytes (element_of start (video_piece width height)) ≡ whole (elements_from (content_place start (video_piece width height)) (video_pieces width height))
inside-video bytes start width height h = elements_in-spelled bytes start (video_piece width height) (video_pieces width height) (ArePieces-video width height) (content-video width height) h

content_stands-video : (bytes : List ℕ) (start width height : ℕ) → Stands bytes start (spelling (video_piece width height)) → Stands bytes (content_place start (video_piece width height)) (flat_map spelling (video_pieces width height))
content_stands-video bytes start width height h =
    subst (λ (text : List ℕ). Stands bytes (content_place start (video_piece width height)) text) (content-video width height) (Stands-content bytes start (video_piece width height) h)

leaves-video : (width height : ℕ) → AllByRecursion (λ p. IsLeaf VIDEO p) (video_pieces width height)
unfolding kind_in
leaves-video width height = (omega (arith, length-bytes_high_first 2 width), (omega (arith, length-bytes_high_first 2 height), tt))

kind-video : kind_in TRACK_ENTRY VIDEO ≡ Some kinds.Master
unfolding kind_in
kind-video = refl

video_read : (levels : ℕ) (bytes : List ℕ) (start width height : ℕ) → Stands bytes start (spelling (video_piece width height)) → ReadsOne (suc levels) bytes TRACK_ENTRY 0 (element_of start (video_piece width height)) []
video_read levels bytes start width height h =
    let p = video_piece width height in
    let leaves = Reads-leaves levels bytes VIDEO 0 (content_place start p) (video_pieces width height) (leaves-video width height) in
    ReadsOne-master (suc levels) bytes TRACK_ENTRY 0 (element_of start p) [] refl kind-video (subst (λ (w : Listing). Reads (suc levels) bytes VIDEO 0 w []) (sym (inside-video bytes start width height h)) leaves)

width_of-written : (bytes : List ℕ) (start width height : ℕ) → width ≤ 8192 → Stands bytes start (spelling (video_piece width height)) → side_of bytes PIXEL_WIDTH (Some (element_of start (video_piece width height))) ≡ width
unfolding side_of
width_of-written bytes start width height most h =
    ap (λ (w : Listing). number_of bytes (first PIXEL_WIDTH w)) (inside-video bytes start width height h)
    ∙ number_in bytes (content_place start (video_piece width height)) (video_pieces width height) PIXEL_WIDTH 1 2 width (content_stands-video bytes start width height h) refl (omega arith) (omega arith)

height_of-written : (bytes : List ℕ) (start width height : ℕ) → height ≤ 8192 → Stands bytes start (spelling (video_piece width height)) → side_of bytes PIXEL_HEIGHT (Some (element_of start (video_piece width height))) ≡ height
unfolding side_of
height_of-written bytes start width height most h =
    ap (λ (w : Listing). number_of bytes (first PIXEL_HEIGHT w)) (inside-video bytes start width height h)
    ∙ number_in bytes (content_place start (video_piece width height)) (video_pieces width height) PIXEL_HEIGHT 1 2 height (content_stands-video bytes start width height h) refl (omega arith) (omega arith)

-- ---- the TrackEntry

abbrev private_piece : List ℕ → Piece
private_piece private = written 2 CODEC_PRIVATE 4 private

abbrev codec_piece : Piece
codec_piece = written 1 CODEC_ID 1 (codes "V_FFV1")

abbrev entry_pieces : (private : List ℕ) (width height : ℕ) → List Piece
entry_pieces private width height = written_number 1 TRACK_NUMBER 1 1 ∷ written_number 2 TRACK_UID 1 1 ∷ written_number 1 TRACK_TYPE 1 1 ∷ written_number 1 FLAG_LACING 1 0
    ∷ codec_piece ∷ private_piece private ∷ video_piece width height ∷ []

abbrev entry_piece : (private : List ℕ) (width height : ℕ) → Piece
entry_piece private width height = written 1 TRACK_ENTRY 4 (track private width height)

seven : (a b c d e f g : List ℕ) → a ++ b ++ c ++ d ++ e ++ f ++ g ≡ a ++ (b ++ (c ++ (d ++ (e ++ (f ++ (g ++ []))))))
seven a b c d e f g = simp (append_assoc, append-nil)

seven_are : (a b c d e f g a' b' c' d' e' f' g' : List ℕ) → a' ≡ a → b' ≡ b → c' ≡ c → d' ≡ d → e' ≡ e → f' ≡ f → g' ≡ g → a ++ b ++ c ++ d ++ e ++ f ++ g ≡ a' ++ (b' ++ (c' ++ (d' ++ (e' ++ (f' ++ (g' ++ []))))))
seven_are a b c d e f g a' b' c' d' e' f' g' p q r s t u v = cc (seven a' b' c' d' e' f' g')

content-entry : (private : List ℕ) (width height : ℕ) → track private width height ≡ flat_map spelling (entry_pieces private width height)
unfolding track video
content-entry private width height =
    seven_are _ _ _ _ _ _ _ _ _ _ _ _ _ _ (spelling-number 1 TRACK_NUMBER 1 1) (spelling-number 2 TRACK_UID 1 1) (spelling-number 1 TRACK_TYPE 1 1) (spelling-number 1 FLAG_LACING 1 0) (spelling-written 1 CODEC_ID 1 (codes "V_FFV1")) (spelling-written 2 CODEC_PRIVATE 4 private)
    (spelling-written 1 VIDEO 1 (number 1 PIXEL_WIDTH 2 width ++ number 1 PIXEL_HEIGHT 2 height))

length-video_content : (width height : ℕ) → length (number 1 PIXEL_WIDTH 2 width ++ number 1 PIXEL_HEIGHT 2 height) ≡ 8
unfolding number element size
length-video_content width height = refl

ArePieces-entry : (private : List ℕ) (width height : ℕ) → length private ≤ 65536 → AllByRecursion IsPiece (entry_pieces private width height)
ArePieces-entry private width height most = (
  IsPiece-number 1 TRACK_NUMBER 1 1 (omega arith) (omega arith) (omega arith),
  (
    IsPiece-number 2 TRACK_UID 1 1 (omega arith) (omega arith) (omega arith),
    (
      IsPiece-number 1 TRACK_TYPE 1 1 (omega arith) (omega arith) (omega arith),
      (
        IsPiece-number 1 FLAG_LACING 1 0 (omega arith) (omega arith) (omega arith),
        (
          IsPiece-short 1 CODEC_ID (codes "V_FFV1") (omega arith) (omega arith) (omega arith),
          (
            IsPiece-written 2 CODEC_PRIVATE 4 private (omega arith) (omega arith) (omega arith) (omega arith) (omega arith),
            (IsPiece-short 1 VIDEO (number 1 PIXEL_WIDTH 2 width ++ number 1 PIXEL_HEIGHT 2 height) (omega arith) (omega arith) (omega (arith, length-video_content width height)), tt),
          ),
        ),
      ),
    ),
  ),
)

inside-entry : (bytes : List ℕ) (start : ℕ) (private : List ℕ) (width height : ℕ) → length private ≤ 65536 → Stands bytes start (spelling (entry_piece private width height)) → elements_in bytes (element_of start (entry_piece private width height)) ≡ whole (elements_from (content_place start (entry_piece private width height)) (entry_pieces private width height))
inside-entry bytes start private width height most h =
    elements_in-spelled bytes start (entry_piece private width height) (entry_pieces private width height) (ArePieces-entry private width height most) (content-entry private width height) h

content_stands-entry : (bytes : List ℕ) (start : ℕ) (private : List ℕ) (width height : ℕ) → Stands bytes start (spelling (entry_piece private width height)) → Stands bytes (content_place start (entry_piece private width height)) (flat_map spelling (entry_pieces private width height))
content_stands-entry bytes start private width height h =
    subst (λ (text : List ℕ). Stands bytes (content_place start (entry_piece private width height)) text) (content-entry private width height) (Stands-content bytes start (entry_piece private width height) h)

abbrev entry_leaves : List ℕ → List Piece
entry_leaves private = written_number 1 TRACK_NUMBER 1 1 ∷ written_number 2 TRACK_UID 1 1 ∷ written_number 1 TRACK_TYPE 1 1 ∷ written_number 1 FLAG_LACING 1 0
    ∷ codec_piece ∷ private_piece private ∷ []

leaves-entry : (private : List ℕ) → AllByRecursion (λ p. IsLeaf TRACK_ENTRY p) (entry_leaves private)
unfolding kind_in
leaves-entry private = (omega arith, (tt, (omega arith, (tt, (tt, (tt, tt))))))

kind-entry : kind_in TRACKS TRACK_ENTRY ≡ Some kinds.Master
unfolding kind_in
kind-entry = refl

entry_read : (levels : ℕ) (bytes : List ℕ) (start : ℕ) (private : List ℕ) (width height : ℕ) → length private ≤ 65536 → Stands bytes start (spelling (entry_piece private width height)) → ReadsOne (suc (suc levels)) bytes TRACKS 0 (element_of start (entry_piece private width height)) []
entry_read levels bytes start private width height most h =
    let p = entry_piece private width height in
    let place = content_place start p in
    let leaves = entry_leaves private in
    let v = video_piece width height in
    let later = place + length (flat_map spelling leaves) in
    let there : Stands bytes place (flat_map spelling leaves ++ (spelling v ++ [])) = subst (λ (text : List ℕ). Stands bytes place text) (flat_map-append leaves (v ∷ [])) (content_stands-entry bytes start private width height h) in
    let video_there = Stands-front bytes later (spelling v) [] (Stands-back bytes place (flat_map spelling leaves) (spelling v ++ []) there) in
    let front = Reads-leaves (suc levels) bytes TRACK_ENTRY 0 place leaves (leaves-entry private) in
    let last : Reads (suc (suc levels)) bytes TRACK_ENTRY 0 (whole (elements_from later (v ∷ []))) [] = Reads-gives (suc levels) bytes TRACK_ENTRY 0 (element_of later v) (whole []) [] [] (video_read levels bytes later width height video_there) (Reads-ends (suc levels) bytes TRACK_ENTRY 0) in
    let both = Reads-append (suc levels) bytes TRACK_ENTRY 0 (elements_from place leaves) (elements_from later (v ∷ [])) [] [] front last in
    let all : Reads (suc (suc levels)) bytes TRACK_ENTRY 0 (whole (elements_from place (entry_pieces private width height))) [] = subst (λ (es : List Element). Reads (suc (suc levels)) bytes TRACK_ENTRY 0 (whole es) []) (sym (elements_from-append place leaves (v ∷ []))) both in
    ReadsOne-master (suc (suc levels)) bytes TRACKS 0 (element_of start p) [] refl kind-entry (subst (λ (w : Listing). Reads (suc (suc levels)) bytes TRACK_ENTRY 0 w []) (sym (inside-entry bytes start private width height most h)) all)

-- ---- Tracks

abbrev pub tracks_piece : (private : List ℕ) (width height : ℕ) → Piece
tracks_piece private width height = written 4 TRACKS 4 (element 1 TRACK_ENTRY 4 (track private width height))

pub spelling-tracks : (private : List ℕ) (width height : ℕ) → spelling (tracks_piece private width height) ≡ element 4 TRACKS 4 (element 1 TRACK_ENTRY 4 (track private width height))
spelling-tracks private width height = spelling-written 4 TRACKS 4 (element 1 TRACK_ENTRY 4 (track private width height))

content-tracks : (private : List ℕ) (width height : ℕ) → element 1 TRACK_ENTRY 4 (track private width height) ≡ flat_map spelling (entry_piece private width height ∷ [])
content-tracks private width height = sym (append-nil (spelling (entry_piece private width height)) ∙ spelling-written 1 TRACK_ENTRY 4 (track private width height))

ArePieces-tracks : (private : List ℕ) (width height : ℕ) → length private ≤ 65536 → AllByRecursion IsPiece (entry_piece private width height ∷ [])
ArePieces-tracks private width height most =
    (IsPiece-written 1 TRACK_ENTRY 4 (track private width height) (omega arith) (omega arith) (omega arith) (omega arith) (omega (arith, most, length-track private width height)), tt)

pub IsPiece-tracks : (private : List ℕ) (width height : ℕ) → length private ≤ 65536 → IsPiece (tracks_piece private width height)
IsPiece-tracks private width height most =
    IsPiece-written 4 TRACKS 4 (element 1 TRACK_ENTRY 4 (track private width height)) (omega arith) (omega arith) (omega arith) (omega arith) (omega (arith, most, length-track private width height, length-element 1 TRACK_ENTRY 4 (track private width height)))

inside-tracks : (bytes : List ℕ) (start : ℕ) (private : List ℕ) (width height : ℕ) → length private ≤ 65536 → Stands bytes start (spelling (tracks_piece private width height)) → elements_in bytes (element_of start (tracks_piece private width height)) ≡ whole (elements_from (content_place start (tracks_piece private width height)) (entry_piece private width height ∷ []))
inside-tracks bytes start private width height most h =
    elements_in-spelled bytes start (tracks_piece private width height) (entry_piece private width height ∷ []) (ArePieces-tracks private width height most) (content-tracks private width height) h

entry_stands : (bytes : List ℕ) (start : ℕ) (private : List ℕ) (width height : ℕ) → Stands bytes start (spelling (tracks_piece private width height)) → Stands bytes (content_place start (tracks_piece private width height)) (spelling (entry_piece private width height))
entry_stands bytes start private width height h =
    let place = content_place start (tracks_piece private width height) in
    Stands-front bytes place (spelling (entry_piece private width height)) [] (subst (λ (text : List ℕ). Stands bytes place text) (content-tracks private width height) (Stands-content bytes start (tracks_piece private width height) h))

kind-tracks : kind_in SEGMENT TRACKS ≡ Some kinds.Master
unfolding kind_in
kind-tracks = refl

pub tracks_read : (levels : ℕ) (bytes : List ℕ) (start : ℕ) (private : List ℕ) (width height : ℕ) → length private ≤ 65536 → Stands bytes start (spelling (tracks_piece private width height)) → ReadsOne (suc (suc (suc levels))) bytes SEGMENT 0 (element_of start (tracks_piece private width height)) []
tracks_read levels bytes start private width height most h =
    let p = tracks_piece private width height in
    let place = content_place start p in
    let one = entry_read levels bytes place private width height most (entry_stands bytes start private width height h) in
    let all : Reads (suc (suc (suc levels))) bytes TRACKS 0 (whole (elements_from place (entry_piece private width height ∷ []))) [] = Reads-gives (suc (suc levels)) bytes TRACKS 0 (element_of place (entry_piece private width height)) (whole []) [] [] one (Reads-ends (suc (suc levels)) bytes TRACKS 0) in
    ReadsOne-master (suc (suc (suc levels))) bytes SEGMENT 0 (element_of start p) [] refl kind-tracks (subst (λ (w : Listing). Reads (suc (suc (suc levels))) bytes TRACKS 0 w []) (sym (inside-tracks bytes start private width height most h)) all)

-- ---- the track that is read

abbrev pub some_place : Place → Option Place
some_place place = Some place

abbrev pub place_at : (from len : ℕ) → Place
place_at from len = record { from = from; len = len }

pick : (test : Bool) (one other : Option Place) → test ≡ true → cond test one other ≡ one
pick test one other is = rw is refl

is_video-written : (bytes : List ℕ) (start : ℕ) (private : List ℕ) (width height : ℕ) → length private ≤ 65536 → Stands bytes start (spelling (entry_piece private width height)) → is_video bytes (element_of start (entry_piece private width height)) ≡ true
unfolding is_video
is_video-written bytes start private width height most h =
    ap (λ (w : Listing). eqb (number_of bytes (first TRACK_TYPE w)) 1) (inside-entry bytes start private width height most h)
    ∙ ap (λ (n : ℕ). eqb n 1) (number_in bytes (content_place start (entry_piece private width height)) (entry_pieces private width height) TRACK_TYPE 1 1 1 (content_stands-entry bytes start private width height h) refl (omega arith) (omega arith))

-- where the configuration record lies
record Configured (bytes : List ℕ) (e : Element) (private : List ℕ) : Type 0 where
  pub place : ℕ
  pub stands : Stands bytes place private
  pub is : record_place bytes e ≡ some_place (place_at place (length private))

configured : (bytes : List ℕ) (start : ℕ) (private : List ℕ) (width height : ℕ) → length private ≤ 65536 → Stands bytes start (spelling (entry_piece private width height)) → Configured bytes (element_of start (entry_piece private width height)) private
unfolding record_place
configured bytes start private width height most h =
    let inside = inside-entry bytes start private width height most h in
    let place = content_place start (entry_piece private width height) in
    let there = content_stands-entry bytes start private width height h in
    let f = finds bytes place (entry_pieces private width height) CODEC_ID codec_piece there refl in
    let g = finds bytes place (entry_pieces private width height) CODEC_PRIVATE (private_piece private) there refl in
    let codec : is_text bytes (codes "V_FFV1") (first CODEC_ID (elements_in bytes (element_of start (entry_piece private width height)))) ≡ true =
    ap (λ (w : Listing). is_text bytes (codes "V_FFV1") (first CODEC_ID w)) inside ∙ ap (is_text bytes (codes "V_FFV1")) f.found ∙ is_text-spelled bytes (codes "V_FFV1") f.place codec_piece f.stands in
    let len : g.place + length (spelling (private_piece private)) - content_place g.place (private_piece private) ≡ length private = omega (arith, content_end g.place (private_piece private)) in
    record {
      place = content_place g.place (private_piece private);
      stands = Stands-content bytes g.place (private_piece private) g.stands;
      is = pick _ _ _ codec ∙ ap (λ (w : Listing). some_place (private_place (first CODEC_PRIVATE w))) inside ∙ ap (λ (e : Option Element). some_place (private_place e)) g.found ∙ ap (λ (n : ℕ). some_place (place_at (content_place g.place (private_piece private)) n)) len;
    }

is_ffv1-from : (bytes : List ℕ) (e : Element) (place : Place) → is_video bytes e ≡ true → record_place bytes e ≡ some_place place → is_ffv1 bytes e ≡ true
unfolding is_ffv1
is_ffv1-from bytes e place video is = rw (video, is) refl

first_where-one : (test : Element → Bool) (e : Element) (rest : Listing) → test e ≡ true → first_where test (gives e rest) ≡ Some e
unfolding first_where
first_where-one test e rest is = rw is refl

abbrev track_of_parts : (number width height : ℕ) (private : Place) → Track
track_of_parts number width height private = record { number = number; width = width; height = height; private = private }

abbrev ok_track : Track → Result Track ClipFault
ok_track t = Ok t

track_within-ok : (width height from len : ℕ) → 1 ≤ width → width ≤ 8192 → 1 ≤ height → height ≤ 8192 → 1 ≤ len → len ≤ 65536 → track_within (track_of_parts 1 width height (place_at from len)) false ≡ ok_track (track_of_parts 1 width height (place_at from len))
unfolding track_within
track_within-ok width height from len some_width most_width some_height most_height some most =
    rw (ne_eqb len 0 (λ e. omega arith), lt-ltb 0 width some_width, le-leb width 8192 most_width, lt-ltb 0 height some_height, le-leb height 8192 most_height, le-leb len 65536 most) refl

abbrev within : (number width height : ℕ) (private : Place) (encodings : Option Element) → Result Track ClipFault
within number width height private encodings = track_within (track_of_parts number width height private) (is_some encodings)

within-same : (n w h n' w' h' : ℕ) (private : Place) (e e' : Option Element) → n ≡ n' → w ≡ w' → h ≡ h' → e ≡ e' → within n w h private e ≡ within n' w' h' private e'
within-same n w h n' w' h' private e e' p q r s = cc

-- The track that is read of what was written, with the place of its configuration record.
pub record ReadsTrack (bytes : List ℕ) (tracks : Element) (private : List ℕ) (width height : ℕ) : Type 0 where
  pub place : ℕ
  pub stands : Stands bytes place private
  pub is : track_in bytes (Some tracks) ≡ ok_track (track_of_parts 1 width height (place_at place (length private)))

pub track_read : (bytes : List ℕ) (start : ℕ) (private : List ℕ) (width height : ℕ) → 1 ≤ width → width ≤ 8192 → 1 ≤ height → height ≤ 8192 → 1 ≤ length private → length private ≤ 65536 → Stands bytes start (spelling (tracks_piece private width height)) → ReadsTrack bytes (element_of start (tracks_piece private width height)) private width height
unfolding track_in
track_read bytes start private width height some_width most_width some_height most_height some most h =
    let t = tracks_piece private width height in
    let at = content_place start t in
    let p = entry_piece private width height in
    let e = element_of at p in
    let here = entry_stands bytes start private width height h in
    let inside = inside-entry bytes at private width height most here in
    let place = content_place at p in
    let pieces = entry_pieces private width height in
    let there = content_stands-entry bytes at private width height here in
    let c = configured bytes at private width height most here in
    let record_at = place_at c.place (length private) in
    let ffv1 = is_ffv1-from bytes e record_at (is_video-written bytes at private width height most here) c.is in
    let v = finds bytes place pieces VIDEO (video_piece width height) there refl in
    let number_is = number_in bytes place pieces TRACK_NUMBER 1 1 1 there refl (omega arith) (omega arith) in
    let width_is = ap (side_of bytes PIXEL_WIDTH) v.found ∙ width_of-written bytes v.place width height most_width v.stands in
    let height_is = ap (side_of bytes PIXEL_HEIGHT) v.found ∙ height_of-written bytes v.place width height most_height v.stands in
    let plain = finds_none place pieces CONTENT_ENCODINGS refl in
    record {
      place = c.place;
      stands = c.stands;
      is = ap (λ (w : Listing). track_among bytes (first_where (is_ffv1 bytes) w) (first_where (is_video bytes) w)) (inside-tracks bytes start private width height most h)
          ∙ ap (λ (o : Option Element). track_among bytes o (first_where (is_video bytes) (gives e ends))) (first_where-one (is_ffv1 bytes) e ends ffv1)
          ∙ ap (track_with bytes e) c.is
          ∙ ap (λ (w : Listing). within (number_of bytes (first TRACK_NUMBER w)) (side_of bytes PIXEL_WIDTH (first VIDEO w)) (side_of bytes PIXEL_HEIGHT (first VIDEO w)) record_at (first CONTENT_ENCODINGS w)) inside
          ∙ within-same _ _ _ _ _ _ record_at _ _ number_is width_is height_is plain
          ∙ track_within-ok width height c.place (length private) some_width most_width some_height most_height some most;
    }
