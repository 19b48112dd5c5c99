-- The clip that the whole reader finds in a plain file is the one that it holds.
use Rattle.std.proofs.Common.{◌≡◌, ℕ, ◌+◌, ◌-◌, ◌≤◌, true, false, eqb, ltb, List, [], ◌∷◌, ◌++◌, length, map, drop, Option, Some, None, Result, Ok, refl, sym, ap, subst, ◌∙◌, arith}
use Rattle.std.specs.Prelude.{codes}
use Rattle.std.specs.List.{flat_map}
use Rattle.std.proofs.lemmas.Bool.{eq-eqb, ne_eqb, le-ltb, lt-ltb, le-leb}
use Rattle.std.proofs.lemmas.List.{length-append, length-take, length-drop, append-nil}
use Rattle.ebml_core.specs.declared.element.Element.{Element}
use Rattle.ebml_core.specs.Spelling.{Piece, Holds, spelling, element_of, elements_from}
use Rattle.ebml_core.specs.Listing.{whole}
use Rattle.mkv_elements.specs.declared.TheConstants.{EBML, DOC_TYPE, SEGMENT, TRACKS, TRACK_ENTRY, TRACK_NUMBER, TRACK_TYPE, CODEC_ID, CODEC_PRIVATE, CONTENT_ENCODINGS, VIDEO, PIXEL_WIDTH, PIXEL_HEIGHT, CLUSTER}
use Rattle.mkv_elements.specs.declared.table.Kind.TheVariants as kinds
use Rattle.mkv_elements.specs.declared.table.TheConstants.{FILE}
use Rattle.mkv_elements.specs.Table.{kind_in}
use Rattle.mkv_read.specs.declared.clip.Place.{Place}
use Rattle.mkv_read.specs.declared.clip.ClipIndex.{ClipIndex}
use Rattle.mkv_read.specs.declared.block.Block.{Block}
use Rattle.mkv_read.specs.declared.fault.ClipFault.{ClipFault}
use Rattle.mkv_read.specs.Limits.{max_side, max_private, max_frames, video_type, depth}
use Rattle.mkv_read.specs.Plain.{named, AreClusters, HasOne, IsNumber, IsSide, IsTrack, IsSegment, IsPlainFile}
use Rattle.mkv_read.specs.Elements.{content_of, text_of, LiesWithin, elements, elements_in, first_where, first, number_of}
use Rattle.mkv_read.specs.Faults.{fault_in, element_fault}
use Rattle.mkv_read.specs.Blocks.{each_block, blocks_in, element_blocks, time_in}
use Rattle.mkv_read.specs.Tracks.{is_text, record_place, is_video, is_ffv1, side_of, track_within, track_with, track_in, track_of}
use Rattle.mkv_read.specs.Clip.{segment_of, end_or, file_of, fault_of, has_doc_type, is_matroska, packed, clip_with, clip_of}
use Rattle.mkv_read.proofs.Held.{named-split, Holds-known}
use Rattle.mkv_read.proofs.Held.{is-text}
use Rattle.mkv_read.proofs.Held.{Holds-lie}
use Rattle.mkv_read.proofs.PlainElements.{Holds-elements, first_where-named, first-named, first-lacks, first_fault-none}
use Rattle.mkv_read.proofs.PlainFaults.{IsSound, named_behind, master_sound}
use Rattle.mkv_read.proofs.PlainMasters.{header_sound, segment_sound}
use Rattle.mkv_read.proofs.PlainBlocks.{SameBlocks, same_packets, same_count, no_fault, number_is, as_none, none_in_header, clusters_same}
use Rattle.mkv_read.proofs.TableKinds.{header_in_file, segment_in_file}

-- ---- one child

child_is : (bytes : List ℕ) (master : Element) (id : ℕ) (child : Element) → HasOne bytes master id child → first id (elements_in bytes master) ≡ Some child
child_is bytes master id child h = ap (first id) (Holds-elements bytes master.content master.end h.children h.held) ∙ first-named id h.children child h.one

child_number : (bytes : List ℕ) (master : Element) (id : ℕ) (child : Element) (n : ℕ) → HasOne bytes master id child → IsNumber bytes child n → number_of bytes (first id (elements_in bytes master)) ≡ n
child_number bytes master id child n h is = ap (number_of bytes) (child_is bytes master id child h) ∙ number_is bytes child n is

child_text : (bytes text : List ℕ) (master : Element) (id : ℕ) (child : Element) → HasOne bytes master id child → text_of (content_of bytes child) ≡ text → is_text bytes text (first id (elements_in bytes master)) ≡ true
child_text bytes text master id child h is = ap (is_text bytes text) (child_is bytes master id child h) ∙ is-text (text_of (content_of bytes child)) text is

-- ---- the track

place_is : (a b : ℕ) (p : Place) → a ≡ p.from → b ≡ p.len → record { from = a; len = b } ≡ p
place_is a b p f l = ap (λ (n : ℕ). record { from = n; len = b }) f ∙ ap (λ (n : ℕ). record { from = p.from; len = n }) l

record_is : (bytes : List ℕ) (tracks : Element) (number width height : ℕ) (private : Place) (h : IsTrack bytes tracks number width height private) → record_place bytes h.entry ≡ Some private
unfolding record_place
record_is bytes tracks number width height private h =
    let p = h.configured in
    rw (child_text bytes (codes "V_FFV1") h.entry CODEC_ID h.ffv1.codec h.ffv1.one_codec h.ffv1.codec_is, child_is bytes h.entry CODEC_PRIVATE p.private p.one) (ap (λ (x : Place). Some x) (place_is _ _ private (sym p.from) (omega (arith, p.from, p.len))))

video_is : (bytes : List ℕ) (tracks : Element) (number width height : ℕ) (private : Place) (h : IsTrack bytes tracks number width height private) → eqb h.entry.id TRACK_ENTRY ≡ true → is_video bytes h.entry ≡ true
unfolding is_video
video_is bytes tracks number width height private h here =
    rw (here, child_number bytes h.entry TRACK_TYPE h.ffv1.type_element video_type h.ffv1.one_type h.ffv1.type_is) refl

ffv1_is : (bytes : List ℕ) (tracks : Element) (number width height : ℕ) (private : Place) (h : IsTrack bytes tracks number width height private) → eqb h.entry.id TRACK_ENTRY ≡ true → is_ffv1 bytes h.entry ≡ true
unfolding is_ffv1
ffv1_is bytes tracks number width height private h here =
    rw (video_is bytes tracks number width height private h here, record_is bytes tracks number width height private h) refl

not_ffv1 : (bytes : List ℕ) (e : Element) → eqb e.id TRACK_ENTRY ≡ false → is_ffv1 bytes e ≡ false
unfolding is_ffv1 is_video
not_ffv1 bytes e other = rw other refl

side_is : (bytes : List ℕ) (entry video : Element) (id n : ℕ) → HasOne bytes entry VIDEO video → IsSide bytes video id n → side_of bytes id (first VIDEO (elements_in bytes entry)) ≡ n
unfolding side_of
side_is bytes entry video id n one side =
    ap (side_of bytes id) (child_is bytes entry VIDEO video one) ∙ child_number bytes video id side.side n side.one side.value

within_is : (number width height : ℕ) (private : Place) → 1 ≤ width → width ≤ max_side → 1 ≤ height → height ≤ max_side → 1 ≤ private.len → private.len ≤ max_private → track_within (record { number = number; width = width; height = height; private = private }) false ≡ Ok (record { number = number; width = width; height = height; private = private })
unfolding track_within
within_is number width height private w0 w1 h0 h1 p0 p1 =
    let some : eqb private.len 0 ≡ false = ne_eqb private.len 0 (λ e. omega (arith, e, p0)) in
    rw (some, lt-ltb 0 width w0, le-leb width max_side w1, lt-ltb 0 height h0, le-leb height max_side h1, le-leb private.len max_private p1) refl

with_is : (bytes : List ℕ) (tracks : Element) (number width height : ℕ) (private : Place) (h : IsTrack bytes tracks number width height private) → track_with bytes h.entry (Some private) ≡ Ok (record { number = number; width = width; height = height; private = private })
with_is bytes tracks number width height private h =
    let n = child_number bytes h.entry TRACK_NUMBER h.ffv1.number_element number h.ffv1.one_number h.ffv1.number_is in
    let w = side_is bytes h.entry h.video PIXEL_WIDTH width h.one_video h.width_is in
    let g = side_is bytes h.entry h.video PIXEL_HEIGHT height h.one_video h.height_is in
    let lacks = h.ffv1.plain in
    let none : first CONTENT_ENCODINGS (elements_in bytes h.entry) ≡ None = ap (first CONTENT_ENCODINGS) (Holds-elements bytes h.entry.content h.entry.end lacks.children lacks.held) ∙ first-lacks CONTENT_ENCODINGS lacks.children lacks.lacks in
    rw (n, w, g, none) (within_is number width height private h.width_is.some h.width_is.most h.height_is.some h.height_is.most h.configured.some h.configured.most)

in_is : (bytes : List ℕ) (tracks : Element) (number width height : ℕ) (private : Place) → IsTrack bytes tracks number width height private → track_in bytes (Some tracks) ≡ Ok (record { number = number; width = width; height = height; private = private })
unfolding track_in
in_is bytes tracks number width height private h =
    let one = h.one_entry in
    let found : first_where (is_ffv1 bytes) (elements_in bytes tracks) ≡ Some h.entry = ap (first_where (is_ffv1 bytes)) (Holds-elements bytes tracks.content tracks.end one.children one.held) ∙ first_where-named (is_ffv1 bytes) TRACK_ENTRY one.children h.entry (not_ffv1 bytes) (ffv1_is bytes tracks number width height private h) one.one in
    rw found (ap (track_with bytes h.entry) (record_is bytes tracks number width height private h) ∙ with_is bytes tracks number width height private h)

track_is : (bytes : List ℕ) (segment : Element) (clip : ClipIndex) (h : IsSegment bytes segment clip) → track_of bytes (Some segment) ≡ Ok (record { number = h.number; width = clip.width; height = clip.height; private = clip.private })
unfolding track_of
track_is bytes segment clip h =
    let es = h.before ++ h.tracks ∷ h.after in
    let one : named TRACKS es ≡ h.tracks ∷ [] = named-split TRACKS h.before h.tracks h.after h.is_tracks h.none_before ∙ ap (λ (xs : List Element). h.tracks ∷ xs) h.none_after in
    let found : first TRACKS (elements_in bytes segment) ≡ Some h.tracks = ap (first TRACKS) (Holds-elements bytes segment.content segment.end es h.held) ∙ first-named TRACKS es h.tracks one in
    ap (track_in bytes) found ∙ in_is bytes h.tracks h.number clip.width clip.height clip.private h.track

-- ---- the file

last_end : (ps : List Piece) (start : ℕ) (a b : Element) → a ∷ (b ∷ []) ≡ elements_from start ps → b.end ≡ start + length (flat_map spelling ps)
last_end [] start a b h = absurd cc
last_end (p ∷ []) start a b h = absurd cc
last_end (p ∷ q ∷ []) start a b h =
    let is : b ≡ element_of (start + length (spelling p)) q = cc in
    ap (λ (x : Element). x.end) is ∙ omega (arith, length-append (spelling p) (spelling q ++ []), length-append (spelling q) [])
last_end (p ∷ q ∷ r ∷ ps) start a b h = absurd cc

record IsFile (bytes : List ℕ) (header segment : Element) : Type 0 where
  pub held : Holds bytes 0 (length bytes) (header ∷ (segment ∷ []))
  pub is_header : header.id ≡ EBML
  pub is_segment : segment.id ≡ SEGMENT

abbrev file_elements : Element → Element → List Element
file_elements header segment = header ∷ (segment ∷ [])

file_end : (bytes : List ℕ) (header segment : Element) → IsFile bytes header segment → segment.end ≡ length bytes
file_end bytes header segment f =
    last_end f.held.pieces 0 header segment f.held.placed ∙ omega (arith, ap length f.held.spelled.whole, length-take (length bytes - 0) (drop 0 bytes), length-drop 0 bytes)

one_segment : (bytes : List ℕ) (header segment : Element) → IsFile bytes header segment → named SEGMENT (file_elements header segment) ≡ segment ∷ []
one_segment bytes header segment f =
    let other : eqb header.id SEGMENT ≡ false = ap (λ (n : ℕ). eqb n SEGMENT) f.is_header in
    rw (other, eq-eqb segment.id SEGMENT f.is_segment) refl

one_header : (bytes : List ℕ) (header segment : Element) → IsFile bytes header segment → named EBML (file_elements header segment) ≡ header ∷ []
one_header bytes header segment f =
    let other : eqb segment.id EBML ≡ false = ap (λ (n : ℕ). eqb n EBML) f.is_segment in
    rw (eq-eqb header.id EBML f.is_header, other) refl

segment_is : (bytes : List ℕ) (header segment : Element) → IsFile bytes header segment → segment_of bytes ≡ Some segment
unfolding segment_of
segment_is bytes header segment f =
    ap (first SEGMENT) (Holds-elements bytes 0 (length bytes) _ f.held) ∙ first-named SEGMENT (file_elements header segment) segment (one_segment bytes header segment f)

file_is : (bytes : List ℕ) (header segment : Element) → IsFile bytes header segment → file_of bytes ≡ whole (file_elements header segment)
unfolding file_of
file_is bytes header segment f =
    ap (λ (o : Option Element). elements bytes 0 (end_or (length bytes) o)) (segment_is bytes header segment f) ∙ ap (elements bytes 0) (file_end bytes header segment f) ∙ Holds-elements bytes 0 (length bytes) _ f.held

children_lie : (bytes : List ℕ) (header segment : Element) → IsFile bytes header segment → LiesWithin (length bytes) header × LiesWithin (length bytes) segment
children_lie bytes header segment f =
    let lie = Holds-lie bytes 0 (length bytes) (file_elements header segment) (omega arith) f.held in
    (lie.0, lie.1.0)

sound_file : (bytes : List ℕ) (clip : ClipIndex) (h : IsPlainFile bytes clip) → fault_in depth bytes FILE (whole (file_elements h.header h.segment)) ≡ None
unfolding fault_in IsSound
sound_file bytes clip h =
    let f : IsFile bytes h.header h.segment = record { held = h.file; is_header = h.is_header; is_segment = h.is_segment } in
    let known = Holds-known bytes 0 (length bytes) (file_elements h.header h.segment) h.file in
    let lie = children_lie bytes h.header h.segment f in
    let header : element_fault 4 bytes FILE h.header ≡ None = master_sound 4 bytes FILE EBML h.header (record { known = known.0; lies = lie.0; id_is = h.is_header }) header_in_file (header_sound 3 bytes h.header lie.0 h.matroska) in
    let segment : element_fault 4 bytes FILE h.segment ≡ None = master_sound 4 bytes FILE SEGMENT h.segment (record { known = known.1.0; lies = lie.1; id_is = h.is_segment }) segment_in_file (segment_sound 0 bytes h.segment clip lie.1 h.holds) in
    first_fault-none (element_fault 4 bytes FILE) (file_elements h.header h.segment) (header, (segment, tt))

no_fault_of : (bytes : List ℕ) (clip : ClipIndex) → IsPlainFile bytes clip → fault_of bytes ≡ None
unfolding fault_of
no_fault_of bytes clip h =
    let f : IsFile bytes h.header h.segment = record { held = h.file; is_header = h.is_header; is_segment = h.is_segment } in
    rw (Holds-elements bytes 0 (length bytes) _ h.file, eq-eqb h.header.id EBML h.is_header, file_is bytes h.header h.segment f) (sound_file bytes clip h)

matroska_is : (bytes : List ℕ) (clip : ClipIndex) → IsPlainFile bytes clip → is_matroska bytes ≡ true
unfolding is_matroska
matroska_is bytes clip h =
    let f : IsFile bytes h.header h.segment = record { held = h.file; is_header = h.is_header; is_segment = h.is_segment } in
    let found : first EBML (elements bytes 0 (length bytes)) ≡ Some h.header = ap (first EBML) (Holds-elements bytes 0 (length bytes) _ h.file) ∙ first-named EBML (file_elements h.header h.segment) h.header (one_header bytes h.header h.segment f) in
    ap (has_doc_type bytes) found ∙ child_text bytes (codes "matroska") h.header DOC_TYPE h.matroska.doc_type h.matroska.one_doc_type h.matroska.text

-- ---- the blocks

segment_blocks : (bytes : List ℕ) (number time : ℕ) (segment : Element) (clip : ClipIndex) (h : IsSegment bytes segment clip) → h.number ≡ number → SameBlocks (blocks_in 4 bytes (Some number) SEGMENT time (elements_in bytes segment)) h.blocks
unfolding blocks_in
segment_blocks bytes number time segment clip h is =
    let es = h.before ++ h.tracks ∷ h.after in
    let no_cluster : eqb h.tracks.id CLUSTER ≡ false = ap (λ (n : ℕ). eqb n CLUSTER) h.is_tracks in
    let clusters : named CLUSTER es ≡ named CLUSTER h.after = named_behind CLUSTER h.before h.tracks h.after h.no_early_cluster no_cluster in
    let same = clusters_same 2 bytes h.number time es h.blocks (subst (λ (cs : List Element). AreClusters bytes h.number cs h.blocks) (sym clusters) h.clusters) in
    subst (λ (n : ℕ). SameBlocks (blocks_in 4 bytes (Some n) SEGMENT time (elements_in bytes segment)) h.blocks) is (rw (Holds-elements bytes segment.content segment.end es h.held) same)

file_blocks : (bytes : List ℕ) (clip : ClipIndex) (h : IsPlainFile bytes clip) → SameBlocks (blocks_in depth bytes (Some h.holds.number) FILE 0 (whole (file_elements h.header h.segment))) h.holds.blocks
unfolding blocks_in each_block
file_blocks bytes clip h =
    let number = h.holds.number in
    let none : element_blocks 4 bytes (Some number) FILE 0 h.header ≡ [] = as_none bytes (Some number) 0 h.header _ _ (Some kinds.Master) (ap (kind_in FILE) h.is_header ∙ header_in_file) (ap (λ (n : ℕ). blocks_in 4 bytes (Some number) n (time_in bytes 0 h.header) (elements_in bytes h.header)) h.is_header ∙ none_in_header 4 bytes (Some number) (time_in bytes 0 h.header) (elements_in bytes h.header)) in
    let those : element_blocks 4 bytes (Some number) FILE 0 h.segment ≡ blocks_in 4 bytes (Some number) SEGMENT (time_in bytes 0 h.segment) (elements_in bytes h.segment) = rw (ap (kind_in FILE) h.is_segment ∙ segment_in_file, h.is_segment) refl in
    let same = segment_blocks bytes number (time_in bytes 0 h.segment) h.segment clip h.holds refl in
    let all : element_blocks 4 bytes (Some number) FILE 0 h.header ++ (element_blocks 4 bytes (Some number) FILE 0 h.segment ++ []) ≡ blocks_in 4 bytes (Some number) SEGMENT (time_in bytes 0 h.segment) (elements_in bytes h.segment) = rw (none, those) (append-nil _) in
    subst (λ (bs : List Block). SameBlocks bs h.holds.blocks) (sym all) same

packed_is : (number : ℕ) (bs : List Block) (clip : ClipIndex) → 1 ≤ length bs → map (λ block. block.packet) bs ≡ clip.packets → packed (record { number = number; width = clip.width; height = clip.height; private = clip.private }) bs None ≡ Ok clip
packed_is number [] clip some packets = absurd (omega arith)
packed_is number (b ∷ bs) clip some packets = ap (λ (ps : List Place). Ok (record { width = clip.width; height = clip.height; private = clip.private; packets = ps })) packets

clip_is : (bytes : List ℕ) (clip : ClipIndex) (h : IsPlainFile bytes clip) (bs : List Block) → SameBlocks bs h.holds.blocks → clip_with (record { number = h.holds.number; width = clip.width; height = clip.height; private = clip.private }) bs ≡ Ok clip
unfolding clip_with
clip_is bytes clip h bs same =
    let s = h.holds in
    let count = same_count bs s.blocks same in
    let few : ltb max_frames (length bs) ≡ false = le-ltb max_frames (length bs) (omega (arith, count, s.most)) in
    rw (few, no_fault bs s.blocks 0 same s.in_order) (packed_is s.number bs clip (omega (arith, count, s.some)) (same_packets bs s.blocks same ∙ sym s.packets))

pub plain-whole : (bytes : List ℕ) (clip : ClipIndex) → IsPlainFile bytes clip → clip_of bytes ≡ Ok clip
unfolding clip_of
plain-whole bytes clip h =
    let f : IsFile bytes h.header h.segment = record { held = h.file; is_header = h.is_header; is_segment = h.is_segment } in
    rw (no_fault_of bytes clip h, matroska_is bytes clip h, segment_is bytes h.header h.segment f, track_is bytes h.segment clip h.holds, file_is bytes h.header h.segment f) (clip_is bytes clip h _ (file_blocks bytes clip h))

ok_is : (a b : ClipIndex) (r : Result ClipIndex ClipFault) → r ≡ Ok a → r ≡ Ok b → a ≡ b
ok_is a b r ha hb = cc

-- A plain file holds one clip.
pub same_clips : (bytes : List ℕ) (a b : ClipIndex) → IsPlainFile bytes a → IsPlainFile bytes b → a ≡ b
same_clips bytes a b ha hb = ok_is a b (clip_of bytes) (plain-whole bytes a ha) (plain-whole bytes b hb)
