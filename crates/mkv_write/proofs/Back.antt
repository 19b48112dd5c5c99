-- What was written is read back.
use Rattle.std.proofs.Common.{◌≡◌, ℕ, Bool, true, cond, ◌+◌, ◌*◌, ◌≤◌, List, [], ◌∷◌, ◌++◌, length, map, Option, Some, None, Result, Ok, refl, sym, ap, subst, ◌∙◌, append_assoc, length-append, arith}
use Rattle.std.proofs.lemmas.Bool.{le-ltb}
use Rattle.std.proofs.lemmas.List.{append-nil, take_all}
use Rattle.std.specs.List.{flat_map, AllByRecursion}
use Rattle.ebml_core.specs.declared.element.Element.{Element}
use Rattle.ebml_core.specs.Spelling.{Piece, IsPiece, spelling, element_of, elements_from}
use Rattle.ebml_core.specs.Listing.{Listing, gives, ends, whole}
use Rattle.mkv_elements.specs.declared.TheConstants.{EBML, SEGMENT, TRACKS, TRACK_ENTRY, CUES}
use Rattle.mkv_elements.specs.declared.table.Kind.TheVariants as kinds
use Rattle.mkv_elements.specs.declared.table.TheConstants.{FILE}
use Rattle.mkv_elements.specs.Table.{kind_in}
use Rattle.mkv_read.specs.declared.clip.Place.{Place}
use Rattle.mkv_read.specs.declared.clip.ClipIndex.{ClipIndex}
use Rattle.mkv_read.specs.declared.fault.ClipFault.{ClipFault}
use Rattle.mkv_read.specs.declared.track.Track.{Track}
use Rattle.mkv_read.specs.declared.block.Block.{Block}
use Rattle.mkv_read.specs.Elements.{elements_in, first_where, first}
use Rattle.mkv_read.specs.Faults.{fault_in}
use Rattle.mkv_read.specs.Blocks.{blocks_in, block_fault, fault_after}
use Rattle.mkv_read.specs.Tracks.{track_in, track_of}
use Rattle.mkv_read.specs.Clip.{segment_of, file_of, begins_with, fault_of, has_doc_type, is_matroska, clip_with, clip_of}
use Rattle.mkv_write.proofs.Standing.{Stands, Stands-front, Stands-back, Stands-between, elements-spelled}
use Rattle.mkv_write.proofs.Gathering.{Reads, ReadsOne, Reads-ends, Reads-gives, Reads-append, ReadsOne-master}
use Rattle.mkv_write.proofs.Finding.{finds, ReadsOne-leaf, Reads-leaves, elements_from-append, flat_map-append, AllPieces-append}
use Rattle.mkv_write.specs.File.{frame_time, ebml_header, segment_head, info, track, lead, head, element, clusters, cluster_count, cue_points, cues, mkv}
use Rattle.mkv_write.specs.Writing as writing
use Rattle.mkv_write.specs.Law.{IsWritable, bytes_at, IsReadBack}
use Rattle.mkv_write.proofs.Frames.{AreFrames, AreShort, cluster_pieces, spelling-clusters, ArePieces-clusters, frames-clusters}
use Rattle.mkv_write.proofs.Parts.{header_piece, spelling-header, header_read, has_doc_type-written, info_piece, spelling-info, IsPiece-info, leaf-info, cues_piece, IsPiece-cues, leaf-cues}
use Rattle.mkv_write.proofs.Segment.{length-segment_head, IsFile, segment_start, header_of, segment_in, stands-file, stands-body, elements-file, segment_of-file, file_of-file}
use Rattle.mkv_write.proofs.Spelled.{spelling-written}
use Rattle.mkv_write.proofs.Tracks.{tracks_piece, spelling-tracks, IsPiece-tracks, tracks_read, place_at, track_read}
use Rattle.mkv_write.proofs.Times.{frame_time-le}

-- ---- what the file is made of

abbrev late_pieces : (lead_length rate : ℕ) (packets : List (List ℕ)) (count : ℕ) → List Piece
late_pieces lead_length rate packets count = cluster_pieces rate packets count ++ cues_piece lead_length rate packets count ∷ []

abbrev segment_pieces : (private : List ℕ) (width height lead_length rate : ℕ) (packets : List (List ℕ)) (count : ℕ) → List Piece
segment_pieces private width height lead_length rate packets count = info_piece ∷ tracks_piece private width height ∷ late_pieces lead_length rate packets count

six : (a b i t c u : List ℕ) → ((a ++ b ++ (i ++ t)) ++ c) ++ u ≡ a ++ (b ++ (i ++ (t ++ (c ++ u))))
six a b i t c u = simp append_assoc

six_are : (a b i t c u a' i' t' x : List ℕ) → a' ≡ a → i' ≡ i → t' ≡ t → x ≡ c ++ u → ((a ++ b ++ (i ++ t)) ++ c) ++ u ≡ a' ++ (b ++ (i' ++ (t' ++ x)))
six_are a b i t c u a' i' t' x p q r s = cc (six a b i t c u)

spelling-late : (lead_length rate : ℕ) (packets : List (List ℕ)) (count : ℕ) → flat_map spelling (late_pieces lead_length rate packets count) ≡ clusters rate packets count ++ cues lead_length rate packets count
unfolding cues
spelling-late lead_length rate packets count =
    let p = cues_piece lead_length rate packets count in
    flat_map-append (cluster_pieces rate packets count) (p ∷ [])
    ∙ ap (λ (x : List ℕ). x ++ (spelling p ++ [])) (spelling-clusters rate packets count)
    ∙ ap (λ (x : List ℕ). clusters rate packets count ++ x) (append-nil (spelling p) ∙ spelling-written 4 CUES 8 (cue_points lead_length rate packets count))

lead-is : (private : List ℕ) (width height : ℕ) → lead private width height ≡ info ++ element 4 TRACKS 4 (element 1 TRACK_ENTRY 4 (track private width height))
unfolding lead
lead-is private width height = refl

mkv-is : (private : List ℕ) (width height rate : ℕ) (packets : List (List ℕ)) → mkv private width height rate packets ≡ spelling header_piece ++ (segment_head ++ flat_map spelling (segment_pieces private width height (length (lead private width height)) rate packets (cluster_count (length packets))))
unfolding mkv head
mkv-is private width height rate packets =
    let lead_length = length (lead private width height) in
    let count = cluster_count (length packets) in
    let leading : lead private width height ≡ info ++ element 4 TRACKS 4 (element 1 TRACK_ENTRY 4 (track private width height)) = lead-is private width height in
    ap (λ (x : List ℕ). (ebml_header ++ segment_head ++ x) ++ clusters rate packets count ++ cues lead_length rate packets count) leading
    ∙ six_are ebml_header segment_head info (element 4 TRACKS 4 (element 1 TRACK_ENTRY 4 (track private width height))) (clusters rate packets count) (cues lead_length rate packets count)
    (spelling header_piece) (spelling info_piece) (spelling (tracks_piece private width height)) (flat_map spelling (late_pieces lead_length rate packets count))
    spelling-header spelling-info (spelling-tracks private width height) (spelling-late lead_length rate packets count)

-- ---- the Segment

kind-segment : kind_in FILE SEGMENT ≡ Some kinds.Master
unfolding kind_in
kind-segment = refl

-- what is read of the Segment's elements, and of the file's
record ReadsSegment (bytes : List ℕ) (rate : ℕ) (packets : List (List ℕ)) (start : ℕ) (pieces : List Piece) : Type 0 where
  found : List Block
  reads : Reads 4 bytes SEGMENT 0 (whole (elements_from start pieces)) found
  are : AreFrames bytes rate 0 packets found

reads_late : (bytes : List ℕ) (start lead_length rate : ℕ) (packets : List (List ℕ)) (count : ℕ) → 1 ≤ rate → rate ≤ 240 → length packets ≤ 1000000 → 25 * count ≤ length packets + 24 → length packets ≤ 25 * count → AreShort packets → Stands bytes start (flat_map spelling (late_pieces lead_length rate packets count)) → ReadsSegment bytes rate packets start (late_pieces lead_length rate packets count)
reads_late bytes start lead_length rate packets count above most limit counts all short h =
    let cs = cluster_pieces rate packets count in
    let p = cues_piece lead_length rate packets count in
    let later = start + length (flat_map spelling cs) in
    let split = subst (λ (text : List ℕ). Stands bytes start text) (flat_map-append cs (p ∷ [])) h in
    let frames = frames-clusters 2 bytes start rate packets count above most limit counts short (Stands-front bytes start (flat_map spelling cs) (spelling p ++ []) split) in
    let last = Reads-leaves 3 bytes SEGMENT 0 later (p ∷ []) (leaf-cues lead_length rate packets count, tt) in
    let both = Reads-append 3 bytes SEGMENT 0 (elements_from start cs) (elements_from later (p ∷ [])) frames.found [] frames.reads last in
    record {
      found = frames.found;
      reads = subst (λ (bs : List Block). Reads 4 bytes SEGMENT 0 (whole (elements_from start (cs ++ p ∷ []))) bs) (append-nil frames.found) (subst (λ (es : List Element). Reads 4 bytes SEGMENT 0 (whole es) (frames.found ++ [])) (sym (elements_from-append start cs (p ∷ []))) both);
      are = subst (λ (xs : List (List ℕ)). AreFrames bytes rate 0 xs frames.found) (take_all (25 * count) packets all) frames.are;
    }

reads_segment : (bytes : List ℕ) (start : ℕ) (private : List ℕ) (width height lead_length rate : ℕ) (packets : List (List ℕ)) (count : ℕ) → length private ≤ 65536 → 1 ≤ rate → rate ≤ 240 → length packets ≤ 1000000 → 25 * count ≤ length packets + 24 → length packets ≤ 25 * count → AreShort packets → Stands bytes start (flat_map spelling (segment_pieces private width height lead_length rate packets count)) → ReadsSegment bytes rate packets start (segment_pieces private width height lead_length rate packets count)
reads_segment bytes start private width height lead_length rate packets count most_private above most limit counts all short h =
    let late = late_pieces lead_length rate packets count in
    let t = tracks_piece private width height in
    let second = start + length (spelling info_piece) in
    let third = second + length (spelling t) in
    let behind = Stands-back bytes start (spelling info_piece) (spelling t ++ flat_map spelling late) h in
    let rest = reads_late bytes third lead_length rate packets count above most limit counts all short (Stands-back bytes second (spelling t) (flat_map spelling late) behind) in
    let one = tracks_read 0 bytes second private width height most_private (Stands-front bytes second (spelling t) (flat_map spelling late) behind) in
    let with_tracks = Reads-gives 3 bytes SEGMENT 0 (element_of second t) (whole (elements_from third late)) [] rest.found one rest.reads in
    record {
      found = rest.found;
      reads = Reads-gives 3 bytes SEGMENT 0 (element_of start info_piece) (whole (elements_from second (t ∷ late))) [] rest.found (ReadsOne-leaf 3 bytes SEGMENT 0 start info_piece leaf-info) with_tracks;
      are = rest.are;
    }

ArePieces-segment : (private : List ℕ) (width height lead_length rate : ℕ) (packets : List (List ℕ)) (count : ℕ) → length private ≤ 65536 → count ≤ 1000000 → AreShort packets → AllByRecursion IsPiece (segment_pieces private width height lead_length rate packets count)
ArePieces-segment private width height lead_length rate packets count most few short = (
  IsPiece-info,
  (
    IsPiece-tracks private width height most,
    AllPieces-append IsPiece (cluster_pieces rate packets count) (cues_piece lead_length rate packets count ∷ []) (ArePieces-clusters rate packets count short) (IsPiece-cues lead_length rate packets count few, tt),
  ),
)

-- ---- a file of a header and a Segment of pieces

abbrev pub body_of : List Piece → List ℕ
body_of pieces = flat_map spelling pieces

inside-segment : (bytes : List ℕ) (pieces : List Piece) → AllByRecursion IsPiece pieces → IsFile bytes (body_of pieces) → elements_in bytes (segment_in (body_of pieces)) ≡ whole (elements_from (segment_start + 12) pieces)
inside-segment bytes pieces each f =
    elements-spelled bytes (segment_start + 12) (segment_start + length (segment_head ++ body_of pieces)) pieces each (stands-body bytes (body_of pieces) f) (omega (arith, length-append segment_head (body_of pieces), length-segment_head))

reads_file : (bytes : List ℕ) (pieces : List Piece) (found : List Block) → AllByRecursion IsPiece pieces → IsFile bytes (body_of pieces) → Reads 4 bytes SEGMENT 0 (whole (elements_from (segment_start + 12) pieces)) found → Reads 5 bytes FILE 0 (gives header_of (gives (segment_in (body_of pieces)) ends)) found
reads_file bytes pieces found each f reads =
    let e = segment_in (body_of pieces) in
    let inside : Reads 4 bytes SEGMENT 0 (elements_in bytes e) found = subst (λ (w : Listing). Reads 4 bytes SEGMENT 0 w found) (sym (inside-segment bytes pieces each f)) reads in
    let one : ReadsOne 4 bytes FILE 0 e found = ReadsOne-master 4 bytes FILE 0 e found refl kind-segment inside in
    let last = Reads-gives 4 bytes FILE 0 e ends found [] one (Reads-ends 4 bytes FILE 0) in
    let plain = subst (λ (bs : List Block). Reads 5 bytes FILE 0 (gives e ends) bs) (append-nil found) last in
    Reads-gives 4 bytes FILE 0 header_of (gives e ends) [] found (header_read 3 bytes 0 (Stands-front bytes 0 (spelling header_piece) (segment_head ++ body_of pieces) (stands-file bytes (body_of pieces) f))) plain

guarded : (test : Bool) (fault other : Option ℕ) → test ≡ true → fault ≡ None → cond test fault other ≡ None
guarded test fault other is none_is = rw is none_is

fault_of-file : (bytes : List ℕ) (pieces : List Piece) (found : List Block) → IsFile bytes (body_of pieces) → Reads 5 bytes FILE 0 (gives header_of (gives (segment_in (body_of pieces)) ends)) found → fault_of bytes ≡ None
unfolding fault_of
fault_of-file bytes pieces found f reads =
    guarded _ _ _ (ap (begins_with EBML) (elements-file bytes (body_of pieces) f)) (ap (fault_in 5 bytes FILE) (file_of-file bytes (body_of pieces) f) ∙ reads.sound)

blocks-file : (bytes : List ℕ) (pieces : List Piece) (found : List Block) → IsFile bytes (body_of pieces) → Reads 5 bytes FILE 0 (gives header_of (gives (segment_in (body_of pieces)) ends)) found → blocks_in 5 bytes (Some 1) FILE 0 (file_of bytes) ≡ found
blocks-file bytes pieces found f reads = ap (blocks_in 5 bytes (Some 1) FILE 0) (file_of-file bytes (body_of pieces) f) ∙ reads.blocks_are

is_matroska-file : (bytes : List ℕ) (pieces : List Piece) → IsFile bytes (body_of pieces) → is_matroska bytes ≡ true
unfolding is_matroska first_where
is_matroska-file bytes pieces f =
    ap (λ (w : Listing). has_doc_type bytes (first EBML w)) (elements-file bytes (body_of pieces) f)
    ∙ has_doc_type-written bytes 0 (Stands-front bytes 0 (spelling header_piece) (segment_head ++ body_of pieces) (stands-file bytes (body_of pieces) f))

-- ---- the packets

length-frames : (bytes : List ℕ) (rate frame : ℕ) (packets : List (List ℕ)) (bs : List Block) → AreFrames bytes rate frame packets bs → length bs ≡ length packets
length-frames bytes rate frame [] bs are = ap length are
length-frames bytes rate frame (packet ∷ packets) [] are = absurd are
length-frames bytes rate frame (packet ∷ packets) (b ∷ bs) are = let rest = length-frames bytes rate (frame + 1) packets bs are.1 in omega (arith, rest)

fault_after-frames : (last : ℕ) (bytes : List ℕ) (rate frame : ℕ) (packets : List (List ℕ)) (bs : List Block) → 1 ≤ rate → last ≤ frame_time rate frame + 32768 → AreFrames bytes rate frame packets bs → fault_after last bs ≡ None
unfolding fault_after block_fault
fault_after-frames last bytes rate frame [] bs above le are = ap (fault_after last) are
fault_after-frames last bytes rate frame (packet ∷ packets) [] above le are = absurd are
fault_after-frames last bytes rate frame (packet ∷ packets) (b ∷ bs) above le are =
    let rest = fault_after-frames b.time bytes rate (frame + 1) packets bs above (omega (arith, are.0.time, frame_time-le rate frame (frame + 1) above (omega arith))) are.1 in
    rw (are.0.unlaced, le-ltb b.time last (omega (arith, le, are.0.time))) rest

packets_back : (bytes : List ℕ) (rate frame : ℕ) (packets : List (List ℕ)) (bs : List Block) → AreFrames bytes rate frame packets bs → map (bytes_at bytes) (map (λ block. block.packet) bs) ≡ packets
packets_back bytes rate frame [] bs are = ap (λ (x : List Block). map (bytes_at bytes) (map (λ block. block.packet) x)) are
packets_back bytes rate frame (packet ∷ packets) [] are = absurd are
packets_back bytes rate frame (packet ∷ packets) (b ∷ bs) are =
    let one : bytes_at bytes b.packet ≡ packet = Stands-between bytes b.packet.from (b.packet.from + b.packet.len) packet are.0.stands (omega (arith, are.0.len)) in
    ap (λ (x : List ℕ). x ∷ map (bytes_at bytes) (map (λ block. block.packet) bs)) one ∙ ap (λ (xs : List (List ℕ)). packet ∷ xs) (packets_back bytes rate (frame + 1) packets bs are.1)

abbrev clip_of_parts : (width height : ℕ) (private : Place) (packets : List Place) → ClipIndex
clip_of_parts width height private packets = record { width = width; height = height; private = private; packets = packets }

abbrev ok_clip : ClipIndex → Result ClipIndex ClipFault
ok_clip clip = Ok clip

clip_with-frames : (t : Track) (bytes : List ℕ) (rate : ℕ) (packets : List (List ℕ)) (bs : List Block) → 1 ≤ rate → 1 ≤ length packets → length packets ≤ 1000000 → AreFrames bytes rate 0 packets bs → clip_with t bs ≡ ok_clip (clip_of_parts t.width t.height t.private (map (λ block. block.packet) bs))
unfolding clip_with
clip_with-frames t bytes rate [] bs above some most are = absurd (omega arith)
clip_with-frames t bytes rate (packet ∷ packets) [] above some most are = absurd are
clip_with-frames t bytes rate (packet ∷ packets) (b ∷ bs) above some most are =
    let len = length-frames bytes rate 0 (packet ∷ packets) (b ∷ bs) are in
    rw (le-ltb 1000000 (length (b ∷ bs)) (omega (arith, len, most)), fault_after-frames 0 bytes rate 0 (packet ∷ packets) (b ∷ bs) above (omega arith) are) refl

-- ---- the law

clip_of-parts : (bytes : List ℕ) (t : Track) (clip : ClipIndex) (bs : List Block) → fault_of bytes ≡ None → is_matroska bytes ≡ true → track_of bytes (segment_of bytes) ≡ Ok t → blocks_in 5 bytes (Some t.number) FILE 0 (file_of bytes) ≡ bs → clip_with t bs ≡ Ok clip → clip_of bytes ≡ Ok clip
unfolding clip_of
clip_of-parts bytes t clip bs sound matroska track blocks made = rw (sound, matroska, track, blocks) made

track_of-segment : (bytes : List ℕ) (e : Element) → track_of bytes (Some e) ≡ track_in bytes (first TRACKS (elements_in bytes e))
unfolding track_of
track_of-segment bytes e = refl

read_back : (bytes : List ℕ) (w : writing.Writing) (lead_length count : ℕ) → IsWritable w → 25 * count ≤ length w.packets + 24 → length w.packets ≤ 25 * count → IsFile bytes (body_of (segment_pieces w.private w.width w.height lead_length w.rate w.packets count)) → IsReadBack w bytes
read_back bytes w lead_length count limits counts all f =
    let pieces = segment_pieces w.private w.width w.height lead_length w.rate w.packets count in
    let start = segment_start + 12 in
    let each = ArePieces-segment w.private w.width w.height lead_length w.rate w.packets count limits.private.1 (omega (arith, counts, limits.frames.1)) limits.packets in
    let there = stands-body bytes (body_of pieces) f in
    let segment = reads_segment bytes start w.private w.width w.height lead_length w.rate w.packets count limits.private.1 limits.rate.0 limits.rate.1 limits.frames.1 counts all limits.packets there in
    let reads = reads_file bytes pieces segment.found each f segment.reads in
    let tracks = finds bytes start pieces TRACKS (tracks_piece w.private w.width w.height) there refl in
    let t = track_read bytes tracks.place w.private w.width w.height limits.width.0 limits.width.1 limits.height.0 limits.height.1 limits.private.0 limits.private.1 tracks.stands in
    let private_at = place_at t.place (length w.private) in
    let track_is : track_of bytes (segment_of bytes) ≡ Ok (record { number = 1; width = w.width; height = w.height; private = private_at }) =
    ap (track_of bytes) (segment_of-file bytes (body_of pieces) f)
    ∙ track_of-segment bytes (segment_in (body_of pieces))
    ∙ ap (λ (walk : Listing). track_in bytes (first TRACKS walk)) (inside-segment bytes pieces each f)
    ∙ ap (track_in bytes) tracks.found
    ∙ t.is in
    let made = clip_with-frames (record { number = 1; width = w.width; height = w.height; private = private_at }) bytes w.rate w.packets segment.found limits.rate.0 limits.frames.0 limits.frames.1 segment.are in
    let places = map (λ block. block.packet) segment.found in
    record {
      clip = clip_of_parts w.width w.height private_at places;
      read = clip_of-parts bytes (record { number = 1; width = w.width; height = w.height; private = private_at }) (clip_of_parts w.width w.height private_at places) segment.found (fault_of-file bytes pieces segment.found f reads) (is_matroska-file bytes pieces f) track_is (blocks-file bytes pieces segment.found f reads) made;
      width_is = refl;
      height_is = refl;
      private_is = Stands-between bytes t.place (t.place + length w.private) w.private t.stands refl;
      packets_are = packets_back bytes w.rate 0 w.packets segment.found segment.are;
    }

pub written_back : (w : writing.Writing) → IsWritable w → IsReadBack w (writing.file_of w)
written_back w limits =
    read_back (writing.file_of w) w (length (lead w.private w.width w.height)) (cluster_count (length w.packets)) limits (omega arith) (omega arith) (record { is = mkv-is w.private w.width w.height w.rate w.packets })
