-- The EBML header, Info and Cues, as they are read of what was written.
use Rattle.std.proofs.Common.{◌≡◌, ℕ, zero, suc, true, ◌*◌, ◌^◌, ◌<◌, ◌≤◌, List, [], ◌∷◌, ◌++◌, length, codes, Some, refl, sym, ap, subst, ◌∙◌, length-append, arith}
use Rattle.std.specs.Int.{bytes_high_first}
use Rattle.std.specs.List.{flat_map, AllByRecursion}
use Rattle.ebml_core.specs.Spelling.{Piece, IsPiece, spelling, element_of, elements_from}
use Rattle.ebml_core.specs.Listing.{Listing, whole}
use Rattle.mkv_elements.specs.declared.TheConstants.{EBML, EBML_VERSION, EBML_READ_VERSION, EBML_MAX_ID_LENGTH, EBML_MAX_SIZE_LENGTH, DOC_TYPE, DOC_TYPE_VERSION, DOC_TYPE_READ_VERSION, SEGMENT, INFO, TIMESTAMP_SCALE, MUXING_APP, WRITING_APP, CUES}
use Rattle.mkv_elements.specs.declared.table.Kind.TheVariants as kinds
use Rattle.mkv_elements.specs.declared.table.TheConstants.{FILE}
use Rattle.mkv_elements.specs.Table.{kind_in}
use Rattle.mkv_read.specs.Elements.{elements_in, first, number_of}
use Rattle.mkv_read.specs.Tracks.{is_text}
use Rattle.mkv_read.specs.Clip.{has_doc_type}
use Rattle.mkv_write.proofs.Standing.{Stands, Stands-content, content_place, elements_in-spelled}
use Rattle.mkv_write.proofs.Gathering.{Reads, ReadsOne, ReadsOne-master}
use Rattle.mkv_write.proofs.Finding.{piece_named, finds, number_of-spelled, is_text-spelled, IsLeaf, Reads-leaves}
use Rattle.mkv_write.specs.File.{element, number, size, ebml_header, info, cue_point, cue_points}
use Rattle.mkv_write.proofs.Octets.{length-bytes_high_first}
use Rattle.mkv_write.proofs.Spelled.{IsMarked, unsigned_of-high_first, written, written_number, spelling-written, IsPiece-written}

-- an element of one octet of size
pub IsPiece-short : (id_octets id : ℕ) (content : List ℕ) → id_octets ≤ 4 → IsMarked id_octets id → length content ≤ 125 → IsPiece (written id_octets id 1 content)
IsPiece-short id_octets id content few marked short = IsPiece-written id_octets id 1 content few marked (omega arith) (omega arith) (omega (arith, short))

pub IsPiece-number : (id_octets id octets value : ℕ) → id_octets ≤ 4 → IsMarked id_octets id → octets ≤ 125 → IsPiece (written_number id_octets id octets value)
IsPiece-number id_octets id octets value few marked short =
    IsPiece-short id_octets id (bytes_high_first octets value) few marked (omega (arith, length-bytes_high_first octets value))

-- an unsigned number among elements
pub number_in : (bytes : List ℕ) (start : ℕ) (ps : List Piece) (id id_octets octets value : ℕ) → Stands bytes start (flat_map spelling ps) → piece_named id ps ≡ Some (written_number id_octets id octets value) → octets ≤ 8 → value < 256 ^ octets → number_of bytes (first id (whole (elements_from start ps))) ≡ value
number_in bytes start ps id id_octets octets value h named short fits =
    let p = written_number id_octets id octets value in
    let f = finds bytes start ps id p h named in
    ap (number_of bytes) f.found ∙ number_of-spelled bytes f.place p f.stands (omega (arith, length-bytes_high_first octets value)) ∙ unsigned_of-high_first octets value fits

-- ---- the EBML header

abbrev header_pieces : List Piece
header_pieces = written_number 2 EBML_VERSION 1 1 ∷ written_number 2 EBML_READ_VERSION 1 1 ∷ written_number 2 EBML_MAX_ID_LENGTH 1 4 ∷ written_number 2 EBML_MAX_SIZE_LENGTH 1 8
    ∷ written 2 DOC_TYPE 1 (codes "matroska") ∷ written_number 2 DOC_TYPE_VERSION 1 4 ∷ written_number 2 DOC_TYPE_READ_VERSION 1 2 ∷ []

abbrev pub header_piece : Piece
header_piece = written 4 EBML 1 (flat_map spelling header_pieces)

pub spelling-header : spelling header_piece ≡ ebml_header
unfolding ebml_header element number size
spelling-header = refl

ArePieces-header : AllByRecursion IsPiece header_pieces
ArePieces-header = (
  IsPiece-number 2 EBML_VERSION 1 1 (omega arith) (omega arith) (omega arith),
  (
    IsPiece-number 2 EBML_READ_VERSION 1 1 (omega arith) (omega arith) (omega arith),
    (
      IsPiece-number 2 EBML_MAX_ID_LENGTH 1 4 (omega arith) (omega arith) (omega arith),
      (
        IsPiece-number 2 EBML_MAX_SIZE_LENGTH 1 8 (omega arith) (omega arith) (omega arith),
        (
          IsPiece-short 2 DOC_TYPE (codes "matroska") (omega arith) (omega arith) (omega arith),
          (
            IsPiece-number 2 DOC_TYPE_VERSION 1 4 (omega arith) (omega arith) (omega arith),
            (IsPiece-number 2 DOC_TYPE_READ_VERSION 1 2 (omega arith) (omega arith) (omega arith), tt),
          ),
        ),
      ),
    ),
  ),
)

pub IsPiece-header : IsPiece header_piece
unfolding size
IsPiece-header = IsPiece-short 4 EBML (flat_map spelling header_pieces) (omega arith) (omega arith) (omega arith)

leaves-header : AllByRecursion (λ p. IsLeaf EBML p) header_pieces
unfolding kind_in
leaves-header = (tt, (tt, (tt, (tt, (tt, (tt, (tt, tt)))))))

kind-header : kind_in FILE EBML ≡ Some kinds.Master
unfolding kind_in
kind-header = refl

inside-header : (bytes : List ℕ) (start : ℕ) → Stands bytes start (spelling header_piece) → elements_in bytes (element_of start header_piece) ≡ whole (elements_from (content_place start header_piece) header_pieces)
inside-header bytes start h = elements_in-spelled bytes start header_piece header_pieces ArePieces-header refl h

pub header_read : (levels : ℕ) (bytes : List ℕ) (start : ℕ) → Stands bytes start (spelling header_piece) → ReadsOne (suc levels) bytes FILE 0 (element_of start header_piece) []
header_read levels bytes start h =
    let leaves = Reads-leaves levels bytes EBML 0 (content_place start header_piece) header_pieces leaves-header in
    ReadsOne-master (suc levels) bytes FILE 0 (element_of start header_piece) [] refl kind-header (subst (λ (w : Listing). Reads (suc levels) bytes EBML 0 w []) (sym (inside-header bytes start h)) leaves)

pub has_doc_type-written : (bytes : List ℕ) (start : ℕ) → Stands bytes start (spelling header_piece) → has_doc_type bytes (Some (element_of start header_piece)) ≡ true
has_doc_type-written bytes start h =
    let f = finds bytes (content_place start header_piece) header_pieces DOC_TYPE (written 2 DOC_TYPE 1 (codes "matroska")) (Stands-content bytes start header_piece h) refl in
    ap (λ (w : Listing). is_text bytes (codes "matroska") (first DOC_TYPE w)) (inside-header bytes start h)
    ∙ ap (is_text bytes (codes "matroska")) f.found
    ∙ is_text-spelled bytes (codes "matroska") f.place (written 2 DOC_TYPE 1 (codes "matroska")) f.stands

-- ---- Info and Cues, which are passed over

abbrev info_content : List ℕ
info_content = number 3 TIMESTAMP_SCALE 3 1000000 ++ element 2 MUXING_APP 1 (codes "ffv1-timeline") ++ element 2 WRITING_APP 1 (codes "ffv1-timeline")

abbrev pub info_piece : Piece
info_piece = written 4 INFO 1 info_content

pub spelling-info : spelling info_piece ≡ info
unfolding info
spelling-info = spelling-written 4 INFO 1 info_content

pub IsPiece-info : IsPiece info_piece
unfolding number element size
IsPiece-info = IsPiece-short 4 INFO info_content (omega arith) (omega arith) (omega arith)

pub leaf-info : IsLeaf SEGMENT info_piece
unfolding kind_in
leaf-info = tt

length-cue_point : (time place : ℕ) → length (cue_point time place) ≡ 27
unfolding cue_point element number size
length-cue_point time place = refl

length-cue_points : (lead rate : ℕ) (packets : List (List ℕ)) (count : ℕ) → length (cue_points lead rate packets count) ≡ count * 27
unfolding cue_points
length-cue_points lead rate packets zero = refl
length-cue_points lead rate packets (suc index) = simp length-append (omega (arith, length-cue_points lead rate packets index, length-cue_point))

abbrev pub cues_piece : (lead rate : ℕ) (packets : List (List ℕ)) (count : ℕ) → Piece
cues_piece lead rate packets count = written 4 CUES 8 (cue_points lead rate packets count)

pub IsPiece-cues : (lead rate : ℕ) (packets : List (List ℕ)) (count : ℕ) → count ≤ 1000000 → IsPiece (cues_piece lead rate packets count)
IsPiece-cues lead rate packets count few =
    IsPiece-written 4 CUES 8 (cue_points lead rate packets count) (omega arith) (omega arith) (omega arith) (omega arith) (omega (arith, length-cue_points lead rate packets count))

pub leaf-cues : (lead rate : ℕ) (packets : List (List ℕ)) (count : ℕ) → IsLeaf SEGMENT (cues_piece lead rate packets count)
unfolding kind_in
leaf-cues lead rate packets count = tt
