-- The Segment, whose size is unknown, and the file's two elements.
use Rattle.std.proofs.Common.{◌≡◌, inr, ℕ, true, ◌+◌, ◌-◌, ◌^◌, List, [], ◌++◌, length, Option, Some, refl, sym, ap, subst, ◌∙◌, append_assoc, length-append, arith}
use Rattle.std.proofs.lemmas.List.{append-nil}
use Rattle.std.specs.Int.{bytes_high_first}
use Rattle.ebml_core.specs.declared.vint.Size.TheVariants.{Unknown}
use Rattle.ebml_core.specs.declared.element.Element.{Element}
use Rattle.ebml_core.specs.Spelling.{unsigned_of, size_of, IsId, IsSize, Piece, spelling, element_of}
use Rattle.ebml_core.specs.Listing.{gives, ends, Begins, Lists, EndsBeforeNext}
use Rattle.ebml_core.proofs.Knowns.{piece-begins}
use Rattle.mkv_elements.specs.declared.TheConstants.{SEGMENT}
use Rattle.mkv_read.specs.Elements.{next_of, elements, first_where, first}
use Rattle.mkv_read.proofs.Listing.{ends-last}
use Rattle.mkv_read.specs.Clip.{segment_of, end_or, file_of}
use Rattle.mkv_write.proofs.Standing.{Stands, Stands-back, elements-stand}
use Rattle.mkv_write.specs.File.{size, segment_head}
use Rattle.mkv_write.proofs.Spelled.{IsVint-high_first, unsigned_of-high_first}
use Rattle.mkv_write.proofs.Parts.{header_piece, IsPiece-header}

-- ---- an element of unknown size

-- where an element of unknown size lies that reaches over so many octets
abbrev unknown_element : (id start octets len : ℕ) → Element
unknown_element id start octets len = record { id = id; start = start; content = start + octets; end = start + len; unknown = true }

-- ---- the Segment's head

id-segment : IsId (bytes_high_first 4 SEGMENT) SEGMENT
id-segment = (IsVint-high_first 4 4 SEGMENT (omega arith) (omega arith) (omega arith), sym (unsigned_of-high_first 4 SEGMENT (omega arith)))

size-segment : IsSize (size 8 (2 ^ 56 - 1)) Unknown
unfolding size size_of unsigned_of
size-segment = (IsVint-high_first 8 8 (2 ^ 56 + (2 ^ 56 - 1)) (omega arith) (omega arith) (omega arith), refl)

abbrev pub segment_element : (start len : ℕ) → Element
segment_element start len = unknown_element SEGMENT start 12 len

pub length-segment_head : length segment_head ≡ 12
unfolding segment_head size
length-segment_head = refl

octets-segment : length (bytes_high_first 4 SEGMENT) + length (size 8 (2 ^ 56 - 1)) ≡ 12
unfolding size
octets-segment = refl

segment_piece : List ℕ → Piece
segment_piece body = record { id_octets = bytes_high_first 4 SEGMENT; size_octets = size 8 (2 ^ 56 - 1); id = SEGMENT; size = Unknown; content = body }

-- A Segment of unknown size reaches to the end of what it stands in.
begins-segment : (start : ℕ) (body : List ℕ) → Begins (EndsBeforeNext next_of) start (segment_head ++ body) (segment_element start (length (segment_head ++ body))) []
unfolding segment_head segment_piece
begins-segment start body =
    let p = segment_piece body in
    let text = segment_head ++ body in
    let regrouped : text ≡ spelling p = append_assoc (bytes_high_first 4 SEGMENT) (size 8 (2 ^ 56 - 1)) body in
    record {
      piece = p;
      spelled = regrouped ∙ sym (append-nil (spelling p));
      is = inr (
        record { id = id-segment; size = size-segment },
        ap (λ (n : ℕ). record { id = SEGMENT; start = start; content = start + n; end = start + length text; unknown = true }) (sym octets-segment) ∙ ap (λ (t : List ℕ). record { id = SEGMENT; start = start; content = start + (length (bytes_high_first 4 SEGMENT) + length (size 8 (2 ^ 56 - 1))); end = start + length t; unknown = true }) regrouped,
        ends-last (start + 12) body,
      );
    }

-- ---- the file

-- a file that is an EBML header as it is written, and a Segment with this content
pub record IsFile (bytes body : List ℕ) : Type 0 where
  pub is : bytes ≡ spelling header_piece ++ (segment_head ++ body)

-- where the Segment starts
abbrev pub segment_start : ℕ
segment_start = 0 + length (spelling header_piece)

abbrev pub header_of : Element
header_of = element_of 0 header_piece

abbrev pub segment_in : List ℕ → Element
segment_in body = segment_element segment_start (length (segment_head ++ body))

pub stands-file : (bytes body : List ℕ) → IsFile bytes body → Stands bytes 0 (spelling header_piece ++ (segment_head ++ body))
stands-file bytes body f = record { front = []; back = []; is = f.is ∙ sym (append-nil (spelling header_piece ++ (segment_head ++ body))); place = refl }

stands-segment : (bytes body : List ℕ) → IsFile bytes body → Stands bytes segment_start (segment_head ++ body)
stands-segment bytes body f = Stands-back bytes 0 (spelling header_piece) (segment_head ++ body) (stands-file bytes body f)

pub stands-body : (bytes body : List ℕ) → IsFile bytes body → Stands bytes (segment_start + 12) body
stands-body bytes body f =
    subst (λ (n : ℕ). Stands bytes (segment_start + n) body) length-segment_head (Stands-back bytes segment_start segment_head body (stands-segment bytes body f))

length-file : (bytes body : List ℕ) → IsFile bytes body → length bytes ≡ segment_start + length (segment_head ++ body)
length-file bytes body f = ap length f.is ∙ length-append (spelling header_piece) (segment_head ++ body) ∙ omega arith

lists-file : (body : List ℕ) → Lists (EndsBeforeNext next_of) 0 (spelling header_piece ++ (segment_head ++ body)) (gives header_of (gives (segment_in body) ends))
lists-file body =
    (segment_head ++ body, piece-begins (EndsBeforeNext next_of) 0 header_piece (segment_head ++ body) IsPiece-header, ([], begins-segment segment_start body, refl))

pub elements-file : (bytes body : List ℕ) → IsFile bytes body → elements bytes 0 (length bytes) ≡ gives header_of (gives (segment_in body) ends)
elements-file bytes body f =
    elements-stand bytes 0 (length bytes) (spelling header_piece ++ (segment_head ++ body)) (gives header_of (gives (segment_in body) ends)) (stands-file bytes body f) (ap length f.is ∙ omega arith) (lists-file body)

pub segment_of-file : (bytes body : List ℕ) → IsFile bytes body → segment_of bytes ≡ Some (segment_in body)
unfolding segment_of first_where
segment_of-file bytes body f = ap (first SEGMENT) (elements-file bytes body f)

pub file_of-file : (bytes body : List ℕ) → IsFile bytes body → file_of bytes ≡ gives header_of (gives (segment_in body) ends)
unfolding file_of
file_of-file bytes body f =
    ap (λ (o : Option Element). elements bytes 0 (end_or (length bytes) o)) (segment_of-file bytes body f) ∙ ap (elements bytes 0) (sym (length-file bytes body f)) ∙ elements-file bytes body f
