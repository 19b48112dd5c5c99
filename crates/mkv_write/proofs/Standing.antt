-- A text that stands at a place, and the elements that it spells there.
use Rattle.std.proofs.Common.{◌≡◌, ℕ, ◌+◌, ◌-◌, List, ◌++◌, length, take, drop, sym, ap, subst, ◌∙◌, append_assoc, arith}
use Rattle.std.specs.List.{flat_map, AllByRecursion}
use Rattle.std.proofs.lemmas.List.{length-append, take_at, drop_at}
use Rattle.ebml_core.specs.Spelling.{Piece, IsPiece, spelling, element_of, elements_from, between}
use Rattle.ebml_core.specs.Listing.{Listing, Lists, EndsBeforeNext, whole}
use Rattle.ebml_core.proofs.Knowns.{lists-spelled}
use Rattle.mkv_read.specs.Elements.{content_of, next_of, elements, elements_in}
use Rattle.mkv_read.proofs.Listing.{elements-only}

-- ---- texts at places

pub record Stands (bytes : List ℕ) (from : ℕ) (text : List ℕ) : Type 0 where
  pub front : List ℕ
  pub back : List ℕ
  pub is : bytes ≡ front ++ (text ++ back)
  pub place : from ≡ length front

pub Stands-between : (bytes : List ℕ) (from to : ℕ) (text : List ℕ) → Stands bytes from text → to ≡ from + length text → between bytes from to ≡ text
Stands-between bytes from to text h end =
    let rest : drop from bytes ≡ text ++ h.back = ap (drop from) h.is ∙ drop_at h.front (text ++ h.back) from (sym h.place) in
    ap (take (to - from)) rest ∙ take_at text h.back (to - from) (omega arith)

pub Stands-front : (bytes : List ℕ) (from : ℕ) (a b : List ℕ) → Stands bytes from (a ++ b) → Stands bytes from a
Stands-front bytes from a b h =
    record { front = h.front; back = b ++ h.back; is = h.is ∙ ap (λ (x : List ℕ). h.front ++ x) (append_assoc a b h.back); place = h.place }

pub Stands-back : (bytes : List ℕ) (from : ℕ) (a b : List ℕ) → Stands bytes from (a ++ b) → Stands bytes (from + length a) b
Stands-back bytes from a b h =
    record {
      front = h.front ++ a;
      back = h.back;
      is = h.is ∙ ap (λ (x : List ℕ). h.front ++ x) (append_assoc a b h.back) ∙ sym (append_assoc h.front a (b ++ h.back));
      place = omega (arith, h.place, length-append h.front a);
    }

-- ---- elements

-- where an element's content lies
abbrev pub content_place : ℕ → Piece → ℕ
content_place start p = start + (length p.id_octets + length p.size_octets)

pub Stands-content : (bytes : List ℕ) (start : ℕ) (p : Piece) → Stands bytes start (spelling p) → Stands bytes (content_place start p) p.content
Stands-content bytes start p h =
    let behind = Stands-back bytes (start + length p.id_octets) p.size_octets p.content (Stands-back bytes start p.id_octets (p.size_octets ++ p.content) h) in
    subst (λ (n : ℕ). Stands bytes n p.content) (omega arith) behind

pub content_end : (start : ℕ) (p : Piece) → start + length (spelling p) ≡ content_place start p + length p.content
content_end start p = omega (arith, length-append p.id_octets (p.size_octets ++ p.content), length-append p.size_octets p.content)

pub content_of-spelled : (bytes : List ℕ) (start : ℕ) (p : Piece) → Stands bytes start (spelling p) → content_of bytes (element_of start p) ≡ p.content
content_of-spelled bytes start p h =
    Stands-between bytes (content_place start p) (start + length (spelling p)) p.content (Stands-content bytes start p h) (content_end start p)

-- What the text lists that stands between two places is what stands there.
pub elements-stand : (bytes : List ℕ) (from to : ℕ) (text : List ℕ) (listing : Listing) → Stands bytes from text → to ≡ from + length text → Lists (EndsBeforeNext next_of) from text listing → elements bytes from to ≡ listing
elements-stand bytes from to text listing h end listed =
    sym (elements-only bytes from to listing (subst (λ (x : List ℕ). Lists (EndsBeforeNext next_of) from x listing) (sym (Stands-between bytes from to text h end)) listed))

pub elements-spelled : (bytes : List ℕ) (from to : ℕ) (ps : List Piece) → AllByRecursion IsPiece ps → Stands bytes from (flat_map spelling ps) → to ≡ from + length (flat_map spelling ps) → elements bytes from to ≡ whole (elements_from from ps)
elements-spelled bytes from to ps each h end = elements-stand bytes from to (flat_map spelling ps) (whole (elements_from from ps)) h end (lists-spelled (EndsBeforeNext next_of) from ps each)

pub elements_in-spelled : (bytes : List ℕ) (start : ℕ) (p : Piece) (ps : List Piece) → AllByRecursion IsPiece ps → p.content ≡ flat_map spelling ps → Stands bytes start (spelling p) → elements_in bytes (element_of start p) ≡ whole (elements_from (content_place start p) ps)
elements_in-spelled bytes start p ps each is h =
    let there = subst (λ (text : List ℕ). Stands bytes (content_place start p) text) is (Stands-content bytes start p h) in
    elements-spelled bytes (content_place start p) (start + length (spelling p)) ps each there (content_end start p ∙ ap (λ (text : List ℕ). content_place start p + length text) is)
