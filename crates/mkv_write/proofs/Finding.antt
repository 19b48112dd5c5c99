-- What is looked up among elements that stand spelled, and what is passed over.
use Rattle.std.proofs.Common.{◌≡◌, ℕ, suc, Bool, true, false, cond, eqb, ltb, ◌+◌, ◌≤◌, List, [], ◌∷◌, ◌++◌, length, Option, Some, None, refl, sym, ap, subst, ◌∙◌, append_assoc, length-append, arith}
use Rattle.std.specs.List.{flat_map, AllByRecursion}
use Rattle.std.specs.Str.{bytes_eq}
use Rattle.std.proofs.lemmas.Bool.{le-ltb}
use Rattle.ebml_core.specs.declared.element.Element.{Element}
use Rattle.ebml_core.specs.Spelling.{unsigned_of, Piece, spelling, element_of, elements_from}
use Rattle.ebml_core.specs.Listing.{Listing, whole}
use Rattle.mkv_elements.specs.declared.table.Kind.{Kind}
use Rattle.mkv_elements.specs.declared.table.Kind.TheVariants as kinds
use Rattle.mkv_elements.specs.Table.{kind_in}
use Rattle.mkv_read.specs.Elements.{text_of}
use Rattle.mkv_read.specs.Elements.{first_where, first, number_of}
use Rattle.mkv_read.specs.Tracks.{is_text}
use Rattle.mkv_write.proofs.Standing.{Stands, Stands-front, Stands-back, content_end, content_of-spelled}
use Rattle.mkv_write.proofs.Gathering.{Reads, ReadsOne, Reads-ends, Reads-gives, ReadsOne-passed, ReadsOne-text, ReadsOne-binary, ReadsOne-unsigned}

-- ---- looking up

-- the first piece of an id
abbrev pub piece_named : ℕ → List Piece → Option Piece
piece_named id [] = None
piece_named id (p ∷ ps) = cond (eqb p.id id) (Some p) (piece_named id ps)

pub record Finds (bytes : List ℕ) (es : Listing) (id : ℕ) (p : Piece) : Type 0 where
  pub place : ℕ
  pub found : first id es ≡ Some (element_of place p)
  pub stands : Stands bytes place (spelling p)

first-here : (id start : ℕ) (q : Piece) (qs : List Piece) → eqb q.id id ≡ true → first id (whole (elements_from start (q ∷ qs))) ≡ Some (element_of start q)
unfolding first_where
first-here id start q qs here = rw here refl

first-later : (id start : ℕ) (q : Piece) (qs : List Piece) → eqb q.id id ≡ false → first id (whole (elements_from start (q ∷ qs))) ≡ first id (whole (elements_from (start + length (spelling q)) qs))
unfolding first_where
first-later id start q qs there = rw there refl

pub finds : (bytes : List ℕ) (start : ℕ) (ps : List Piece) (id : ℕ) (p : Piece) → Stands bytes start (flat_map spelling ps) → piece_named id ps ≡ Some p → Finds bytes (whole (elements_from start ps)) id p
finds bytes start [] id p h is = absurd cc
finds bytes start (q ∷ qs) id p h is = by_test (eqb q.id id) refl is (λ later. finds bytes (start + length (spelling q)) qs id p (Stands-back bytes start (spelling q) (flat_map spelling qs) h) later)
  where
    by_test : (here : Bool) → eqb q.id id ≡ here → cond here (Some q) (piece_named id qs) ≡ Some p → (piece_named id qs ≡ Some p → Finds bytes (whole (elements_from (start + length (spelling q)) qs)) id p) → Finds bytes (whole (elements_from start (q ∷ qs))) id p
    by_test true here is go =
        let same : q ≡ p = cc in
        record {
          place = start;
          found = first-here id start q qs here ∙ ap (λ (x : Piece). Some (element_of start x)) same;
          stands = subst (λ (x : Piece). Stands bytes start (spelling x)) same (Stands-front bytes start (spelling q) (flat_map spelling qs) h);
        }
    by_test false there is go =
        let f = go is in
        record { place = f.place; found = first-later id start q qs there ∙ f.found; stands = f.stands }

pub finds_none : (start : ℕ) (ps : List Piece) (id : ℕ) → piece_named id ps ≡ None → first id (whole (elements_from start ps)) ≡ None
unfolding first_where
finds_none start [] id is = refl
finds_none start (q ∷ qs) id is = by_test (eqb q.id id) is (λ later. finds_none (start + length (spelling q)) qs id later)
  where
    by_test : (here : Bool) → cond here (Some q) (piece_named id qs) ≡ None → (piece_named id qs ≡ None → first id (whole (elements_from (start + length (spelling q)) qs)) ≡ None) → cond here (Some (element_of start q)) (first id (whole (elements_from (start + length (spelling q)) qs))) ≡ None
    by_test true is go = absurd cc
    by_test false is go = go is

pub number_of-spelled : (bytes : List ℕ) (place : ℕ) (p : Piece) → Stands bytes place (spelling p) → length p.content ≤ 8 → number_of bytes (Some (element_of place p)) ≡ unsigned_of p.content
number_of-spelled bytes place p h short =
    ap (λ (content : List ℕ). cond (ltb 8 (length content)) 0 (unsigned_of content)) (content_of-spelled bytes place p h) ∙ rw (le-ltb 8 (length p.content) short) refl

pub is_text-spelled : (bytes text : List ℕ) (place : ℕ) (p : Piece) → Stands bytes place (spelling p) → is_text bytes text (Some (element_of place p)) ≡ bytes_eq (text_of p.content) text
is_text-spelled bytes text place p h = ap (λ (content : List ℕ). bytes_eq (text_of content) text) (content_of-spelled bytes place p h)

-- ---- passing over

-- an element that has no blocks, read as this, and no fault
abbrev pub LeafAs : Piece → Option Kind → Type 0
LeafAs p None = Unit {0}
LeafAs p (Some kinds.Text) = Unit {0}
LeafAs p (Some kinds.Binary) = Unit {0}
LeafAs p (Some kinds.Unsigned) = length p.content ≤ 8
LeafAs p (Some kinds.Master) = ⊥
LeafAs p (Some kinds.Block) = ⊥

abbrev pub IsLeaf : ℕ → Piece → Type 0
IsLeaf parent p = LeafAs p (kind_in parent p.id)

pub ReadsOne-leaf : (levels : ℕ) (bytes : List ℕ) (parent time start : ℕ) (p : Piece) → IsLeaf parent p → ReadsOne levels bytes parent time (element_of start p) []
ReadsOne-leaf levels bytes parent time start p leaf = by_kind (kind_in parent p.id) refl leaf
  where
    by_kind : (kind : Option Kind) → kind_in parent p.id ≡ kind → LeafAs p kind → ReadsOne levels bytes parent time (element_of start p) []
    by_kind None is leaf = ReadsOne-passed levels bytes parent time (element_of start p) refl is
    by_kind (Some kinds.Text) is leaf = ReadsOne-text levels bytes parent time (element_of start p) refl is
    by_kind (Some kinds.Binary) is leaf = ReadsOne-binary levels bytes parent time (element_of start p) refl is
    by_kind (Some kinds.Unsigned) is leaf = ReadsOne-unsigned levels bytes parent time (element_of start p) refl is (omega (arith, content_end start p, leaf))
    by_kind (Some kinds.Master) is leaf = absurd leaf
    by_kind (Some kinds.Block) is leaf = absurd leaf

pub Reads-leaves : (levels : ℕ) (bytes : List ℕ) (parent time start : ℕ) (ps : List Piece) → AllByRecursion (λ p. IsLeaf parent p) ps → Reads (suc levels) bytes parent time (whole (elements_from start ps)) []
Reads-leaves levels bytes parent time start [] each = Reads-ends levels bytes parent time
Reads-leaves levels bytes parent time start (p ∷ ps) each =
    Reads-gives levels bytes parent time (element_of start p) (whole (elements_from (start + length (spelling p)) ps)) [] [] (ReadsOne-leaf levels bytes parent time start p each.0) (Reads-leaves levels bytes parent time (start + length (spelling p)) ps each.1)

-- ---- pieces behind others

pub elements_from-append : (start : ℕ) (ps qs : List Piece) → elements_from start (ps ++ qs) ≡ elements_from start ps ++ elements_from (start + length (flat_map spelling ps)) qs
elements_from-append start [] qs = ap (λ (n : ℕ). elements_from n qs) (omega arith)
elements_from-append start (p ∷ ps) qs =
    let len = length-append (spelling p) (flat_map spelling ps) in
    ap (λ (es : List Element). element_of start p ∷ es) (elements_from-append (start + length (spelling p)) ps qs ∙ ap (λ (n : ℕ). elements_from (start + length (spelling p)) ps ++ elements_from n qs) (omega (arith, len)))

pub flat_map-append : (ps qs : List Piece) → flat_map spelling (ps ++ qs) ≡ flat_map spelling ps ++ flat_map spelling qs
flat_map-append [] qs = refl
flat_map-append (p ∷ ps) qs =
    ap (λ (x : List ℕ). spelling p ++ x) (flat_map-append ps qs) ∙ sym (append_assoc (spelling p) (flat_map spelling ps) (flat_map spelling qs))

pub AllPieces-append : (P : Piece → Type 0) (ps qs : List Piece) → AllByRecursion P ps → AllByRecursion P qs → AllByRecursion P (ps ++ qs)
AllPieces-append P [] qs first second = second
AllPieces-append P (p ∷ ps) qs first second = (first.0, AllPieces-append P ps qs first.1 second)
