-- Elements of known size are listed where they are spelled, and spelled where they are listed.
use Rattle.std.proofs.Common.{◌≡◌, ◌⊎◌, inl, inr, ℕ, false, ◌+◌, List, [], ◌∷◌, ◌++◌, length, refl, sym, ap, ◌∙◌, subst}
use Rattle.std.proofs.lemmas.Bool.{true≢false}
use Rattle.std.specs.List.{flat_map, AllByRecursion}
use Rattle.ebml_core.specs.declared.element.Element.{Element}
use Rattle.ebml_core.specs.Spelling.{Piece, IsPiece, Spells, Holds, spelling, element_of, elements_from, between}
use Rattle.ebml_core.specs.Listing.{IsOpenPiece, open_element, Begins, Lists, whole}

-- An element of known size begins a text.
pub piece-begins : (Ends : Element → List ℕ → List ℕ → Type 0) (place : ℕ) (p : Piece) (rest : List ℕ) → IsPiece p → Begins Ends place (spelling p ++ rest) (element_of place p) rest
piece-begins Ends place p rest is = record { piece = p; spelled = refl; is = inl (is, refl) }

pub lists-spelled : (Ends : Element → List ℕ → List ℕ → Type 0) (place : ℕ) (ps : List Piece) → AllByRecursion IsPiece ps → Lists Ends place (flat_map spelling ps) (whole (elements_from place ps))
lists-spelled Ends place [] each = refl
lists-spelled Ends place (p ∷ ps) each =
    (flat_map spelling ps, piece-begins Ends place p (flat_map spelling ps) each.0, lists-spelled Ends (place + length (spelling p)) ps each.1)

-- a listed element of known size, and how it is spelled
record IsKnown (place : ℕ) (text : List ℕ) (e : Element) (rest : List ℕ) : Type 0 where
  piece : Piece
  is : IsPiece piece
  spelled : text ≡ spelling piece ++ rest
  placed : e ≡ element_of place piece

begins-known : (Ends : Element → List ℕ → List ℕ → Type 0) (place : ℕ) (text : List ℕ) (e : Element) (rest : List ℕ) → e.unknown ≡ false → Begins Ends place text e rest → IsKnown place text e rest
begins-known Ends place text e rest known b = by_kind b.is
  where
    by_kind : (IsPiece b.piece × (e ≡ element_of place b.piece)) ⊎ (IsOpenPiece b.piece × (e ≡ open_element place b.piece) × Ends e b.piece.content rest) → IsKnown place text e rest
    by_kind (inl k) = record { piece = b.piece; is = k.0; spelled = b.spelled; placed = k.1 }
    by_kind (inr opened) = absurd (true≢false (ap (λ (x : Element). x.unknown) (sym opened.1) ∙ known))

-- The text at a place is these elements of known size.
record LiesSpelled (place : ℕ) (text : List ℕ) (es : List Element) : Type 0 where
  pub pieces : List Piece
  pub spelled : Spells text pieces
  pub placed : es ≡ elements_from place pieces

spelled-lists : (Ends : Element → List ℕ → List ℕ → Type 0) (es : List Element) (place : ℕ) (text : List ℕ) → AllByRecursion (λ e. e.unknown ≡ false) es → Lists Ends place text (whole es) → LiesSpelled place text es
spelled-lists Ends [] place text known h = record { pieces = []; spelled = record { each = tt; whole = h }; placed = refl }
spelled-lists Ends (e ∷ es) place text known h =
    let one = begins-known Ends place text e h.0 known.0 h.1 in
    let rest = spelled-lists Ends es e.end h.0 known.1 h.2 in
    let end = ap (λ (x : Element). x.end) one.placed in
    record {
      pieces = one.piece ∷ rest.pieces;
      spelled = record { each = (one.is, rest.spelled.each); whole = one.spelled ∙ ap (λ (x : List ℕ). spelling one.piece ++ x) rest.spelled.whole };
      placed = ap (λ (x : Element). x ∷ es) one.placed ∙ ap (λ (xs : List Element). element_of place one.piece ∷ xs) (rest.placed ∙ ap (λ (n : ℕ). elements_from n rest.pieces) end);
    }

pub holds-lists : (Ends : Element → List ℕ → List ℕ → Type 0) (bytes : List ℕ) (from to : ℕ) (es : List Element) → Holds bytes from to es → Lists Ends from (between bytes from to) (whole es)
holds-lists Ends bytes from to es holds =
    subst (λ (xs : List Element). Lists Ends from (between bytes from to) (whole xs)) (sym holds.placed)
    (subst (λ (text : List ℕ). Lists Ends from text (whole (elements_from from holds.pieces))) (sym holds.spelled.whole) (lists-spelled Ends from holds.pieces holds.spelled.each))

pub lists-holds : (Ends : Element → List ℕ → List ℕ → Type 0) (bytes : List ℕ) (from to : ℕ) (es : List Element) → AllByRecursion (λ e. e.unknown ≡ false) es → Lists Ends from (between bytes from to) (whole es) → Holds bytes from to es
lists-holds Ends bytes from to es known h =
    let lies = spelled-lists Ends es from (between bytes from to) known h in
    record { pieces = lies.pieces; spelled = lies.spelled; placed = lies.placed }
