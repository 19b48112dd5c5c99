-- What a text lists (RFC 8794 sections 4 to 6): elements one after the other, up to its end, or up to bytes that begin with no element.
use Rattle.std.specs.Prelude.{◌≡◌, ◌⊎◌, ℕ, ◌+◌, ◌≤◌, ◌==◌, Bool, true, false, List, [], ◌∷◌, ◌++◌, length}
use Rattle.std.specs.List.{list_any}
use Rattle.ebml_core.specs.declared.vint.Size.TheVariants.{Unknown}
use Rattle.ebml_core.specs.declared.element.Element.{Element}
use Rattle.ebml_core.specs.Spelling.{Piece, IsPiece, IsId, IsSize, spelling, element_of}

-- Elements, and then nothing more, or more bytes at a place that begin with no element.
pub data Listing : Type 0 where
  ends : Listing
  breaks : ℕ → Listing
  gives : Element → Listing → Listing

-- the listing of these elements, and nothing more
abbrev pub whole : List Element → Listing
whole [] = ends
whole (e ∷ es) = gives e (whole es)

-- an element whose size is spelled as unknown
pub record IsOpenPiece (p : Piece) : Type 0 where
  pub id : IsId p.id_octets p.id
  pub size : IsSize p.size_octets Unknown

-- where an element of unknown size lies that starts at a place
abbrev pub open_element : ℕ → Piece → Element
open_element start p = record (element_of start p) { unknown = true }

-- A text that lies at a place begins with this element, and behind it stands the rest.
-- One of unknown size has its content and that rest as `Ends` says.
pub record Begins (Ends : Element → List ℕ → List ℕ → Type 0) (place : ℕ) (text : List ℕ) (e : Element) (rest : List ℕ) : Type 0 where
  pub piece : Piece
  pub spelled : text ≡ spelling piece ++ rest
  pub is : (IsPiece piece × (e ≡ element_of place piece)) ⊎ (IsOpenPiece piece × (e ≡ open_element place piece) × Ends e piece.content rest)

-- What a text lists that lies at a place, where elements of unknown size end as `Ends` says.
abbrev pub Lists : (Element → List ℕ → List ℕ → Type 0) → ℕ → List ℕ → Listing → Type 0
Lists Ends place text ends = text ≡ []
Lists Ends place text (breaks at) = (at ≡ place) × (1 ≤ length text) × ((e : Element) (rest : List ℕ) → Begins Ends place text e rest → ⊥)
Lists Ends place text (gives e later) = (rest : List ℕ) × Begins Ends place text e rest × Lists Ends e.end rest later

-- An element of unknown size ends with its parent.
abbrev pub EndsWithParent : Element → List ℕ → List ℕ → Type 0
EndsWithParent e content rest = rest ≡ []

-- whether an element has one of these ids
abbrev pub is_among : List ℕ → Element → Bool
is_among ids e = list_any (λ id. id == e.id) ids

-- No element of these ids is listed.
abbrev pub ListsNone : List ℕ → Listing → Type 0
ListsNone ids ends = Unit {0}
ListsNone ids (breaks at) = Unit {0}
ListsNone ids (gives e later) = (is_among ids e ≡ false) × ListsNone ids later

-- Elements of known size are listed, and nothing more.
abbrev pub AreKnown : Listing → Type 0
AreKnown ends = Unit {0}
AreKnown (breaks at) = ⊥
AreKnown (gives e later) = (e.unknown ≡ false) × AreKnown later

-- A text that lies at a place begins with an element of one of these ids.
abbrev pub BeginsWithOne : List ℕ → ℕ → List ℕ → Type 0
BeginsWithOne ids place text = (e : Element) × (rest : List ℕ) × Begins EndsWithParent place text e rest × (is_among ids e ≡ true)

-- A content that lies at a place ends before elements of these ids, with this rest behind it: it lists none of them;
-- and nothing stands behind it, or it lists elements of known size and nothing more, and the rest begins with one of them.
abbrev pub EndsBefore : List ℕ → ℕ → List ℕ → List ℕ → Type 0
EndsBefore ids place content rest =
    (inside : Listing) × Lists EndsWithParent place content inside × ListsNone ids inside
    × ((rest ≡ []) ⊎ (AreKnown inside × BeginsWithOne ids (place + length content) rest))

-- An element of unknown size ends before the next that may not stand in it, after RFC 8794 section 6.2.
-- `ids` tells of each id which these are; whoever names them may leave out some of the standard's.
abbrev pub EndsBeforeNext : (ℕ → List ℕ) → Element → List ℕ → List ℕ → Type 0
EndsBeforeNext ids e content rest = EndsBefore (ids e.id) e.content content rest
