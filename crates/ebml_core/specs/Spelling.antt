-- How elements are spelled (RFC 8794 sections 4 to 6): an id, a size, and content of that size, one element after the other.
use Rattle.std.specs.Prelude.{◌≡◌, ℕ, ◌+◌, ◌-◌, ◌*◌, ◌^◌, ◌<◌, ◌≤◌, ◌==◌, List, [], ◌∷◌, ◌++◌, length, take, drop, false, if◌then◌else◌}
use Rattle.std.specs.List.{fold, flat_map, AllByRecursion}
use Rattle.ebml_core.specs.declared.vint.Size.{Size}
use Rattle.ebml_core.specs.declared.vint.Size.TheVariants.{Known, Unknown}
use Rattle.ebml_core.specs.declared.element.Element.{Element}

-- the number of these octets, the high one first (RFC 8794 section 7.2)
unfoldable pub unsigned_of : List ℕ → ℕ
unsigned_of octets = fold (λ n octet. 256 * n + octet) 0 octets

-- A variable size integer (RFC 8794 section 4): its highest bit is a marker, behind which stand seven bits for each octet.
pub record IsVint (most : ℕ) (octets : List ℕ) : Type 0 where
  pub count : length octets ≤ most
  pub bytes : AllByRecursion (λ octet. octet < 256) octets
  pub marked : 2 ^ (7 * length octets) ≤ unsigned_of octets
  pub filled : unsigned_of octets < 2 ^ (7 * length octets + 1)

-- An id keeps its marker (RFC 8794 section 5).
abbrev pub IsId : List ℕ → ℕ → Type 0
IsId octets id = IsVint 4 octets × (id ≡ unsigned_of octets)

-- A size is what stands behind the marker, and unknown where those bits are all 1 (RFC 8794 section 6).
unfoldable pub size_of : List ℕ → Size
size_of octets =
    let marker = 2 ^ (7 * length octets) in
    if unsigned_of octets - marker == marker - 1 then Unknown else Known (unsigned_of octets - marker)

abbrev pub IsSize : List ℕ → Size → Type 0
IsSize octets size = IsVint 8 octets × (size ≡ size_of octets)

-- an element as it is spelled
pub record Piece : Type 0 where
  pub id_octets : List ℕ
  pub size_octets : List ℕ
  pub id : ℕ
  pub size : Size
  pub content : List ℕ

abbrev pub spelling : Piece → List ℕ
spelling p = p.id_octets ++ (p.size_octets ++ p.content)

-- an element of known size, in any spelling of it
pub record IsPiece (p : Piece) : Type 0 where
  pub id : IsId p.id_octets p.id
  pub size : IsSize p.size_octets p.size
  pub content : p.size ≡ Known (length p.content)

-- The bytes are these elements, one after the other.
pub record Spells (bytes : List ℕ) (pieces : List Piece) : Type 0 where
  pub each : AllByRecursion IsPiece pieces
  pub whole : bytes ≡ flat_map spelling pieces

-- where an element of known size lies that starts at a place
abbrev pub element_of : ℕ → Piece → Element
element_of start p = record {
  id = p.id;
  start = start;
  content = start + (length p.id_octets + length p.size_octets);
  end = start + length (spelling p);
  unknown = false;
}

-- where elements lie that start at a place and follow one another
abbrev pub elements_from : ℕ → List Piece → List Element
elements_from start [] = []
elements_from start (p ∷ ps) = element_of start p ∷ elements_from (start + length (spelling p)) ps

-- the bytes from one place up to another
abbrev pub between : List ℕ → ℕ → ℕ → List ℕ
between bytes from to = take (to - from) (drop from bytes)

-- From one place up to another the bytes are these elements, all of known size.
pub record Holds (bytes : List ℕ) (from to : ℕ) (elements : List Element) : Type 0 where
  pub pieces : List Piece
  pub spelled : Spells (between bytes from to) pieces
  pub placed : elements ≡ elements_from from pieces
