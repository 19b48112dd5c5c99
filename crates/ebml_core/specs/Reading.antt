-- Reading one element from the front of a text, with its first fault (RFC 8794 sections 4 to 6).
use Rattle.std.specs.Prelude.{ℕ, ◌+◌, List, [], ◌∷◌, length, take, drop, Option, Some, None, Result, Ok, Err, nat_lt, nat_le, true, false, if◌then◌else◌}
use Rattle.ebml_core.specs.declared.vint.Size.{Size}
use Rattle.ebml_core.specs.declared.vint.Size.TheVariants.{Known, Unknown}
use Rattle.ebml_core.specs.declared.vint.VintFault.{VintFault}
use Rattle.ebml_core.specs.declared.vint.VintFault.TheVariants.{Short, BadVint}
use Rattle.ebml_core.specs.declared.element.Element.{Element}
use Rattle.ebml_core.specs.declared.element.Header.{Header}
use Rattle.ebml_core.specs.declared.element.EbmlWhy.{EbmlWhy}
use Rattle.ebml_core.specs.declared.element.EbmlWhy.TheVariants as whys
use Rattle.ebml_core.specs.declared.element.EbmlFault.{EbmlFault}
use Rattle.ebml_core.specs.Spelling.{unsigned_of, size_of}

infixl 10 ◌>>=◌
abbrev pub ◌>>=◌ : {A B E : Type 0} → Result A E → (A → Result B E) → Result B E
(Ok x) >>= f = f x
(Err e) >>= f = Err e

-- how many octets there are where this one is the first: one more than it has 0 bits before its first 1 bit
unfoldable pub octet_count : ℕ → ℕ
octet_count first =
    if nat_le 128 first then 1 else (
    if nat_le 64 first then 2 else (
    if nat_le 32 first then 3 else (
    if nat_le 16 first then 4 else (
    if nat_le 8 first then 5 else (
    if nat_le 4 first then 6 else (
    if nat_le 2 first then 7 else (
    if nat_le 1 first then 8 else 9)))))))

-- The octets of a variable size integer at the front. It is bad where its first octet shows more than `most`, and
-- short where there is no first octet or where fewer stand there than it shows.
unfoldable pub vint_at : ℕ → List ℕ → Result (List ℕ) VintFault
vint_at most [] = Err Short
vint_at most (first ∷ rest) =
    if nat_lt most (octet_count first) then Err BadVint else (
    if nat_lt (length (first ∷ rest)) (octet_count first) then Err Short else
    Ok (take (octet_count first) (first ∷ rest)))

-- the id at the front, and how many octets it takes
unfoldable pub id_at : List ℕ → Result (ℕ × ℕ) VintFault
id_at text = do
  octets ← vint_at 4 text
  Ok (unsigned_of octets, length octets)

-- the size at the front, and how many octets it takes
unfoldable pub size_at : List ℕ → Result (Size × ℕ) VintFault
size_at text = do
  octets ← vint_at 8 text
  Ok (size_of octets, length octets)

-- an element's id and size, and how many octets both take
unfoldable pub header_at : List ℕ → Result Header VintFault
header_at text = do
  id ← id_at text
  size ← size_at (drop id.1 text)
  Ok (record { id = id.0; size = size.0; octets = id.1 + size.1 })

abbrev pub why_of : VintFault → EbmlWhy
why_of Short = whys.Short
why_of BadVint = whys.BadVint

-- The element of this header at a place, where `room` octets lie before its parent's end. One of unknown size reaches to that end.
abbrev pub sized : ℕ → ℕ → Header → Size → Result Element EbmlFault
sized place room header Unknown =
    Ok (record { id = header.id; start = place; content = place + header.octets; end = place + room; unknown = true })
sized place room header (Known size) =
    if nat_lt room (header.octets + size) then Err (record { at = place; why = whys.Overrun }) else
    Ok (record { id = header.id; start = place; content = place + header.octets; end = place + (header.octets + size); unknown = false })

abbrev pub laid : ℕ → ℕ → Result Header VintFault → Result Element EbmlFault
laid place room (Err fault) = Err (record { at = place; why = why_of fault })
laid place room (Ok header) = sized place room header header.size

abbrev pub found : Result Element EbmlFault → Result (Option Element) EbmlFault
found (Ok e) = Ok (Some e)
found (Err fault) = Err fault

-- The element at a place from which this text goes up to its parent's end: none where the text is empty.
unfoldable pub element_at : ℕ → List ℕ → Result (Option Element) EbmlFault
element_at place [] = Ok None
element_at place (octet ∷ rest) = found (laid place (length (octet ∷ rest)) (header_at (octet ∷ rest)))
