-- The elements of a master, one after the other (RFC 8794 section 6, RFC 9559 section 5.1), and what is looked up in them.
use Rattle.std.specs.Prelude.{ℕ, ◌≤◌, ◌==◌, nat_lt, Bool, List, [], length, Option, Some, None, if◌then◌else◌}
use Rattle.std.specs.List.{before_first}
use Rattle.ebml_core.specs.declared.element.Element.{Element}
use Rattle.ebml_core.specs.Spelling.{unsigned_of, between}
use Rattle.ebml_core.specs.Listing.{Listing, ends, breaks, gives, Lists, EndsBeforeNext}
use Rattle.ebml_core.proofs.Scans.{listed_next}
use Rattle.mkv_elements.specs.declared.TheConstants.{CLUSTER, TOP_LEVEL}

-- an element whose content lies before a place
pub record LiesWithin (end : ℕ) (e : Element) : Type 0 where
  pub content : e.content ≤ e.end
  pub within : e.end ≤ end

-- the bytes of an element's content
abbrev pub content_of : List ℕ → Element → List ℕ
content_of bytes e = between bytes e.content e.end

-- A Cluster of unknown size ends before the elements that stand beside Clusters; any other of unknown size ends with its parent.
abbrev pub next_of : ℕ → List ℕ
next_of id = if id == CLUSTER then TOP_LEVEL else []

-- What the bytes from one place up to another list.
abbrev pub ListsFrom : List ℕ → ℕ → ℕ → Listing → Type 0
ListsFrom bytes from to listing = Lists (EndsBeforeNext next_of) from (between bytes from to) listing

-- The one listing that they have; that there is one is proved in `ebml_core`.
unfoldable pub elements : List ℕ → ℕ → ℕ → Listing
elements bytes from to = (listed_next next_of from (between bytes from to)).0

-- the elements in a master
abbrev pub elements_in : List ℕ → Element → Listing
elements_in bytes master = elements bytes master.content master.end

-- the first that passes a test
unfoldable pub first_where : (Element → Bool) → Listing → Option Element
first_where test ends = None
first_where test (breaks at) = None
first_where test (gives e rest) = if test e then Some e else first_where test rest

-- Where elements of one id stand more than once in a master, the first counts.
abbrev pub first : ℕ → Listing → Option Element
first id es = first_where (λ e. e.id == id) es

-- An unsigned number (RFC 8794 section 7.2). A missing one is 0, and one of more than 8 bytes, which is faulty, counts as 0.
abbrev pub number_of : List ℕ → Option Element → ℕ
number_of bytes None = 0
number_of bytes (Some e) = if nat_lt 8 (length (content_of bytes e)) then 0 else unsigned_of (content_of bytes e)

-- A text ends before its first 0 byte (RFC 8794 section 7.4).
abbrev pub text_of : List ℕ → List ℕ
text_of padded = before_first (λ byte. byte == 0) padded
