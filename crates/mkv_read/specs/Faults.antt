-- The first faulty element of a file, in file order (RFC 8794 section 6, RFC 9559 sections 5.1 and 10).
use Rattle.std.specs.Prelude.{ℕ, suc, zero, ◌+◌, ◌-◌, ◌*◌, ◌%◌, ◌==◌, nat_lt, Bool, ◌&&◌, ◌||◌, not, List, [], ◌∷◌, length, drop, Option, Some, None, is_none, Result, Ok, Err, if◌then◌else◌}
use Rattle.std.specs.List.{list_any}
use Rattle.ebml_core.specs.declared.element.Element.{Element}
use Rattle.ebml_core.specs.declared.vint.Size.{Size}
use Rattle.ebml_core.specs.declared.vint.Size.TheVariants.{Known, Unknown}
use Rattle.ebml_core.specs.declared.vint.VintFault.{VintFault}
use Rattle.ebml_core.specs.Reading.{size_at}
use Rattle.ebml_core.specs.Listing.{Listing, ends, breaks, gives}
use Rattle.mkv_elements.specs.declared.table.Kind.{Kind}
use Rattle.mkv_elements.specs.declared.table.Kind.TheVariants as kinds
use Rattle.mkv_elements.specs.declared.table.TheConstants.{MAY_BE_UNKNOWN}
use Rattle.mkv_elements.specs.Table.{kind_in}
use Rattle.mkv_read.specs.declared.block.Head.{Head}
use Rattle.mkv_read.specs.Elements.{content_of, elements_in}

-- A signed number of 16 bits, the high octet first, plus 32,768.
abbrev pub signed_plus_32768 : ℕ → ℕ → ℕ
signed_plus_32768 high low = (256 * high + low + 32768) % 65536

-- what follows the number of a block's track, at a place: the time, the flags and the packet
abbrev pub behind : ℕ → ℕ → List ℕ → Option Head
behind track place [] = None
behind track place (high ∷ []) = None
behind track place (high ∷ low ∷ []) = None
behind track place (high ∷ low ∷ flags ∷ packet) =
    Some (record {
      track = track;
      time = signed_plus_32768 high low;
      flags = flags;
      packet = record { from = place + 3; len = length packet };
    })

-- a block's head, by what is read at its front as a size is
abbrev pub of_size : ℕ → List ℕ → Result (Size × ℕ) VintFault → Option Head
of_size place content (Err fault) = None
of_size place content (Ok (Unknown, octets)) = None
of_size place content (Ok (Known track, octets)) = behind track (place + octets) (drop octets content)

-- A block whose content lies at a place (RFC 9559 section 10.1): its track's number is spelled as a size is, and is not the unknown one.
unfoldable pub head_at : ℕ → List ℕ → Option Head
head_at place content = of_size place content (size_at content)

-- whether an element's size may be unknown
abbrev pub may_be_unknown : ℕ → Bool
may_be_unknown id = list_any (λ other. other == id) MAY_BE_UNKNOWN

-- whether an element is faulty that is read as this
abbrev pub is_faulty_as : List ℕ → Element → Option Kind → Bool
is_faulty_as bytes e (Some kinds.Master) = e.unknown && not (may_be_unknown e.id)
is_faulty_as bytes e (Some kinds.Unsigned) = e.unknown || nat_lt 8 (e.end - e.content)
is_faulty_as bytes e (Some kinds.Block) = e.unknown || is_none (head_at e.content (content_of bytes e))
is_faulty_as bytes e other = e.unknown

-- the first of two places, where there is one
abbrev pub else_place : Option ℕ → Option ℕ → Option ℕ
else_place (Some at) later = Some at
else_place None later = later

-- the first of these elements that has a fault, or the first whose header is faulty or that passes the end
unfoldable pub first_fault : (Element → Option ℕ) → Listing → Option ℕ
first_fault fault ends = None
first_fault fault (breaks at) = Some at
first_fault fault (gives e rest) = else_place (fault e) (first_fault fault rest)

-- the first fault in an element that is read as this: only masters have elements in them that are read
abbrev pub inside_as : Option ℕ → Option Kind → Option ℕ
inside_as inside (Some kinds.Master) = inside
inside_as inside other = None

-- An element's place where it is faulty, else that of the first faulty element in it.
abbrev pub fault_as : List ℕ → Element → Option ℕ → Option Kind → Option ℕ
fault_as bytes e inside kind = if is_faulty_as bytes e kind then Some e.start else inside_as inside kind

-- the place of the first faulty one of elements in a parent, over so many levels of masters
unfoldable pub fault_in : ℕ → List ℕ → ℕ → Listing → Option ℕ
fault_in zero bytes parent es = None
fault_in (suc levels) bytes parent es =
    first_fault (λ e. fault_as bytes e (fault_in levels bytes e.id (elements_in bytes e)) (kind_in parent e.id)) es

-- the first fault of an element in a parent, with so many levels of masters in it
abbrev pub element_fault : ℕ → List ℕ → ℕ → Element → Option ℕ
element_fault levels bytes parent e = fault_as bytes e (fault_in levels bytes e.id (elements_in bytes e)) (kind_in parent e.id)
