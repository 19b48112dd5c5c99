-- Going from element to element.
use Rattle.std.specs.Prelude.{◌≡◌, ℕ, ◌<◌, ◌≤◌, List, Option, Some, None, Result, Ok, Err}
use Rattle.ebml_core.specs.declared.element.Element.{Element}
use Rattle.ebml_core.specs.declared.element.EbmlFault.{EbmlFault}
use Rattle.ebml_core.specs.Spelling.{between}
use Rattle.ebml_core.specs.Listing.{Listing, ends, breaks, gives, Lists, EndsWithParent}

-- a walker: the bytes, the place of its next element, and the place where it ends
pub record Position : Type 0 where
  pub bytes : List ℕ
  pub place : ℕ
  pub end : ℕ

-- the bytes that it has yet to go over
abbrev pub ahead : Position → List ℕ
ahead p = between p.bytes p.place p.end

-- what these bytes list
abbrev pub HasAhead : Position → Listing → Type 0
HasAhead p listing = Lists EndsWithParent p.place (ahead p) listing

-- After an element the place is that element's end. At the end and after a fault it stays.
abbrev pub place_after : ℕ → Result (Option Element) EbmlFault → ℕ
place_after place (Ok (Some e)) = e.end
place_after place (Ok None) = place
place_after place (Err fault) = place

-- An element starts at the place, and lies before the end.
pub record LiesAt (place end : ℕ) (e : Element) : Type 0 where
  pub start : e.start ≡ place
  pub header : place < e.content
  pub content : e.content ≤ e.end
  pub within : e.end ≤ end

-- the listing whose first is this answer, and behind which stands another
abbrev pub given : Result (Option Element) EbmlFault → Listing → Listing
given (Ok None) later = ends
given (Ok (Some e)) later = gives e later
given (Err fault) later = breaks fault.at
