-- The elements of a master are the first of them, and then those behind it.
use Rattle.std.proofs.Common.{◌≡◌, ◌⊎◌, inl, inr, ℕ, ◌+◌, ◌-◌, ◌≤◌, Bool, true, false, cond, eqb, List, [], ◌++◌, length, take, drop, Option, Some, None, Result, Ok, Err, refl, sym, ap, subst, ◌∙◌, append_assoc, arith}
use Rattle.std.specs.Prelude.{IfOk, IfSome}
use Rattle.std.proofs.lemmas.Bool.{eqb-true, eq-eqb, true≢false}
use Rattle.std.proofs.lemmas.List.{length-append, length-take, length-take-le, take-take, drop_at, take-append-drop, append-nil}
use Rattle.ebml_core.specs.declared.element.Element.{Element}
use Rattle.ebml_core.specs.declared.element.EbmlFault.{EbmlFault}
use Rattle.ebml_core.specs.Spelling.{Piece, IsPiece, spelling, element_of, between}
use Rattle.ebml_core.specs.Listing.{Listing, ends, breaks, gives, IsOpenPiece, open_element, Begins, Lists, EndsWithParent, ListsNone, EndsBefore, EndsBeforeNext}
use Rattle.ebml_core.specs.Walking.{LiesAt, place_after, given}
use Rattle.ebml_core.proofs.Headers.{record_is}
use Rattle.ebml_core.proofs.Listings.{begins-lies, lists-one, listed}
use Rattle.ebml_core.proofs.Scans.{exact-next, listed_next}
use Rattle.ebml_core.proofs.Endings.{drop-between, long-between}
use Rattle.mkv_elements.specs.declared.TheConstants.{CLUSTER, TOP_LEVEL}
use Rattle.mkv_read.specs.Elements.{content_of, next_of, ListsFrom, elements, first_where}

-- ---- what is listed

pub elements-listed : (bytes : List ℕ) (from to : ℕ) → ListsFrom bytes from to (elements bytes from to)
unfolding elements
elements-listed bytes from to = (listed_next next_of from (between bytes from to)).1

pub elements-only : (bytes : List ℕ) (from to : ℕ) (listing : Listing) → ListsFrom bytes from to listing → listing ≡ elements bytes from to
elements-only bytes from to listing h = lists-one (EndsBeforeNext next_of) (exact-next next_of) listing (elements bytes from to) from (between bytes from to) h (elements-listed bytes from to)

-- what stands behind an element that begins the bytes between two places
behind_first : (Ends : Element → List ℕ → List ℕ → Type 0) (bytes : List ℕ) (place end : ℕ) (e : Element) (rest : List ℕ) → Begins Ends place (between bytes place end) e rest → (e.end ≤ end) × (rest ≡ between bytes e.end end)
behind_first Ends bytes place end e rest b =
    let text = between bytes place end in
    let lies = begins-lies Ends place text e rest b in
    let len : length text ≡ length rest + (e.end - place) = omega (arith, lies.header, lies.content, lies.end) in
    let within : e.end ≤ end = omega (arith, lies.header, lies.content, lies.end, length-take (end - place) (drop place bytes)) in
    let octets : length (spelling b.piece) ≡ e.end - place = omega (arith, len, ap length b.spelled, length-append (spelling b.piece) rest) in
    (within, sym (drop_at (spelling b.piece) rest (e.end - place) octets) ∙ ap (drop (e.end - place)) (sym b.spelled) ∙ drop-between bytes place e.end end (omega (arith, lies.header, lies.content)) within)

pub elements-first : (bytes : List ℕ) (place end : ℕ) (e : Element) (rest : List ℕ) → Begins (EndsBeforeNext next_of) place (between bytes place end) e rest → elements bytes place end ≡ gives e (elements bytes e.end end)
elements-first bytes place end e rest b =
    let behind = behind_first (EndsBeforeNext next_of) bytes place end e rest b in
    sym (elements-only bytes place end (gives e (elements bytes e.end end)) (between bytes e.end end, subst (Begins (EndsBeforeNext next_of) place (between bytes place end) e) behind.1 b, elements-listed bytes e.end end))

pub elements-none : (bytes : List ℕ) (place end : ℕ) → between bytes place end ≡ [] → elements bytes place end ≡ ends
elements-none bytes place end empty = sym (elements-only bytes place end ends empty)

-- ---- the end of an element of unknown size

-- An element that begins a text by one ending begins it by another, where its size is known.
begins-known : (bytes : List ℕ) (place : ℕ) (text : List ℕ) (e : Element) (rest : List ℕ) → e.unknown ≡ false → Begins EndsWithParent place text e rest → Begins (EndsBeforeNext next_of) place text e rest
begins-known bytes place text e rest known b = record { piece = b.piece; spelled = b.spelled; is = by_kind b.is }
  where
    by_kind : (IsPiece b.piece × (e ≡ element_of place b.piece)) ⊎ (IsOpenPiece b.piece × (e ≡ open_element place b.piece) × EndsWithParent e b.piece.content rest) → (IsPiece b.piece × (e ≡ element_of place b.piece)) ⊎ (IsOpenPiece b.piece × (e ≡ open_element place b.piece) × EndsBeforeNext next_of e b.piece.content rest)
    by_kind (inl k) = inl k
    by_kind (inr opened) = absurd (true≢false (ap (λ (x : Element). x.unknown) (sym opened.1) ∙ known))

-- an element of unknown size that begins a text, and what stands behind its header
record IsOpened (place : ℕ) (text : List ℕ) (d : Element) : Type 0 where
  piece : Piece
  is : IsOpenPiece piece
  placed : d ≡ open_element place piece
  spelled : text ≡ spelling piece

begins-opened : (place : ℕ) (text : List ℕ) (d : Element) (rest : List ℕ) → d.unknown ≡ true → Begins EndsWithParent place text d rest → IsOpened place text d
begins-opened place text d rest unknown b = by_kind b.is
  where
    by_kind : (IsPiece b.piece × (d ≡ element_of place b.piece)) ⊎ (IsOpenPiece b.piece × (d ≡ open_element place b.piece) × EndsWithParent d b.piece.content rest) → IsOpened place text d
    by_kind (inl k) = absurd (true≢false (sym unknown ∙ ap (λ (x : Element). x.unknown) k.1))
    by_kind (inr opened) = record { piece = b.piece; is = opened.0; placed = opened.1; spelled = b.spelled ∙ ap (λ (x : List ℕ). spelling b.piece ++ x) opened.2 ∙ append-nil (spelling b.piece) }

cut_piece : Piece → List ℕ → Piece
cut_piece p content = record p { content = content }

-- An element of unknown size, cut where it ends.
begins-cut : (place : ℕ) (text : List ℕ) (d : Element) → (o : IsOpened place text d) → (content rest : List ℕ) (stop : ℕ) → o.piece.content ≡ content ++ rest → stop ≡ d.content + length content → EndsBefore (next_of d.id) d.content content rest → Begins (EndsBeforeNext next_of) place text (record d { end = stop }) rest
unfolding cut_piece
begins-cut place text d o content rest stop whole at ended =
    let p = o.piece in
    let q = cut_piece p content in
    let header : d.content ≡ place + (length p.id_octets + length p.size_octets) = ap (λ (x : Element). x.content) o.placed in
    let parts : length (spelling q) ≡ length p.id_octets + (length p.size_octets + length content) = length-append p.id_octets (p.size_octets ++ content) ∙ ap (λ (m : ℕ). length p.id_octets + m) (length-append p.size_octets content) in
    let regrouped : spelling q ++ rest ≡ spelling p = append_assoc p.id_octets (p.size_octets ++ content) rest ∙ ap (λ (x : List ℕ). p.id_octets ++ x) (append_assoc p.size_octets content rest ∙ ap (λ (x : List ℕ). p.size_octets ++ x) (sym whole)) in
    record {
      piece = q;
      spelled = o.spelled ∙ sym regrouped;
      is = inr (
        record { id = o.is.id; size = o.is.size },
        record_is (record d { end = stop }) (open_element place q) (ap (λ (x : Element). x.id) o.placed) (ap (λ (x : Element). x.start) o.placed) header (omega (arith, parts, header, at)) (ap (λ (x : Element). x.unknown) o.placed),
        ended,
      );
    }

-- Nothing that is listed has an id of none.
pub lists-none : (w : Listing) → ListsNone [] w
lists-none ends = tt
lists-none (breaks at) = tt
lists-none (gives e later) = (refl, lists-none later)

-- What ends before no element ends with its parent.
pub ends-last : (place : ℕ) (content : List ℕ) → EndsBefore [] place content []
ends-last place content = let all = listed place content in (all.0, all.1, lists-none all.0, inl refl)

-- What `ended` answers of an element that was read.
pub record IsEnded (bytes : List ℕ) (d e : Element) : Type 0 where
  pub cluster : d.unknown ≡ true → d.id ≡ CLUSTER → (e ≡ record d { end = e.end }) × EndsBefore TOP_LEVEL d.content (content_of bytes e) (between bytes e.end d.end)
  pub lies : (e.content ≤ e.end) × (e.end ≤ d.end)
  pub other : (d.unknown ≡ true → d.id ≡ CLUSTER → ⊥) → e ≡ d

next_of-cluster : (id : ℕ) → id ≡ CLUSTER → next_of id ≡ TOP_LEVEL
next_of-cluster id is = ap next_of is

next_of-other : (id : ℕ) → eqb id CLUSTER ≡ false → next_of id ≡ []
next_of-other id other = ap (λ (b : Bool). cond b TOP_LEVEL []) other

-- An opened element reaches to the end, and its content is all that stands behind its header.
opened_content : (bytes : List ℕ) (place end : ℕ) (d : Element) → place ≤ end → end ≤ length bytes → (o : IsOpened place (between bytes place end) d) → content_of bytes d ≡ o.piece.content
opened_content bytes place end d order long o =
    let p = o.piece in
    let octets = length p.id_octets + length p.size_octets in
    let header : d.content ≡ place + octets = ap (λ (x : Element). x.content) o.placed in
    let text : length (between bytes place end) ≡ length (spelling p) = ap length o.spelled in
    let d_end : d.end ≡ end = ap (λ (x : Element). x.end) o.placed ∙ omega (arith, text, long-between bytes place end order long, order) in
    let parts : length (spelling p) ≡ length p.id_octets + (length p.size_octets + length p.content) = length-append p.id_octets (p.size_octets ++ p.content) ∙ ap (λ (m : ℕ). length p.id_octets + m) (length-append p.size_octets p.content) in
    let behind : drop (d.content - place) (between bytes place end) ≡ between bytes d.content end = drop-between bytes place d.content end (omega (arith, header)) (omega (arith, header, text, parts, long-between bytes place end order long)) in
    let front : spelling p ≡ (p.id_octets ++ p.size_octets) ++ p.content = sym (append_assoc p.id_octets p.size_octets p.content) in
    let rest : drop (d.content - place) (spelling p) ≡ p.content = ap (drop (d.content - place)) front ∙ drop_at (p.id_octets ++ p.size_octets) p.content (d.content - place) (length-append p.id_octets p.size_octets ∙ omega (arith, header)) in
    ap (between bytes d.content) d_end ∙ sym behind ∙ ap (drop (d.content - place)) o.spelled ∙ rest

ended_opened : (bytes : List ℕ) (place end : ℕ) (d e : Element) → place ≤ end → end ≤ length bytes → (o : IsOpened place (between bytes place end) d) → IsEnded bytes d e → d.unknown ≡ true → elements bytes place end ≡ gives e (elements bytes e.end end)
ended_opened bytes place end d e order long o h unknown = by_id (eqb d.id CLUSTER) refl
  where
    content : content_of bytes d ≡ o.piece.content
    content = opened_content bytes place end d order long o

    d_end : d.end ≡ d.content + length o.piece.content
    d_end = ap (λ (x : Element). x.end) o.placed ∙ omega (arith, ap (λ (x : Element). x.content) o.placed, length-append o.piece.id_octets (o.piece.size_octets ++ o.piece.content), length-append o.piece.size_octets o.piece.content)

    with_parts : (x rest : List ℕ) (stop : ℕ) → o.piece.content ≡ x ++ rest → stop ≡ d.content + length x → EndsBefore (next_of d.id) d.content x rest → e ≡ record d { end = stop } → elements bytes place end ≡ gives e (elements bytes e.end end)
    with_parts x rest stop whole at ended same =
        subst (λ (y : Element). elements bytes place end ≡ gives y (elements bytes y.end end)) (sym same) (elements-first bytes place end (record d { end = stop }) rest (begins-cut place (between bytes place end) d o x rest stop whole at ended))

    by_id : (cluster : Bool) → eqb d.id CLUSTER ≡ cluster → elements bytes place end ≡ gives e (elements bytes e.end end)
    by_id true is =
        let id = eqb-true d.id CLUSTER is in
        let all = h.cluster unknown id in
        let start : e.content ≡ d.content = ap (λ (y : Element). y.content) all.0 in
        let x = between bytes d.content e.end in
        let rest = between bytes e.end d.end in
        let inside : content_of bytes e ≡ x = ap (λ (n : ℕ). between bytes n e.end) start in
        let front : take (e.end - d.content) (content_of bytes d) ≡ x = take-take (e.end - d.content) (d.end - d.content) (drop d.content bytes) (omega (arith, h.lies)) in
        let behind : drop (e.end - d.content) (content_of bytes d) ≡ rest = drop-between bytes d.content e.end d.end (omega (arith, start, h.lies)) (omega (arith, h.lies)) in
        let whole : o.piece.content ≡ x ++ rest = sym content ∙ sym (take-append-drop (e.end - d.content) (content_of bytes d)) ∙ ap (λ (y : List ℕ). y ++ drop (e.end - d.content) (content_of bytes d)) front ∙ ap (λ (y : List ℕ). x ++ y) behind in
        let few : e.end - d.content ≤ length (content_of bytes d) = omega (arith, ap length content, d_end, h.lies) in
        let len : length x ≡ e.end - d.content = ap length (sym front) ∙ length-take-le (e.end - d.content) (content_of bytes d) few in
        let ended : EndsBefore (next_of d.id) d.content x rest = subst (λ (ids : List ℕ). EndsBefore ids d.content x rest) (sym (next_of-cluster d.id id)) (subst (λ (y : List ℕ). EndsBefore TOP_LEVEL d.content y rest) inside all.1) in
        with_parts x rest e.end whole (omega (arith, len, start, h.lies)) ended all.0
    by_id false other =
        let no_cluster : d.unknown ≡ true → d.id ≡ CLUSTER → ⊥ = λ u id. true≢false (sym (eq-eqb d.id CLUSTER id) ∙ other) in
        let ended : EndsBefore (next_of d.id) d.content o.piece.content [] = subst (λ (ids : List ℕ). EndsBefore ids d.content o.piece.content []) (sym (next_of-other d.id other)) (ends-last d.content o.piece.content) in
        with_parts o.piece.content [] d.end (sym (append-nil o.piece.content)) d_end ended (h.other no_cluster)

-- ---- what is answered at a place

-- An element that was read, with its end, is the first, and then come those behind it.
pub ended-first : (bytes : List ℕ) (place end : ℕ) (d e : Element) (rest : List ℕ) → place ≤ end → end ≤ length bytes → Begins EndsWithParent place (between bytes place end) d rest → IsEnded bytes d e → elements bytes place end ≡ gives e (elements bytes e.end end)
ended-first bytes place end d e rest order long b h = by_size d.unknown refl
  where
    by_size : (unknown : Bool) → d.unknown ≡ unknown → elements bytes place end ≡ gives e (elements bytes e.end end)
    by_size true unknown = ended_opened bytes place end d e order long (begins-opened place (between bytes place end) d rest unknown b) h unknown
    by_size false known =
        let same : e ≡ d = h.other (λ unknown id. true≢false (sym unknown ∙ known)) in
        subst (λ (x : Element). elements bytes place end ≡ gives x (elements bytes x.end end)) (sym same) (elements-first bytes place end d rest (begins-known bytes place (between bytes place end) d rest known b))

-- Where no element of one ending begins the bytes, none of the other does.
none_of-next : (place : ℕ) (text : List ℕ) → ((e : Element) (rest : List ℕ) → Begins EndsWithParent place text e rest → ⊥) → (e : Element) (rest : List ℕ) → Begins (EndsBeforeNext next_of) place text e rest → ⊥
none_of-next place text none e rest b = by_kind b.is
  where
    p : Piece
    p = b.piece

    by_kind : (IsPiece p × (e ≡ element_of place p)) ⊎ (IsOpenPiece p × (e ≡ open_element place p) × EndsBeforeNext next_of e p.content rest) → ⊥
    by_kind (inl k) = none e rest (record { piece = p; spelled = b.spelled; is = inl k })
    by_kind (inr opened) =
        let q : Piece = record p { content = p.content ++ rest } in
        let regrouped : spelling p ++ rest ≡ spelling q ++ [] = append_assoc p.id_octets (p.size_octets ++ p.content) rest ∙ ap (λ (x : List ℕ). p.id_octets ++ x) (append_assoc p.size_octets p.content rest) ∙ sym (append-nil (spelling q)) in
        none (open_element place q) [] (record { piece = q; spelled = b.spelled ∙ regrouped; is = inr (record { id = opened.0.id; size = opened.0.size }, refl, refl) })

pub elements-broken : (bytes : List ℕ) (place end at : ℕ) → Lists EndsWithParent place (between bytes place end) (breaks at) → elements bytes place end ≡ breaks at
elements-broken bytes place end at h = sym (elements-only bytes place end (breaks at) (h.0, h.1, none_of-next place (between bytes place end) h.2))

-- ---- the first that passes a test

pub first_where-here : (test : Element → Bool) (bytes : List ℕ) (place end : ℕ) (e : Element) → elements bytes place end ≡ gives e (elements bytes e.end end) → test e ≡ true → first_where test (elements bytes place end) ≡ Some e
unfolding first_where
first_where-here test bytes place end e next here =
    ap (first_where test) next ∙ ap (λ (b : Bool). cond b (Some e) (first_where test (elements bytes e.end end))) here

pub first_where-past : (test : Element → Bool) (bytes : List ℕ) (place end : ℕ) (e : Element) → elements bytes place end ≡ gives e (elements bytes e.end end) → test e ≡ false → first_where test (elements bytes place end) ≡ first_where test (elements bytes e.end end)
unfolding first_where
first_where-past test bytes place end e next other =
    ap (first_where test) next ∙ ap (λ (b : Bool). cond b (Some e) (first_where test (elements bytes e.end end))) other

pub first_where-over : (test : Element → Bool) (w : Listing) → w ≡ ends → first_where test w ≡ None
unfolding first_where
first_where-over test w next = ap (first_where test) next

pub first_where-broken : (test : Element → Bool) (w : Listing) (at : ℕ) → w ≡ breaks at → first_where test w ≡ None
unfolding first_where
first_where-broken test w at next = ap (first_where test) next

-- ---- what a call of `element_at` told

-- an answer is what is listed from a place on
abbrev pub IsAnswer : List ℕ → ℕ → ℕ → Result (Option Element) EbmlFault → Type 0
IsAnswer bytes place end r = elements bytes place end ≡ given r (elements bytes (place_after place r) end)

pub gives_is : (bytes : List ℕ) (place end : ℕ) (r : Result (Option Element) EbmlFault) (found : Option Element) (e : Element) → IsAnswer bytes place end r → r ≡ Ok found → found ≡ Some e → elements bytes place end ≡ gives e (elements bytes e.end end)
gives_is bytes place end r found e exact is same = subst (IsAnswer bytes place end) (is ∙ ap (λ (x : Option Element). Ok x) same) exact

pub ends_is : (bytes : List ℕ) (place end : ℕ) (r : Result (Option Element) EbmlFault) (found : Option Element) → IsAnswer bytes place end r → r ≡ Ok found → found ≡ None → elements bytes place end ≡ ends
ends_is bytes place end r found exact is same = subst (IsAnswer bytes place end) (is ∙ ap (λ (x : Option Element). Ok x) same) exact

pub breaks_is : (bytes : List ℕ) (place end : ℕ) (r : Result (Option Element) EbmlFault) (fault : EbmlFault) → IsAnswer bytes place end r → r ≡ Err fault → elements bytes place end ≡ breaks fault.at
breaks_is bytes place end r fault exact is = subst (IsAnswer bytes place end) is exact

pub lies_is : (r : Result (Option Element) EbmlFault) (found : Option Element) (e : Element) (place end : ℕ) → IfOk r (λ found. IfSome found (LiesAt place end)) → r ≡ Ok found → found ≡ Some e → LiesAt place end e
lies_is r found e place end lies is same =
    subst (λ (x : Option Element). IfSome x (LiesAt place end)) same (subst (λ (x : Result (Option Element) EbmlFault). IfOk x (λ found. IfSome found (LiesAt place end))) is lies)
