-- Each text lists one thing.
use Rattle.std.proofs.Common.{◌≡◌, ◌⊎◌, inl, inr, ℕ, zero, suc, true, false, Bool, ◌+◌, ◌-◌, ◌<◌, ◌≤◌, List, [], ◌∷◌, ◌++◌, length, take, drop, Option, Some, None, Result, Ok, Err, refl, sym, ap, ◌∙◌, subst, append_assoc, arith}
use Rattle.std.proofs.lemmas.Bool.{cases_lt}
use Rattle.std.proofs.lemmas.List.{append-nil, length-append, length-take-le, drop_at, drop_all, take-append-drop}
use Rattle.ebml_core.specs.declared.vint.Size.{Size}
use Rattle.ebml_core.specs.declared.vint.Size.TheVariants.{Known, Unknown}
use Rattle.ebml_core.specs.declared.element.Element.{Element}
use Rattle.ebml_core.specs.declared.element.EbmlFault.{EbmlFault}
use Rattle.ebml_core.specs.Spelling.{unsigned_of, size_of, IsVint, Piece, IsPiece, spelling, element_of}
use Rattle.ebml_core.specs.Reading.{vint_at, element_at}
use Rattle.ebml_core.specs.Listing.{Listing, ends, breaks, gives, IsOpenPiece, open_element, Begins, Lists, EndsWithParent}
use Rattle.ebml_core.proofs.Numbers.{AreBytes}
use Rattle.ebml_core.proofs.Vints.{ok_is, vint_takes, vint_again}
use Rattle.ebml_core.proofs.Pieces.{same_vints, same_fronts, vint-some, spelling-some}
use Rattle.ebml_core.proofs.Headers.{TakesElement, element_parts, HeaderParts, header_parts, IsHeaded, Stands, headed-stands, Opens, headed-opens, element_at-advances, element_at-again, element_at-opened, element_at-end, element_at-fault, record_is}

-- ---- where the element lies that begins a text

pub record LiesFirst (place : ℕ) (text : List ℕ) (e : Element) (rest : List ℕ) : Type 0 where
  pub start : e.start ≡ place
  pub header : place < e.content
  pub content : e.content ≤ e.end
  pub end : e.end + length rest ≡ place + length text

length-spelling : (p : Piece) → length (spelling p) ≡ length p.id_octets + length p.size_octets + length p.content
length-spelling p = length-append p.id_octets (p.size_octets ++ p.content) ∙ omega (arith, length-append p.size_octets p.content)

pub begins-lies : (Ends : Element → List ℕ → List ℕ → Type 0) (place : ℕ) (text : List ℕ) (e : Element) (rest : List ℕ) → Begins Ends place text e rest → LiesFirst place text e rest
begins-lies Ends place text e rest b = by_kind b.is
  where
    p : Piece
    p = b.piece

    lies : 1 ≤ length p.id_octets → (d : Element) → d.start ≡ place → d.content ≡ place + (length p.id_octets + length p.size_octets) → d.end ≡ place + length (spelling p) → LiesFirst place text d rest
    lies some d start content end =
        record { start = start; header = omega (arith, content, some); content = omega (arith, content, end, length-spelling p); end = omega (arith, end, ap length b.spelled, length-append (spelling p) rest) }

    by_kind : (IsPiece p × (e ≡ element_of place p)) ⊎ (IsOpenPiece p × (e ≡ open_element place p) × Ends e p.content rest) → LiesFirst place text e rest
    by_kind (inl known) = subst (λ (d : Element). LiesFirst place text d rest) (sym known.1) (lies (spelling-some p known.0) (element_of place p) refl refl refl)
    by_kind (inr opened) = subst (λ (d : Element). LiesFirst place text d rest) (sym opened.1) (lies (vint-some p.id_octets opened.0.id.0) (open_element place p) refl refl refl)

-- ---- one thing at most

-- An ending splits a content and a rest in one way.
abbrev pub IsExact : (Element → List ℕ → List ℕ → Type 0) → Type 0
IsExact Ends = (d e : Element) (x y v w : List ℕ) → d.id ≡ e.id → d.content ≡ e.content → d.end ≡ d.content + length x → e.end ≡ e.content + length v → x ++ y ≡ v ++ w → Ends d x y → Ends e v w → length x ≡ length v

regroup : (p : Piece) (w : List ℕ) → spelling p ++ w ≡ p.id_octets ++ (p.size_octets ++ (p.content ++ w))
regroup p w = append_assoc p.id_octets (p.size_octets ++ p.content) w ∙ ap (λ (t : List ℕ). p.id_octets ++ t) (append_assoc p.size_octets p.content w)

-- two pieces at the front of a text have the same header
record SameHeaders (p q : Piece) (x y : List ℕ) : Type 0 where
  ids : p.id_octets ≡ q.id_octets
  sizes : p.size_octets ≡ q.size_octets
  behind : p.content ++ x ≡ q.content ++ y

same_headers : (p q : Piece) (x y : List ℕ) → IsVint 4 p.id_octets → IsVint 4 q.id_octets → IsVint 8 p.size_octets → IsVint 8 q.size_octets → spelling p ++ x ≡ spelling q ++ y → SameHeaders p q x y
same_headers p q x y ip iq sp sq same =
    let ids = same_vints 4 p.id_octets q.id_octets _ _ (omega arith) ip iq (sym (regroup p x) ∙ same ∙ regroup q y) in
    let sizes = same_vints 8 p.size_octets q.size_octets _ _ (omega arith) sp sq ids.1 in
    record { ids = ids.0; sizes = sizes.0; behind = sizes.1 }

known_or_open : {A : Type 0} (n : ℕ) (size : Size) → size ≡ Known n → Unknown ≡ size → A
known_or_open n size known opened = absurd cc

-- an element of known size isn't one of unknown size
one_kind : {A : Type 0} (p q : Piece) (x y : List ℕ) → IsPiece p → IsOpenPiece q → spelling p ++ x ≡ spelling q ++ y → A
one_kind p q x y hp hq same =
    let h = same_headers p q x y hp.id.0 hq.id.0 hp.size.0 hq.size.0 same in
    known_or_open (length p.content) p.size hp.content (hq.size.1 ∙ ap size_of (sym h.sizes) ∙ sym hp.size.1)

same_open : (Ends : Element → List ℕ → List ℕ → Type 0) → IsExact Ends → (place : ℕ) (p q : Piece) (x y : List ℕ) → IsOpenPiece p → IsOpenPiece q → spelling p ++ x ≡ spelling q ++ y → Ends (open_element place p) p.content x → Ends (open_element place q) q.content y → (open_element place p ≡ open_element place q) × (x ≡ y)
same_open Ends exact place p q x y hp hq same ep eq =
    let h = same_headers p q x y hp.id.0 hq.id.0 hp.size.0 hq.size.0 same in
    let id : p.id ≡ q.id = hp.id.1 ∙ ap unsigned_of h.ids ∙ sym hq.id.1 in
    let octets : place + (length p.id_octets + length p.size_octets) ≡ place + (length q.id_octets + length q.size_octets) = omega (arith, ap length h.ids, ap length h.sizes) in
    let len : length p.content ≡ length q.content = exact (open_element place p) (open_element place q) p.content x q.content y id octets (omega (arith, length-spelling p)) (omega (arith, length-spelling q)) h.behind ep eq in
    let end : place + length (spelling p) ≡ place + length (spelling q) = omega (arith, octets, len, length-spelling p, length-spelling q) in
    let rest : x ≡ y = sym (drop_at p.content x (length p.content) refl) ∙ ap (drop (length p.content)) h.behind ∙ drop_at q.content y (length p.content) (sym len) in
    (record_is (open_element place p) (open_element place q) id refl octets end refl, rest)

pub begins-one : (Ends : Element → List ℕ → List ℕ → Type 0) → IsExact Ends → (place : ℕ) (text : List ℕ) (d e : Element) (x y : List ℕ) → Begins Ends place text d x → Begins Ends place text e y → (d ≡ e) × (x ≡ y)
begins-one Ends exact place text d e x y a b = by_kinds a.is b.is
  where
    p : Piece
    p = a.piece

    q : Piece
    q = b.piece

    same : spelling p ++ x ≡ spelling q ++ y
    same = sym a.spelled ∙ b.spelled

    by_kinds : (IsPiece p × (d ≡ element_of place p)) ⊎ (IsOpenPiece p × (d ≡ open_element place p) × Ends d p.content x) → (IsPiece q × (e ≡ element_of place q)) ⊎ (IsOpenPiece q × (e ≡ open_element place q) × Ends e q.content y) → (d ≡ e) × (x ≡ y)
    by_kinds (inl m) (inl n) =
        let one = same_fronts p q x y m.0 n.0 same in
        (m.1 ∙ ap (element_of place) one.0 ∙ sym n.1, one.1)
    by_kinds (inl m) (inr n) = one_kind p q x y m.0 n.0 same
    by_kinds (inr m) (inl n) = one_kind q p y x n.0 m.0 (sym same)
    by_kinds (inr m) (inr n) =
        let one = same_open Ends exact place p q x y m.0 n.0 same (subst (λ (z : Element). Ends z p.content x) m.1 m.2) (subst (λ (z : Element). Ends z q.content y) n.1 n.2) in
        (m.1 ∙ one.0 ∙ sym n.1, one.1)

begins-some : (Ends : Element → List ℕ → List ℕ → Type 0) (place : ℕ) (text : List ℕ) (e : Element) (rest : List ℕ) → Begins Ends place text e rest → 1 ≤ length text
begins-some Ends place text e rest b = let lies = begins-lies Ends place text e rest b in omega (arith, lies.header, lies.content, lies.end)

none_at_end : {A : Type 0} (text : List ℕ) → text ≡ [] → 1 ≤ length text → A
none_at_end text empty some = absurd (omega (arith, ap length empty, some))

pub lists-one : (Ends : Element → List ℕ → List ℕ → Type 0) → IsExact Ends → (v w : Listing) (place : ℕ) (text : List ℕ) → Lists Ends place text v → Lists Ends place text w → v ≡ w
lists-one Ends exact ends ends place text h k = refl
lists-one Ends exact ends (breaks at) place text h k = none_at_end text h k.1
lists-one Ends exact ends (gives e later) place text h k = none_at_end text h (begins-some Ends place text e k.0 k.1)
lists-one Ends exact (breaks at) ends place text h k = none_at_end text k h.1
lists-one Ends exact (breaks at) (breaks other) place text h k = ap breaks (h.0 ∙ sym k.0)
lists-one Ends exact (breaks at) (gives e later) place text h k = absurd (h.2 e k.0 k.1)
lists-one Ends exact (gives d before) ends place text h k = none_at_end text k (begins-some Ends place text d h.0 h.1)
lists-one Ends exact (gives d before) (breaks at) place text h k = absurd (k.2 d h.0 h.1)
lists-one Ends exact (gives d before) (gives e later) place text h k =
    let one = begins-one Ends exact place text d e h.0 k.0 h.1 k.1 in
    let moved : Lists Ends d.end h.0 later = subst (λ (z : Element). Lists Ends z.end h.0 later) (sym one.0) (subst (λ (t : List ℕ). Lists Ends e.end t later) (sym one.1) k.2) in
    ap (gives d) (lists-one Ends exact before later d.end h.0 h.2 moved) ∙ ap (λ (z : Element). gives z later) one.0

pub exact-parent : IsExact EndsWithParent
exact-parent d e x y v w id content dx ev same hd he =
    ap length (sym (append-nil x) ∙ ap (λ (t : List ℕ). x ++ t) (sym hd) ∙ same ∙ ap (λ (t : List ℕ). v ++ t) he ∙ append-nil v)

-- ---- one thing at least

-- Wherever an element of unknown size starts, there is an end for it.
abbrev pub HasEnds : (Element → List ℕ → List ℕ → Type 0) → Type 0
HasEnds Ends = (id start content : ℕ) (text : List ℕ) → (n : ℕ) × (n ≤ length text) × Ends (record { id = id; start = start; content = content; end = content + n; unknown = true }) (take n text) (drop n text)

ok_or_err : {A : Type 0} (r : Result (Option Element) EbmlFault) (e : Element) (fault : EbmlFault) → r ≡ Ok (Some e) → r ≡ Err fault → A
ok_or_err r e fault first second = absurd cc

-- an element of unknown size that begins a text is read as one that reaches to its end
begins-opens : (place : ℕ) (text rest : List ℕ) (p : Piece) → IsOpenPiece p → text ≡ spelling p ++ rest → Opens place text (record (open_element place p) { end = place + length text })
begins-opens place text rest p h is =
    let octets = length p.id_octets + length p.size_octets in
    let front : text ≡ p.id_octets ++ (p.size_octets ++ (p.content ++ rest)) = is ∙ regroup p rest in
    let behind : drop octets text ≡ p.content ++ rest = ap (drop octets) (front ∙ sym (append_assoc p.id_octets p.size_octets (p.content ++ rest))) ∙ drop_at (p.id_octets ++ p.size_octets) (p.content ++ rest) octets (length-append p.id_octets p.size_octets) in
    record {
      ids = p.id_octets;
      sizes = p.size_octets;
      id = h.id;
      size = h.size;
      front = front ∙ ap (λ (t : List ℕ). p.id_octets ++ (p.size_octets ++ t)) (sym behind);
      start = refl;
      content = refl;
      end = refl;
    }

-- Where nothing is read, no element begins the text.
pub none-begins : (Ends : Element → List ℕ → List ℕ → Type 0) (place : ℕ) (text : List ℕ) (fault : EbmlFault) → element_at place text ≡ Err fault → (e : Element) (rest : List ℕ) → Begins Ends place text e rest → ⊥
none-begins Ends place text fault read e rest b = by_kind b.is
  where
    by_kind : (IsPiece b.piece × (e ≡ element_of place b.piece)) ⊎ (IsOpenPiece b.piece × (e ≡ open_element place b.piece) × Ends e b.piece.content rest) → ⊥
    by_kind (inl known) = ok_or_err (element_at place text) (element_of place b.piece) fault (ap (element_at place) b.spelled ∙ element_at-again place b.piece rest known.0) read
    by_kind (inr opened) =
        ok_or_err (element_at place text) (record (open_element place b.piece) { end = place + length text }) fault (element_at-opened place text _ (begins-opens place text rest b.piece opened.0 b.spelled) refl) read

-- An element of known size that is read begins the text.
pub stands-begins : (Ends : Element → List ℕ → List ℕ → Type 0) (place : ℕ) (text : List ℕ) (e : Element) → Stands place text e → Begins Ends place text e (drop (e.end - place) text)
stands-begins Ends place text e s = record { piece = s.piece; spelled = s.front; is = inl (s.is, s.placed) }

open_piece : List ℕ → List ℕ → ℕ → List ℕ → Piece
open_piece ids sizes id content = record { id_octets = ids; size_octets = sizes; id = id; size = Unknown; content = content }

-- So does one of unknown size, wherever it ends.
pub opens-begins : (Ends : Element → List ℕ → List ℕ → Type 0) (place : ℕ) (text : List ℕ) (e : Element) → (o : Opens place text e) → (n : ℕ) → n ≤ length (drop (length o.ids + length o.sizes) text)
    → Ends (record { id = e.id; start = place; content = e.content; end = e.content + n; unknown = true }) (take n (drop (length o.ids + length o.sizes) text)) (drop n (drop (length o.ids + length o.sizes) text))
    → Begins Ends place text (record { id = e.id; start = place; content = e.content; end = e.content + n; unknown = true }) (drop n (drop (length o.ids + length o.sizes) text))
unfolding open_piece
opens-begins Ends place text e o n short ended =
    let octets = length o.ids + length o.sizes in
    let behind = drop octets text in
    let p = open_piece o.ids o.sizes e.id (take n behind) in
    let d : Element = record { id = e.id; start = place; content = e.content; end = e.content + n; unknown = true } in
    let len : length (take n behind) ≡ n = length-take-le n behind short in
    let end : e.content + n ≡ place + length (spelling p) = omega (arith, o.content, length-spelling p, len) in
    record {
      piece = p;
      spelled = o.front ∙ ap (λ (t : List ℕ). o.ids ++ (o.sizes ++ t)) (sym (take-append-drop n behind)) ∙ sym (regroup p (drop n behind));
      is = inr (record { id = o.id; size = o.size }, record_is d (open_element place p) refl refl o.content end refl, ended);
    }

-- whether these are bytes
bytes_or_not : (octets : List ℕ) → AreBytes octets ⊎ (AreBytes octets → ⊥)
bytes_or_not [] = inl tt
bytes_or_not (octet ∷ octets) = elim (cases_lt octet 256) [
  | inr over ↦ inr (λ fits. omega (arith, over, fits.0))
  | inl below ↦ elim (bytes_or_not octets) [ inl fits ↦ inl (below, fits) | inr other ↦ inr (λ fits. other fits.1) ]
]

-- what begins a text: nothing, since it is empty; no element; or an element
abbrev Front : (Element → List ℕ → List ℕ → Type 0) → ℕ → List ℕ → Type 0
Front Ends place text =
    (text ≡ []) ⊎ (((1 ≤ length text) × ((e : Element) (rest : List ℕ) → Begins Ends place text e rest → ⊥)) ⊎ ((e : Element) × (rest : List ℕ) × Begins Ends place text e rest))

same_octets : (most : ℕ) (text a b : List ℕ) → vint_at most text ≡ Ok a → vint_at most text ≡ Ok b → a ≡ b
same_octets most text a b first second = ok_is a b (sym first ∙ second)

-- the octets of a header that begins a text are those that are read
headed-octets : (p : Piece) (text rest ids sizes : List ℕ) → IsVint 4 p.id_octets → IsVint 8 p.size_octets → text ≡ spelling p ++ rest → vint_at 4 text ≡ Ok ids → vint_at 8 (drop (length ids) text) ≡ Ok sizes → (p.id_octets ≡ ids) × (p.size_octets ≡ sizes)
headed-octets p text rest ids sizes id size is read_id read_size =
    let tail = p.size_octets ++ (p.content ++ rest) in
    let front : text ≡ p.id_octets ++ tail = is ∙ regroup p rest in
    let same_id : p.id_octets ≡ ids = same_octets 4 text p.id_octets ids (ap (vint_at 4) front ∙ vint_again 4 p.id_octets tail (omega arith) id) read_id in
    let behind : drop (length ids) text ≡ tail = ap (λ (n : ℕ). drop n text) (ap length (sym same_id)) ∙ ap (drop (length p.id_octets)) front ∙ drop_at p.id_octets tail (length p.id_octets) refl in
    (same_id, same_octets 8 (drop (length ids) text) p.size_octets sizes (ap (vint_at 8) behind ∙ vint_again 8 p.size_octets (p.content ++ rest) (omega arith) size) read_size)

begins-octets : (Ends : Element → List ℕ → List ℕ → Type 0) (place : ℕ) (text : List ℕ) (e : Element) (rest ids sizes : List ℕ) → Begins Ends place text e rest → vint_at 4 text ≡ Ok ids → vint_at 8 (drop (length ids) text) ≡ Ok sizes → AreBytes ids × AreBytes sizes
begins-octets Ends place text e rest ids sizes b read_id read_size = by_kind b.is
  where
    fits : IsVint 4 b.piece.id_octets → IsVint 8 b.piece.size_octets → AreBytes ids × AreBytes sizes
    fits id size =
        let same = headed-octets b.piece text rest ids sizes id size b.spelled read_id read_size in
        (subst AreBytes same.0 id.bytes, subst AreBytes same.1 size.bytes)

    by_kind : (IsPiece b.piece × (e ≡ element_of place b.piece)) ⊎ (IsOpenPiece b.piece × (e ≡ open_element place b.piece) × Ends e b.piece.content rest) → AreBytes ids × AreBytes sizes
    by_kind (inl known) = fits known.0.id.0 known.0.size.0
    by_kind (inr opened) = fits opened.0.id.0 opened.0.size.0

front_of : (Ends : Element → List ℕ → List ℕ → Type 0) → HasEnds Ends → (place : ℕ) (text : List ℕ) → Front Ends place text
front_of Ends has place text = by_read (element_at place text) refl
  where
    read_some : (e : Element) → element_at place text ≡ Ok (Some e) → 1 ≤ length text
    read_some e read = let a = element_at-advances place text e read in omega (arith, a.more, a.within)

    headed : (e : Element) → (a : TakesElement place text e) → (p : HeaderParts text a.head) → IsHeaded text p.ids p.sizes → (unknown : Bool) → e.unknown ≡ unknown → Front Ends place text
    headed e a p h false known = inr (inr (e, drop (e.end - place) text, stands-begins Ends place text e (headed-stands place text e a p h known)))
    headed e a p h true opened =
        let o = headed-opens place text e a p h opened in
        let cut = has e.id place e.content (drop (length o.ids + length o.sizes) text) in
        inr (inr (record { id = e.id; start = place; content = e.content; end = e.content + cut.0; unknown = true }, drop cut.0 (drop (length o.ids + length o.sizes) text), opens-begins Ends place text e o cut.0 cut.1 cut.2))

    by_octets : (e : Element) → element_at place text ≡ Ok (Some e) → (a : TakesElement place text e) → (p : HeaderParts text a.head) → AreBytes p.ids ⊎ (AreBytes p.ids → ⊥) → AreBytes p.sizes ⊎ (AreBytes p.sizes → ⊥) → Front Ends place text
    by_octets e read a p (inl ids) (inl sizes) =
        headed e a p (record { id = vint_takes 4 text p.ids (omega arith) ids p.id; size = vint_takes 8 (drop (length p.ids) text) p.sizes (omega arith) sizes p.size }) e.unknown refl
    by_octets e read a p (inr others) sizes = inr (inl (read_some e read, λ d rest b. others (begins-octets Ends place text d rest p.ids p.sizes b p.id p.size).0))
    by_octets e read a p (inl ids) (inr others) = inr (inl (read_some e read, λ d rest b. others (begins-octets Ends place text d rest p.ids p.sizes b p.id p.size).1))

    by_read : (r : Result (Option Element) EbmlFault) → element_at place text ≡ r → Front Ends place text
    by_read (Ok None) read = inl (element_at-end place text read)
    by_read (Err fault) read = inr (inl ((element_at-fault place text fault read).1, none-begins Ends place text fault read))
    by_read (Ok (Some e)) read =
        let a = element_parts place text e read in
        let p = header_parts text a.head a.read in
        by_octets e read a p (bytes_or_not p.ids) (bytes_or_not p.sizes)

pub listed_upto : (Ends : Element → List ℕ → List ℕ → Type 0) → HasEnds Ends → (most place : ℕ) (text : List ℕ) → length text < most → (w : Listing) × Lists Ends place text w
listed_upto Ends has zero place text few = absurd (omega arith)
listed_upto Ends has (suc most) place text few = elim (front_of Ends has place text) [
  | inl empty ↦ (ends, empty)
  | inr (inl none) ↦ (breaks place, (refl, none.0, none.1))
  | inr (inr (e, rest, b)) ↦
      let lies = begins-lies Ends place text e rest b in
      let later = listed_upto Ends has most e.end rest (omega (arith, lies.header, lies.content, lies.end, few)) in
      (gives e later.0, (rest, b, later.1))
]

ends-parent : HasEnds EndsWithParent
ends-parent id start content text = (length text, omega arith, drop_all (length text) text (omega arith))

-- What a text lists where elements of unknown size end with their parent.
pub listed : (place : ℕ) (text : List ℕ) → (w : Listing) × Lists EndsWithParent place text w
listed place text = listed_upto EndsWithParent ends-parent (suc (length text)) place text (omega arith)
