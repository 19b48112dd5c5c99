-- What a walker has yet to go over, and where the content that it goes over ends.
use Rattle.std.proofs.Common.{◌≡◌, ℕ, ◌+◌, ◌-◌, ◌≤◌, Bool, true, false, List, ◌++◌, length, take, drop, Some, Result, Ok, Err, refl, sym, ap, ◌∙◌, subst, arith}
use Rattle.std.specs.Prelude.{IfOk}
use Rattle.std.proofs.lemmas.List.{length-append, length-drop, length-take, take_at, take-take, drop_at, drop-take, drop-drop, drop_all}
use Rattle.ebml_core.specs.declared.element.Element.{Element}
use Rattle.ebml_core.specs.declared.element.EbmlFault.{EbmlFault}
use Rattle.ebml_core.specs.Spelling.{between}
use Rattle.ebml_core.specs.Reading.{found, element_at}
use Rattle.ebml_core.specs.Listing.{Listing, ends, breaks, gives, Begins, EndsWithParent, EndsBefore}
use Rattle.ebml_core.specs.Walking.{Position, ahead, HasAhead}
use Rattle.ebml_core.proofs.Numbers.{AreBytes, AreBytes-drop}
use Rattle.ebml_core.proofs.Vints.{vint_takes-bytes}
use Rattle.ebml_core.proofs.Headers.{TakesElement, element_parts, HeaderParts, header_parts, IsHeaded, headed-stands, headed-opens, element_at-fault, record_is}
use Rattle.ebml_core.proofs.Listings.{stands-begins, opens-begins, none-begins}
use Rattle.ebml_core.proofs.Scans.{end_before, parted}

pub drop-between : (bytes : List ℕ) (from mid to : ℕ) → from ≤ mid → mid ≤ to → drop (mid - from) (between bytes from to) ≡ between bytes mid to
drop-between bytes from mid to le le2 =
    let parts : to - from ≡ (mid - from) + (to - mid) = omega arith in
    ap (λ (n : ℕ). drop (mid - from) (take n (drop from bytes))) parts ∙ drop-take (mid - from) (to - mid) (drop from bytes) ∙ ap (take (to - mid)) (drop-drop (mid - from) from bytes ∙ ap (λ (n : ℕ). drop n bytes) (omega arith))

pub long-between : (bytes : List ℕ) (from to : ℕ) → from ≤ to → to ≤ length bytes → length (between bytes from to) ≡ to - from
long-between bytes from to order within = length-take (to - from) (drop from bytes) ∙ omega (arith, length-drop from bytes, order, within)

-- An element that is read begins the text.
pub read-begins : (place : ℕ) (text : List ℕ) (e : Element) → AreBytes text → element_at place text ≡ Ok (Some e) → Begins EndsWithParent place text e (drop (e.end - place) text)
read-begins place text e fits read = by_size e.unknown refl
  where
    a : TakesElement place text e
    a = element_parts place text e read

    p : HeaderParts text a.head
    p = header_parts text a.head a.read

    headed : IsHeaded text p.ids p.sizes
    headed = record { id = vint_takes-bytes 4 text p.ids (omega arith) fits p.id; size = vint_takes-bytes 8 (drop (length p.ids) text) p.sizes (omega arith) (AreBytes-drop (length p.ids) text fits) p.size }

    by_size : (unknown : Bool) → e.unknown ≡ unknown → Begins EndsWithParent place text e (drop (e.end - place) text)
    by_size false known = stands-begins EndsWithParent place text e (headed-stands place text e a p headed known)
    by_size true opened =
        let o = headed-opens place text e a p headed opened in
        let behind = drop (length o.ids + length o.sizes) text in
        let all = opens-begins EndsWithParent place text e o (length behind) (omega arith) (drop_all (length behind) behind (omega arith)) in
        let long : length behind ≡ length text - (length o.ids + length o.sizes) = length-drop (length o.ids + length o.sizes) text in
        let whole : length text ≡ length o.ids + (length o.sizes + length behind) = ap length o.front ∙ length-append o.ids (o.sizes ++ behind) ∙ ap (λ (n : ℕ). length o.ids + n) (length-append o.sizes behind) in
        let same : record { id = e.id; start = place; content = e.content; end = e.content + length behind; unknown = true } ≡ e = record_is _ e refl (sym o.start) refl (omega (arith, o.content, o.end, whole)) (sym opened) in
        let none_left : drop (length behind) behind ≡ drop (e.end - place) text = drop_all (length behind) behind (omega arith) ∙ sym (drop_all (e.end - place) text (omega (arith, o.end))) in
        subst (λ (d : Element). Begins EndsWithParent place text d (drop (e.end - place) text)) same (subst (Begins EndsWithParent place text _) none_left all)

-- ---- a walker's next answer

pub ahead-end : (p : Position) → p.place ≡ p.end → HasAhead p ends
ahead-end p at_end =
    let none_left : p.end - p.place ≡ 0 = omega arith in
    ap (λ (n : ℕ). take n (drop p.place p.bytes)) none_left

pub ahead-fault : (p : Position) (fault : EbmlFault) → element_at p.place (ahead p) ≡ Err fault → HasAhead p (breaks fault.at)
ahead-fault p fault read = let there = element_at-fault p.place (ahead p) fault read in (there.0, there.1, none-begins EndsWithParent p.place (ahead p) fault read)

pub ahead-gives : (p : Position) (e : Element) (later : Listing) → p.place ≤ e.end → e.end ≤ p.end → Begins EndsWithParent p.place (ahead p) e (drop (e.end - p.place) (ahead p)) → HasAhead (record p { place = e.end }) later → HasAhead p (gives e later)
ahead-gives p e later order within begins h =
    let rest : drop (e.end - p.place) (ahead p) ≡ between p.bytes e.end p.end = drop-between p.bytes p.place e.end p.end order within in
    (between p.bytes e.end p.end, subst (Begins EndsWithParent p.place (ahead p) e) rest begins, h)

-- whatever was found
pub found-begins : (place : ℕ) (text : List ℕ) (r : Result Element EbmlFault) → AreBytes text → element_at place text ≡ found r → IfOk r (λ e. Begins EndsWithParent place text e (drop (e.end - place) text))
found-begins place text (Ok e) fits read = read-begins place text e fits read
found-begins place text (Err fault) fits read = tt

-- Where a scan of what lies ahead stops, there the content ends.
pub scanned : (ids : List ℕ) (p : Position) (stop : ℕ) (w : Listing) → p.place ≤ p.end → p.end ≤ length p.bytes → HasAhead p w → stop ≡ end_before ids p.end w → EndsBefore ids p.place (between p.bytes p.place stop) (between p.bytes stop p.end)
scanned ids p stop w order within h is =
    let text = ahead p in
    let s = parted ids w p.place text h in
    let long : length text ≡ p.end - p.place = long-between p.bytes p.place p.end order within in
    let stops : stop ≡ p.place + length s.content = is ∙ ap (λ (n : ℕ). end_before ids n w) (omega (arith, long, order)) ∙ sym s.stop in
    let few : length s.content ≤ p.end - p.place = omega (arith, long, ap length s.whole, length-append s.content s.rest) in
    let front : between p.bytes p.place stop ≡ s.content =
    ap (λ (n : ℕ). take n (drop p.place p.bytes)) (omega (arith, stops)) ∙ sym (take-take (length s.content) (p.end - p.place) (drop p.place p.bytes) few) ∙ ap (take (length s.content)) s.whole ∙ take_at s.content s.rest (length s.content) refl in
    let behind : between p.bytes stop p.end ≡ s.rest =
    sym (drop-between p.bytes p.place stop p.end (omega (arith, stops)) (omega (arith, stops, few, order))) ∙ ap (drop (stop - p.place)) s.whole ∙ drop_at s.content s.rest (stop - p.place) (omega (arith, stops)) in
    subst (λ (x : List ℕ). EndsBefore ids p.place x (between p.bytes stop p.end)) (sym front) (subst (EndsBefore ids p.place s.content) (sym behind) s.ended)
