-- The slices that end bytes.
use Rattle.std.proofs.Common.{◌≡◌, ℕ, ◌+◌, ◌-◌, ◌<◌, ◌≤◌, Bool, true, List, [], ◌∷◌, ◌++◌, length, take, drop, map, reverse, get_or, eqb, refl, sym, ◌∙◌, ap, subst, arith, append_assoc}
use Rattle.std.specs.Prelude.{slice_range, All}
use Rattle.std.proofs.lemmas.List.{length-append, length-take-le, length-drop, take_at, drop_at, drop-drop, drop-take, append-nil, reverse-append, reverse-reverse, map-append, length-reverse, get_or-reverse, get_or-map, take_more, take_all, length-map}
use Rattle.std.proofs.lemmas.List.Elements.{All-from_get_or, All-get_or, All-push}
use Rattle.std.proofs.lemmas.Bool.{eqb-true, eq-eqb}
use Rattle.tl_base.specs.Parity.{parity}
use Rattle.std.proofs.Math.Seq.{take-add}
use Rattle.byteorder.specs.Endian.{big_number}
use Rattle.ffv1_frame.specs.declared.chain.Span.{Span}
use Rattle.ffv1_frame.specs.Packet.{Slice, IsSlice, EndsWith, IsSpan, HasParity, no_slice, bytes_of, slice_at, footer_length}

-- ---- a slice by its places
pub take-split : (xs : List ℕ) (a b e : ℕ) → a ≤ b → b ≤ e → take e xs ≡ take a xs ++ (slice_range xs a b ++ slice_range xs b e)
take-split xs a b e ab be =
    ap (λ n. take n xs) {x = e} {y = a + ((b - a) + (e - b))} (omega arith)
    ∙ take-add a ((b - a) + (e - b)) xs
    ∙ ap (λ (l : List ℕ). take a xs ++ l) (take-add (b - a) (e - b) (drop a xs) ∙ ap (λ (l : List ℕ). take (b - a) (drop a xs) ++ take (e - b) l) (drop-drop (b - a) a xs ∙ ap (λ n. drop n xs) {x = a + (b - a)} {y = b} (omega arith)))

length-range : (xs : List ℕ) (a b : ℕ) → a ≤ b → b ≤ length xs → length (slice_range xs a b) ≡ b - a
length-range xs a b ab bl = length-take-le (b - a) (drop a xs) (omega (arith, length-drop a xs))

pub span-IsSlice : (ec : Bool) (xs : List ℕ) (from footer end : ℕ) → from ≤ footer → end ≤ length xs → end ≡ footer + footer_length ec → footer ≡ from + big_number 3 (slice_range xs footer end)
    → IsSlice ec (record { content = slice_range xs from footer; footer = slice_range xs footer end })
span-IsSlice ec xs from footer end order within at_end at_footer = record {
  footer = length-range xs footer end (omega arith) within ∙ omega arith;
  size = omega (arith, length-range xs from footer order (omega arith));
}

-- ---- the last slice is the only one
ends-footer : (xs before content footer : List ℕ) (end at : ℕ) → take end xs ≡ before ++ (content ++ footer) → end ≤ length xs → end ≡ at + length footer → footer ≡ slice_range xs at end
ends-footer xs before content footer end at is within e =
    let long : length before + (length content + length footer) ≡ end =
    omega (arith, length-append before (content ++ footer), length-append content footer, ap length is, length-take-le end xs within) in
    sym (drop_at (before ++ content) footer at (omega (arith, length-append before content)))
    ∙ ap (drop at) (append_assoc before content footer ∙ sym is)
    ∙ ap (λ n. drop at (take n xs)) {x = end} {y = at + (end - at)} (omega arith)
    ∙ drop-take at (end - at) xs

pub no_room : (ec : Bool) (xs before : List ℕ) (slice : Slice) (end at : ℕ) → end ≤ length xs → end ≡ at + footer_length ec → at < big_number 3 (slice_range xs at end)
    → take end xs ≡ before ++ bytes_of slice → IsSlice ec slice → ⊥
no_room ec xs before slice end at within e short is sound =
    let same : slice.footer ≡ slice_range xs at end = ends-footer xs before slice.content slice.footer end at is within (omega (arith, sound.footer)) in
    let size : big_number 3 slice.footer ≡ big_number 3 (slice_range xs at end) = ap (big_number 3) same in
    omega (arith, sound.size, sound.footer, size, length-append before (slice.content ++ slice.footer), length-append slice.content slice.footer, ap length is, length-take-le end xs within)

-- two lists that are parted at one place from their end
same_parts : (a b c d : List ℕ) → a ++ b ≡ c ++ d → length b ≡ length d → (a ≡ c) × (b ≡ d)
same_parts a b c d same len =
    let places : length a ≡ length c = omega (arith, ap length same, length-append a b, length-append c d) in (
      sym (take_at a b (length a) refl) ∙ ap (take (length a)) same ∙ take_at c d (length a) (sym places),
      sym (drop_at a b (length a) refl) ∙ ap (drop (length a)) same ∙ drop_at c d (length a) (sym places),
    )

pub same_last : (ec : Bool) (before before' : List ℕ) (s t : Slice) → before ++ bytes_of s ≡ before' ++ bytes_of t → IsSlice ec s → IsSlice ec t → (before ≡ before') × (s ≡ t)
same_last ec before before' s t same h i =
    let whole : (before ++ s.content) ++ s.footer ≡ (before' ++ t.content) ++ t.footer = append_assoc before s.content s.footer ∙ same ∙ sym (append_assoc before' t.content t.footer) in
    let footers = same_parts (before ++ s.content) s.footer (before' ++ t.content) t.footer whole (h.footer ∙ sym i.footer) in
    let sizes : length s.content ≡ length t.content = sym h.size ∙ ap (big_number 3) footers.1 ∙ i.size in
    let contents = same_parts before s.content before' t.content footers.0 sizes in
    (contents.0, same_slice s t contents.1 footers.1)
  where
    same_slice : (s t : Slice) → s.content ≡ t.content → s.footer ≡ t.footer → s ≡ t
    same_slice s t content footer =
        ap (λ (c : List ℕ). record { content = c; footer = s.footer }) content ∙ ap (λ (f : List ℕ). record { content = t.content; footer = f }) footer

-- ---- slices found from the end
-- What was found ends the bytes, before which there is a front, and no other slices end them.
pub record AreFound (ec : Bool) (bytes front : List ℕ) (found : List Slice) : Type 0 where
  pub enough : (others : List Slice) → EndsWith ec front others → EndsWith ec bytes (found ++ others)
  pub alone : (all : List Slice) → EndsWith ec bytes all → (others : List Slice) × (all ≡ found ++ others) × EndsWith ec front others

pub none_found : (ec : Bool) (bytes : List ℕ) → AreFound ec bytes bytes []
none_found ec bytes = record { enough = λ others h. h; alone = λ all h. (all, refl, h) }

last-alone : (ec : Bool) (front before : List ℕ) (s : Slice) (others : List Slice) → front ≡ before ++ bytes_of s → IsSlice ec s → 0 < length front → EndsWith ec front others
    → (more : List Slice) × (others ≡ s ∷ more) × EndsWith ec before more
last-alone ec front before s [] is sound some h = absurd (omega (arith, ap length h))
last-alone ec front before s (t ∷ more) is sound some h =
    let same = same_last ec h.0 before t s (sym h.1 ∙ is) h.2 sound in
    (more, ap (λ (x : Slice). x ∷ more) same.1, subst (λ (b : List ℕ). EndsWith ec b more) same.0 h.3)

pub one_found : (ec : Bool) (bytes front before : List ℕ) (found : List Slice) (s : Slice) → AreFound ec bytes front found → front ≡ before ++ bytes_of s → IsSlice ec s → 0 < length front
    → AreFound ec bytes before (found ++ s ∷ [])
one_found ec bytes front before found s h is sound some = record {
  enough = λ others ends. subst (λ (l : List Slice). EndsWith ec bytes l) (sym (append_assoc found (s ∷ []) others)) (h.enough (s ∷ others) (before, is, sound, ends));
  alone = λ all ends. alone_of ec bytes front before found s all h is sound some (h.alone all ends);
}
  where
    alone_of : (ec : Bool) (bytes front before : List ℕ) (found : List Slice) (s : Slice) (all : List Slice) → AreFound ec bytes front found → front ≡ before ++ bytes_of s → IsSlice ec s → 0 < length front
        → ((others : List Slice) × (all ≡ found ++ others) × EndsWith ec front others) → (others : List Slice) × (all ≡ (found ++ s ∷ []) ++ others) × EndsWith ec before others
    alone_of ec bytes front before found s all h is sound some old =
        let last = last-alone ec front before s old.0 is sound some old.2 in
        (last.0, old.1 ∙ ap (λ (l : List Slice). found ++ l) last.1 ∙ sym (append_assoc found (s ∷ []) last.0), last.2)

pub all_found : (ec : Bool) (bytes front : List ℕ) (found : List Slice) → AreFound ec bytes front found → front ≡ [] → EndsWith ec bytes found
all_found ec bytes front found h is = subst (λ (l : List Slice). EndsWith ec bytes l) (append-nil found) (h.enough [] is)

pub not_found : (ec : Bool) (bytes front : List ℕ) (found all : List Slice) → AreFound ec bytes front found → 0 < length front
    → ((before : List ℕ) (slice : Slice) → front ≡ before ++ bytes_of slice → IsSlice ec slice → ⊥) → EndsWith ec bytes all → ⊥
not_found ec bytes front found all h some none ends = no_last ec front (h.alone all ends).0 some none (h.alone all ends).2
  where
    no_last : (ec : Bool) (front : List ℕ) (others : List Slice) → 0 < length front → ((before : List ℕ) (slice : Slice) → front ≡ before ++ bytes_of slice → IsSlice ec slice → ⊥) → EndsWith ec front others → ⊥
    no_last ec front [] some none h = omega (arith, ap length h)
    no_last ec front (s ∷ more) some none h = none h.0 s h.1 h.2

-- ---- slices in the packet's order
map-reverse : {A B : Type 0} (f : A → B) (xs : List A) → map f (reverse xs) ≡ reverse (map f xs)
map-reverse f [] = refl
map-reverse f (x ∷ xs) =
    ap (map f) (reverse-append (x ∷ []) xs) ∙ map-append f (reverse xs) (x ∷ []) ∙ ap (λ l. l ++ f x ∷ []) (map-reverse f xs) ∙ sym (reverse-append (f x ∷ []) (map f xs))

pub in_order : (ec : Bool) (packet : List ℕ) (backwards spans : List Span) → spans ≡ reverse backwards → EndsWith ec packet (map (slice_at packet) backwards) → EndsWith ec packet (reverse (map (slice_at packet) spans))
in_order ec packet backwards spans is h =
    let same : reverse (map (slice_at packet) spans) ≡ map (slice_at packet) backwards =
    ap (λ (l : List Span). reverse (map (slice_at packet) l)) is ∙ ap reverse (map-reverse (slice_at packet) backwards) ∙ reverse-reverse (map (slice_at packet) backwards) in
    subst (λ (l : List Slice). EndsWith ec packet l) (sym same) h

pub All-reverse : {A : Type 0} (P : A → Type 0) (d : A) (xs ys : List A) → ys ≡ reverse xs → All P xs → All P ys
All-reverse P d xs ys is h =
    All-from_get_or P ys d (λ i lt.
    let here : i < length xs = omega (arith, ap length is, length-reverse xs) in
    subst P (sym (ap (λ l. get_or l i d) is ∙ get_or-reverse xs i d here)) (All-get_or P xs (length xs - 1 - i) d (omega arith) h))

pub parity-at : (xs : List ℕ) (a b e : ℕ) → a ≤ b → b ≤ e → slice_range xs a e ≡ slice_range xs a b ++ slice_range xs b e
parity-at xs a b e ab be =
    ap (λ n. take n (drop a xs)) {x = e - a} {y = (b - a) + (e - b)} (omega arith)
    ∙ take-add (b - a) (e - b) (drop a xs) ∙ ap (λ (l : List ℕ). take (b - a) (drop a xs) ++ take (e - b) l) (drop-drop (b - a) a xs ∙ ap (λ n. drop n xs) {x = a + (b - a)} {y = b} (omega arith))

pub has_parity-is : (packet : List ℕ) (span : Span) (number : ℕ) → IsSpan packet span → number ≡ parity (slice_range packet span.from span.end)
    → (eqb number 0 ≡ true → HasParity (slice_at packet span)) × (HasParity (slice_at packet span) → eqb number 0 ≡ true)
has_parity-is packet span number h is =
    let whole : number ≡ parity (bytes_of (slice_at packet span)) = is ∙ ap parity (parity-at packet span.from span.footer span.end h.content h.footer) in
    ((λ e. sym whole ∙ eqb-true number 0 e), (λ e. eq-eqb number 0 (whole ∙ e)))

-- ---- one slice after the other
pub parities-next : (packet : List ℕ) (spans : List Span) (i : ℕ) (span : Span) → i < length spans → span ≡ get_or spans i span → HasParity (slice_at packet span)
    → All HasParity (take i (map (slice_at packet) spans)) → All HasParity (take (i + 1) (map (slice_at packet) spans))
parities-next packet spans i span lt is here h =
    let all : List Slice = map (slice_at packet) spans in
    let at : get_or all i no_slice ≡ slice_at packet span = get_or-map (slice_at packet) spans i span no_slice lt ∙ ap (slice_at packet) (sym is) in
    subst (λ (l : List Slice). All HasParity l) (sym (take_more all i no_slice (omega (arith, length-map spans (slice_at packet)))))
    (All-push HasParity (take i all) (get_or all i no_slice) h (subst HasParity (sym at) here))

pub parities-done : (packet : List ℕ) (spans : List Span) (i : ℕ) → length spans ≤ i → All HasParity (take i (map (slice_at packet) spans)) → All HasParity (map (slice_at packet) spans)
parities-done packet spans i le h =
    subst (λ (l : List Slice). All HasParity l) (take_all i (map (slice_at packet) spans) (omega (arith, length-map spans (slice_at packet)))) h

pub wrong-at : (packet : List ℕ) (spans : List Span) (i : ℕ) (span : Span) → i < length spans → span ≡ get_or spans i span → (HasParity (slice_at packet span) → ⊥) → HasParity (get_or (map (slice_at packet) spans) i no_slice) → ⊥
wrong-at packet spans i span lt is wrong h =
    wrong (subst HasParity (get_or-map (slice_at packet) spans i span no_slice lt ∙ ap (slice_at packet) (sym is)) h)
