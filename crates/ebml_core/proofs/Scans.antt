-- Where a content ends is where a scan of what is listed stops.
use Rattle.std.proofs.Common.{◌≡◌, ◌⊎◌, inl, inr, ℕ, suc, ◌+◌, Bool, true, false, cond, List, [], ◌++◌, length, take, drop, refl, sym, ap, ◌∙◌, subst, append_assoc, arith}
use Rattle.std.proofs.lemmas.Bool.{true≢false}
use Rattle.std.proofs.lemmas.List.{append-nil, length-append, take_at, drop_at}
use Rattle.ebml_core.specs.declared.element.Element.{Element}
use Rattle.ebml_core.specs.Spelling.{Piece, IsPiece, spelling, element_of}
use Rattle.ebml_core.specs.Listing.{Listing, ends, breaks, gives, IsOpenPiece, open_element, Begins, Lists, EndsWithParent, is_among, ListsNone, AreKnown, BeginsWithOne, EndsBefore, EndsBeforeNext}
use Rattle.ebml_core.proofs.Listings.{LiesFirst, begins-lies, IsExact, exact-parent, lists-one, HasEnds, listed, listed_upto}

-- where the first element of one of these ids starts; where there is none, the end
unfoldable pub end_before : List ℕ → ℕ → Listing → ℕ
end_before ids end ends = end
end_before ids end (breaks at) = end
end_before ids end (gives e later) = cond (is_among ids e) e.start (end_before ids end later)

pub end_before-here : (ids : List ℕ) (end : ℕ) (e : Element) (later : Listing) → is_among ids e ≡ true → end_before ids end (gives e later) ≡ e.start
unfolding end_before
end_before-here ids end e later stop = ap (λ (b : Bool). cond b e.start (end_before ids end later)) stop

pub end_before-past : (ids : List ℕ) (end : ℕ) (e : Element) (later : Listing) → is_among ids e ≡ false → end_before ids end (gives e later) ≡ end_before ids end later
unfolding end_before
end_before-past ids end e later past = ap (λ (b : Bool). cond b e.start (end_before ids end later)) past

end_before-none : (ids : List ℕ) (end : ℕ) (w : Listing) → ListsNone ids w → end_before ids end w ≡ end
unfolding end_before
end_before-none ids end ends none = refl
end_before-none ids end (breaks at) none = refl
end_before-none ids end (gives e later) none = end_before-past ids end e later none.0 ∙ end_before-none ids end later none.1

-- ---- from the scan to the end

-- A text, parted where the scan of what it lists stops.
pub record IsParted (ids : List ℕ) (place : ℕ) (text : List ℕ) (w : Listing) : Type 0 where
  pub content : List ℕ
  pub rest : List ℕ
  pub whole : text ≡ content ++ rest
  pub stop : place + length content ≡ end_before ids (place + length text) w
  pub ended : EndsBefore ids place content rest

none_listed : (ids : List ℕ) (place : ℕ) (text : List ℕ) (w : Listing) → Lists EndsWithParent place text w → text ≡ [] → ListsNone ids w
none_listed ids place text ends h empty = tt
none_listed ids place text (breaks at) h empty = tt
none_listed ids place text (gives e later) h empty =
    let lies = begins-lies EndsWithParent place text e h.0 h.1 in
    absurd (omega (arith, lies.header, lies.content, lies.end, ap length empty))

-- The content ends with its parent, and lists none.
parted-last : (ids : List ℕ) (place : ℕ) (text : List ℕ) (w : Listing) → Lists EndsWithParent place text w → ListsNone ids w → IsParted ids place text w
parted-last ids place text w listed none =
    record { content = text; rest = []; whole = sym (append-nil text); stop = sym (end_before-none ids (place + length text) w none); ended = (w, listed, none, inl refl) }

-- An element of known size stands before what is parted.
parted-known : (ids : List ℕ) (place : ℕ) (text : List ℕ) (e : Element) (later : Listing) (r : List ℕ) (p : Piece) → IsPiece p → e ≡ element_of place p → text ≡ spelling p ++ r → is_among ids e ≡ false → IsParted ids e.end r later → IsParted ids place text (gives e later)
parted-known ids place text e later r p is placed spelled other s =
    let known : e.unknown ≡ false = ap (λ (x : Element). x.unknown) placed in
    let end : e.end ≡ place + length (spelling p) = ap (λ (x : Element). x.end) placed in
    let at : e.end + length s.content ≡ place + length (spelling p ++ s.content) = omega (arith, end, length-append (spelling p) s.content) in
    let total : e.end + length r ≡ place + length text = omega (arith, end, ap length spelled, length-append (spelling p) r) in
    record {
      content = spelling p ++ s.content;
      rest = s.rest;
      whole = spelled ∙ ap (λ (x : List ℕ). spelling p ++ x) s.whole ∙ sym (append_assoc (spelling p) s.content s.rest);
      stop = sym at ∙ s.stop ∙ ap (λ (n : ℕ). end_before ids n later) total ∙ sym (end_before-past ids (place + length text) e later other);
      ended = (
        gives e s.ended.0,
        (s.content, record { piece = p; spelled = refl; is = inl (is, placed) }, s.ended.1),
        (other, s.ended.2),
        elim s.ended.3 [
          | inl empty ↦ inl empty
          | inr one ↦ inr ((known, one.0), subst (λ (n : ℕ). BeginsWithOne ids n s.rest) at one.1)
        ],
      );
    }

pub parted : (ids : List ℕ) (w : Listing) (place : ℕ) (text : List ℕ) → Lists EndsWithParent place text w → IsParted ids place text w
parted ids ends place text h = parted-last ids place text ends h tt
parted ids (breaks at) place text h = parted-last ids place text (breaks at) h tt
parted ids (gives e later) place text h = by_test (is_among ids e) refl (parted ids later e.end h.0 h.2)
  where
    b : Begins EndsWithParent place text e h.0
    b = h.1

    lies : LiesFirst place text e h.0
    lies = begins-lies EndsWithParent place text e h.0 b

    by_kind : is_among ids e ≡ false → IsParted ids e.end h.0 later → (IsPiece b.piece × (e ≡ element_of place b.piece)) ⊎ (IsOpenPiece b.piece × (e ≡ open_element place b.piece) × EndsWithParent e b.piece.content h.0) → IsParted ids place text (gives e later)
    by_kind other s (inl known) = parted-known ids place text e later h.0 b.piece known.0 known.1 b.spelled other s
    by_kind other s (inr opened) = parted-last ids place text (gives e later) h (other, none_listed ids e.end h.0 later h.2 opened.2)

    by_test : (stop : Bool) → is_among ids e ≡ stop → IsParted ids e.end h.0 later → IsParted ids place text (gives e later)
    by_test false other s = by_kind other s b.is
    by_test true here s =
        let start : place + length {A = ℕ} [] ≡ place = omega arith in
        record {
          content = [];
          rest = text;
          whole = refl;
          stop = start ∙ sym lies.start ∙ sym (end_before-here ids (place + length text) e later here);
          ended = (ends, refl, tt, inr (tt, (e, h.0, subst (λ (n : ℕ). Begins EndsWithParent n text e h.0) (sym start) b, here)));
        }

-- ---- from the end to the scan

-- A scan of a content and the rest stops where the content ends.
pub StopsAt : List ℕ → ℕ → List ℕ → List ℕ → Type 0
StopsAt ids place content rest = (behind : Listing) × Lists EndsWithParent place (content ++ rest) behind × (place + length content ≡ end_before ids (place + length (content ++ rest)) behind)

-- whole elements, and behind them one of these ids
stops-behind : (ids : List ℕ) (inside : Listing) (place : ℕ) (content rest : List ℕ) → Lists EndsWithParent place content inside → ListsNone ids inside → AreKnown inside → BeginsWithOne ids (place + length content) rest → StopsAt ids place content rest
unfolding StopsAt
stops-behind ids ends place content rest h none whole (e, r, b, here) =
    let start : place + length content ≡ place = omega (arith, ap length h) in
    let front : content ++ rest ≡ rest = ap (λ (x : List ℕ). x ++ rest) h in
    let lies = begins-lies EndsWithParent (place + length content) rest e r b in
    let later = listed e.end r in
    let first : Begins EndsWithParent place (content ++ rest) e r = subst (λ (n : ℕ). Begins EndsWithParent n (content ++ rest) e r) start (subst (λ (x : List ℕ). Begins EndsWithParent (place + length content) x e r) (sym front) b) in
    (gives e later.0, (r, first, later.1), sym lies.start ∙ sym (end_before-here ids (place + length (content ++ rest)) e later.0 here))
stops-behind ids (breaks at) place content rest h none whole one = absurd whole
stops-behind ids (gives d later) place content rest h none whole one = by_kind (λ there. stops-behind ids later d.end h.0 rest h.2 none.1 whole.1 there) h.1.is
  where
    p : Piece
    p = h.1.piece

    by_kind : (BeginsWithOne ids (d.end + length h.0) rest → StopsAt ids d.end h.0 rest) → (IsPiece p × (d ≡ element_of place p)) ⊎ (IsOpenPiece p × (d ≡ open_element place p) × EndsWithParent d p.content h.0) → StopsAt ids place content rest
    by_kind go (inr opened) = absurd (true≢false (ap (λ (x : Element). x.unknown) (sym opened.1) ∙ whole.0))
    by_kind go (inl known) =
        let lies = begins-lies EndsWithParent place content d h.0 h.1 in
        let there : BeginsWithOne ids (d.end + length h.0) rest = subst (λ (n : ℕ). BeginsWithOne ids n rest) (sym lies.end) one in
        let s = go there in
        let spelled : content ++ rest ≡ spelling p ++ (h.0 ++ rest) = ap (λ (x : List ℕ). x ++ rest) h.1.spelled ∙ append_assoc (spelling p) h.0 rest in
        let total : d.end + length (h.0 ++ rest) ≡ place + length (content ++ rest) = omega (arith, lies.end, length-append h.0 rest, length-append content rest) in (
          gives d s.0,
          (h.0 ++ rest, record { piece = p; spelled = spelled; is = inl known }, s.1),
          sym lies.end ∙ s.2 ∙ ap (λ (n : ℕ). end_before ids n s.0) total ∙ sym (end_before-past ids (place + length (content ++ rest)) d s.0 none.0),
        )

stops-at : (ids : List ℕ) (place : ℕ) (content rest : List ℕ) → EndsBefore ids place content rest → StopsAt ids place content rest
unfolding StopsAt
stops-at ids place content rest (inside, listed, none, inl empty) =
    let all : content ++ rest ≡ content = ap (λ (x : List ℕ). content ++ x) empty ∙ append-nil content in
    let there : Lists EndsWithParent place (content ++ rest) inside = subst (λ (x : List ℕ). Lists EndsWithParent place x inside) (sym all) listed in
    (inside, there, ap (λ (x : List ℕ). place + length x) (sym all) ∙ sym (end_before-none ids (place + length (content ++ rest)) inside none))
stops-at ids place content rest (inside, listed, none, inr one) = stops-behind ids inside place content rest listed none one.0 one.1

-- ---- one end, and always one

pub exact-before : (ids : List ℕ) (place : ℕ) (x y v w : List ℕ) → x ++ y ≡ v ++ w → EndsBefore ids place x y → EndsBefore ids place v w → length x ≡ length v
unfolding StopsAt
exact-before ids place x y v w same first second =
    let a = stops-at ids place x y first in
    let b = stops-at ids place v w second in
    let moved : Lists EndsWithParent place (x ++ y) b.0 = subst (λ (t : List ℕ). Lists EndsWithParent place t b.0) (sym same) b.1 in
    let one : a.0 ≡ b.0 = lists-one EndsWithParent exact-parent a.0 b.0 place (x ++ y) a.1 moved in
    let stop : place + length x ≡ place + length v = a.2 ∙ ap (λ (t : List ℕ). end_before ids (place + length t) a.0) same ∙ ap (end_before ids (place + length (v ++ w))) one ∙ sym b.2 in
    omega (arith, stop)

pub exact-next : (ids : ℕ → List ℕ) → IsExact (EndsBeforeNext ids)
exact-next ids d e x y v w id content dx ev same first second =
    let moved : EndsBefore (ids d.id) d.content v w = subst (λ (n : ℕ). EndsBefore (ids n) d.content v w) (sym id) (subst (λ (n : ℕ). EndsBefore (ids e.id) n v w) (sym content) second) in
    exact-before (ids d.id) d.content x y v w same first moved

has-next : (ids : ℕ → List ℕ) → HasEnds (EndsBeforeNext ids)
has-next ids id start content text =
    let all = listed content text in
    let s = parted (ids id) all.0 content text all.1 in
    let n = length s.content in
    let front : s.content ≡ take n text = sym (ap (take n) s.whole ∙ take_at s.content s.rest n refl) in
    let behind : s.rest ≡ drop n text = sym (ap (drop n) s.whole ∙ drop_at s.content s.rest n refl) in
    (n, omega (arith, ap length s.whole, length-append s.content s.rest), subst (λ (x : List ℕ). EndsBefore (ids id) content x (drop n text)) front (subst (EndsBefore (ids id) content s.content) behind s.ended))

-- What a text lists where elements of unknown size end before the next that may not stand in them.
pub listed_next : (ids : ℕ → List ℕ) (place : ℕ) (text : List ℕ) → (w : Listing) × Lists (EndsBeforeNext ids) place text w
listed_next ids place text = listed_upto (EndsBeforeNext ids) (has-next ids) (suc (length text)) place text (omega arith)
