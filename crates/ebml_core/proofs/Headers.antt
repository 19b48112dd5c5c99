-- An element that is read at the front of a text is spelled there, and one that is spelled there is read.
use Rattle.std.proofs.Common.{◌≡◌, ℕ, suc, ◌+◌, ◌-◌, ◌<◌, ◌≤◌, Bool, cond, ltb, true, false, List, [], ◌∷◌, ◌++◌, length, take, drop, Some, None, Result, Ok, Err, refl, sym, ap, subst, ◌∙◌, append_assoc, arith}
use Rattle.std.proofs.lemmas.Bool.{true≢false, le-ltb, ltb-false}
use Rattle.std.proofs.lemmas.List.{length-append, length-take-le, length-drop, drop_at, take-append-drop, drop-drop}
use Rattle.ebml_core.specs.declared.vint.Size.{Size}
use Rattle.ebml_core.specs.declared.vint.Size.TheVariants.{Known, Unknown}
use Rattle.ebml_core.specs.declared.vint.VintFault.{VintFault}
use Rattle.ebml_core.specs.declared.vint.VintFault.TheVariants.{Short, BadVint}
use Rattle.ebml_core.specs.declared.element.Element.{Element}
use Rattle.ebml_core.specs.declared.element.Header.{Header}
use Rattle.ebml_core.specs.declared.element.EbmlFault.{EbmlFault}
use Rattle.ebml_core.specs.declared.element.EbmlWhy.TheVariants as whys
use Rattle.ebml_core.specs.Spelling.{unsigned_of, size_of, Piece, IsPiece, spelling, element_of, IsId, IsSize, IsVint}
use Rattle.ebml_core.specs.Reading.{◌>>=◌, octet_count, vint_at, id_at, size_at, header_at, why_of, sized, laid, found, element_at}
use Rattle.ebml_core.proofs.Vints.{ok_is, passed, TakesVint, octet_count-some, vint_again}
use Rattle.ebml_core.proofs.Pieces.{vint-some, spelling-some}

-- the value of a step that did not fail
pub bind_ok : {A B E : Type 0} (r : Result A E) (f : A → Result B E) (y : B) → (r >>= f) ≡ Ok y → (x : A) × (r ≡ Ok x) × (f x ≡ Ok y)
bind_ok (Ok x) f y e = (x, refl, e)
bind_ok (Err d) f y e = absurd cc

vint_at-some : (most : ℕ) (text octets : List ℕ) → vint_at most text ≡ Ok octets → 1 ≤ length octets
unfolding vint_at
vint_at-some most [] octets e = absurd cc
vint_at-some most (first ∷ rest) octets e =
    let a = passed (ltb most (octet_count first)) BadVint _ octets e in
    let b = passed (ltb (suc (length rest)) (octet_count first)) Short (Ok (take (octet_count first) (first ∷ rest))) octets a.1 in
    let long = ltb-false (suc (length rest)) (octet_count first) b.0 in
    let len = length-take-le (octet_count first) (first ∷ rest) long in
    subst (λ (x : List ℕ). 1 ≤ length x) (ok_is _ octets b.1) (omega (arith, len, octet_count-some first))

abbrev pub header : ℕ → Size → ℕ → Header
header id size octets = record { id = id; size = size; octets = octets }

abbrev ok_header : Header → Result Header VintFault
ok_header h = Ok h

header_is : (g h : Header) → ok_header g ≡ ok_header h → g ≡ h
header_is g h e = cc

abbrev ok_pair : ℕ × ℕ → Result (ℕ × ℕ) VintFault
ok_pair x = Ok x

pair_is : (x y : ℕ × ℕ) → ok_pair x ≡ ok_pair y → x ≡ y
pair_is x y e = cc

abbrev ok_size : Size × ℕ → Result (Size × ℕ) VintFault
ok_size x = Ok x

size_pair_is : (x y : Size × ℕ) → ok_size x ≡ ok_size y → x ≡ y
size_pair_is x y e = cc

-- the octets of the id and of the size that a header was read from
pub record HeaderParts (text : List ℕ) (h : Header) : Type 0 where
  pub ids : List ℕ
  pub sizes : List ℕ
  pub id : vint_at 4 text ≡ Ok ids
  pub size : vint_at 8 (drop (length ids) text) ≡ Ok sizes
  pub is : header (unsigned_of ids) (size_of sizes) (length ids + length sizes) ≡ h

pub header_parts : (text : List ℕ) (h : Header) → header_at text ≡ Ok h → HeaderParts text h
unfolding header_at id_at size_at
header_parts text h e =
    let a = bind_ok (id_at text) (λ id. size_at (drop id.1 text) >>= λ size. Ok (record { id = id.0; size = size.0; octets = id.1 + size.1 })) h e in
    let ids = bind_ok (vint_at 4 text) (λ octets. Ok (unsigned_of octets, length octets)) a.0 a.1 in
    let b = bind_ok (size_at (drop a.0.1 text)) (λ size. Ok (record { id = a.0.0; size = size.0; octets = a.0.1 + size.1 })) h a.2 in
    let sizes = bind_ok (vint_at 8 (drop a.0.1 text)) (λ octets. Ok (size_of octets, length octets)) b.0 b.1 in
    let id_is : (unsigned_of ids.0, length ids.0) ≡ a.0 = pair_is _ a.0 ids.2 in
    let size_is : (size_of sizes.0, length sizes.0) ≡ b.0 = size_pair_is _ b.0 sizes.2 in
    let id_len : length ids.0 ≡ a.0.1 = ap (λ (x : ℕ × ℕ). x.1) id_is in
    record {
      ids = ids.0;
      sizes = sizes.0;
      id = ids.1;
      size = ap (λ (n : ℕ). vint_at 8 (drop n text)) id_len ∙ sizes.1;
      is = ap (λ (x : ℕ × ℕ). header x.0 (size_of sizes.0) (x.1 + length sizes.0)) id_is ∙ ap (λ (x : Size × ℕ). header a.0.0 x.0 (a.0.1 + x.1)) size_is ∙ header_is _ h b.2;
    }

-- ---- from the reading to the spelling

pub element_at-some : (place : ℕ) (text : List ℕ) → 1 ≤ length text → element_at place text ≡ found (laid place (length text) (header_at text))
unfolding element_at
element_at-some place [] h = absurd (omega arith)
element_at-some place (octet ∷ rest) h = refl

abbrev pub ok_element : Element → Result Element EbmlFault
ok_element e = Ok e

pub element_is : (d e : Element) → ok_element d ≡ ok_element e → d ≡ e
element_is d e h = cc

pub laid_found : (place room : ℕ) (r : Result Header VintFault) (e : Element) → found (laid place room r) ≡ Ok (Some e) → (h : Header) × (r ≡ Ok h) × (sized place room h h.size ≡ Ok e)
laid_found place room (Err fault) e h = absurd cc
laid_found place room (Ok header) e h = (header, refl, unfound (sized place room header header.size) e h)
  where
    unfound : (r : Result Element EbmlFault) (e : Element) → found r ≡ Ok (Some e) → r ≡ Ok e
    unfound (Ok d) e h = cc
    unfound (Err fault) e h = absurd cc

-- What an element that was read is.
pub record TakesElement (place : ℕ) (text : List ℕ) (e : Element) : Type 0 where
  pub head : Header
  pub read : header_at text ≡ Ok head
  pub is : sized place (length text) head head.size ≡ Ok e

pub element_parts : (place : ℕ) (text : List ℕ) (e : Element) → element_at place text ≡ Ok (Some e) → TakesElement place text e
unfolding element_at
element_parts place [] e h = absurd cc
element_parts place (octet ∷ rest) e h =
    let a = laid_found place (suc (length rest)) (header_at (octet ∷ rest)) e h in
    record { head = a.0; read = a.1; is = a.2 }

pub guarded : (b : Bool) (fault : EbmlFault) (d e : Element) → cond b (Err fault) (Ok d) ≡ ok_element e → (b ≡ false) × (d ≡ e)
guarded true fault d e h = absurd cc
guarded false fault d e h = (refl, cc)

-- An element that was read ends behind its place, and within the text.
pub record Advances (place : ℕ) (text : List ℕ) (e : Element) : Type 0 where
  pub more : place < e.end
  pub within : e.end ≤ place + length text

sized-advances : (place room : ℕ) (h : Header) (size : Size) (e : Element) → 1 ≤ h.octets → 1 ≤ room → sized place room h size ≡ Ok e → (place < e.end) × (e.end ≤ place + room)
sized-advances place room h Unknown e some many is =
    subst (λ (x : Element). (place < x.end) × (x.end ≤ place + room)) (element_is _ e is) (omega arith, omega arith)
sized-advances place room h (Known size) e some many is =
    let a = guarded (ltb room (h.octets + size)) _ _ e is in
    subst (λ (x : Element). (place < x.end) × (x.end ≤ place + room)) a.1 (omega arith, omega (arith, ltb-false room (h.octets + size) a.0))

pub element_at-advances : (place : ℕ) (text : List ℕ) (e : Element) → element_at place text ≡ Ok (Some e) → Advances place text e
unfolding element_at
element_at-advances place [] e h = absurd cc
element_at-advances place (octet ∷ rest) e h =
    let a = element_parts place (octet ∷ rest) e h in
    let p = header_parts (octet ∷ rest) a.head a.read in
    let octets : length p.ids + length p.sizes ≡ a.head.octets = ap (λ (g : Header). g.octets) p.is in
    let some : 1 ≤ a.head.octets = omega (arith, octets, vint_at-some 4 (octet ∷ rest) p.ids p.id) in
    let r = sized-advances place (suc (length rest)) a.head a.head.size e some (omega arith) a.is in
    record { more = r.0; within = r.1 }

abbrev element : ℕ → ℕ → ℕ → ℕ → Element
element id start content end = record { id = id; start = start; content = content; end = end; unknown = false }

-- An element of known size that was read stands spelled at the front of the text.
pub record Stands (place : ℕ) (text : List ℕ) (e : Element) : Type 0 where
  pub piece : Piece
  pub is : IsPiece piece
  pub front : text ≡ spelling piece ++ drop (e.end - place) text
  pub placed : e ≡ element_of place piece

sized_known : (place room : ℕ) (h : Header) (size : Size) (e : Element) → e.unknown ≡ false → sized place room h size ≡ Ok e → (n : ℕ) × (size ≡ Known n) × (h.octets + n ≤ room) × (element h.id place (place + h.octets) (place + (h.octets + n)) ≡ e)
sized_known place room h Unknown e known is = absurd (true≢false (ap (λ (x : Element). x.unknown) (element_is _ e is) ∙ known))
sized_known place room h (Known size) e known is =
    let a = guarded (ltb room (h.octets + size)) _ _ e is in
    (size, refl, ltb-false room (h.octets + size) a.0, a.1)

-- A header that is read has an id and a size at the front of the text.
pub record IsHeaded (text ids sizes : List ℕ) : Type 0 where
  pub id : TakesVint 4 text ids
  pub size : TakesVint 8 (drop (length ids) text) sizes

pub headed-stands : (place : ℕ) (text : List ℕ) (e : Element) → (a : TakesElement place text e) → (p : HeaderParts text a.head) → IsHeaded text p.ids p.sizes → e.unknown ≡ false → Stands place text e
headed-stands place text e a p headed known =
    let v = headed.id in
    let w = headed.size in
    let octets : length p.ids + length p.sizes ≡ a.head.octets = ap (λ (g : Header). g.octets) p.is in
    let id : unsigned_of p.ids ≡ a.head.id = ap (λ (g : Header). g.id) p.is in
    let size : size_of p.sizes ≡ a.head.size = ap (λ (g : Header). g.size) p.is in
    let s = sized_known place (length text) a.head a.head.size e known a.is in
    let behind = drop (length p.ids + length p.sizes) text in
    let content = take s.0 behind in
    let len : length content ≡ s.0 = length-take-le s.0 behind (omega (arith, s.2, octets, length-drop (length p.ids + length p.sizes) text)) in
    let piece : Piece = record { id_octets = p.ids; size_octets = p.sizes; id = a.head.id; size = a.head.size; content = content } in
    let end : e.end ≡ place + (a.head.octets + s.0) = ap (λ (x : Element). x.end) (sym s.3) in
    let ids : text ≡ p.ids ++ drop (length p.ids) text = sym (take-append-drop (length p.ids) text) ∙ ap (λ (x : List ℕ). x ++ drop (length p.ids) text) (sym v.front) in
    let sizes : drop (length p.ids) text ≡ p.sizes ++ behind = sym (take-append-drop (length p.sizes) (drop (length p.ids) text)) ∙ ap (λ (x : List ℕ). x ++ drop (length p.sizes) (drop (length p.ids) text)) (sym w.front) ∙ ap (λ (x : List ℕ). p.sizes ++ x) (drop-drop (length p.sizes) (length p.ids) text) in
    let rest : drop s.0 behind ≡ drop (e.end - place) text = drop-drop s.0 (length p.ids + length p.sizes) text ∙ ap (λ (n : ℕ). drop n text) (omega (arith, octets, end)) in
    let contents : behind ≡ content ++ drop (e.end - place) text = sym (take-append-drop s.0 behind) ∙ ap (λ (x : List ℕ). content ++ x) rest in
    let regrouped : spelling piece ++ drop (e.end - place) text ≡ p.ids ++ (p.sizes ++ (content ++ drop (e.end - place) text)) = append_assoc p.ids (p.sizes ++ content) _ ∙ ap (λ (x : List ℕ). p.ids ++ x) (append_assoc p.sizes content _) in
    let long : length (spelling piece) ≡ a.head.octets + s.0 = length-append p.ids (p.sizes ++ content) ∙ omega (arith, length-append p.sizes content, octets, len) in
    record {
      piece = piece;
      is = record { id = (v.vint, sym id); size = (w.vint, sym size); content = s.1 ∙ ap (λ (n : ℕ). Known n) (sym len) };
      front = ids ∙ ap (λ (x : List ℕ). p.ids ++ x) (sizes ∙ ap (λ (x : List ℕ). p.sizes ++ x) contents) ∙ sym regrouped;
      placed = sym s.3 ∙ ap (λ (n : ℕ). element a.head.id place (place + n) (place + (a.head.octets + s.0))) (sym octets) ∙ ap (λ (n : ℕ). element a.head.id place (place + (length p.ids + length p.sizes)) (place + n)) (sym long);
    }

-- An element of unknown size that was read has its header at the front of the text, and reaches to its end.
pub record Opens (place : ℕ) (text : List ℕ) (e : Element) : Type 0 where
  pub ids : List ℕ
  pub sizes : List ℕ
  pub id : IsId ids e.id
  pub size : IsSize sizes Unknown
  pub front : text ≡ ids ++ (sizes ++ drop (length ids + length sizes) text)
  pub start : e.start ≡ place
  pub content : e.content ≡ place + (length ids + length sizes)
  pub end : e.end ≡ place + length text

sized_unknown : (place room : ℕ) (h : Header) (size : Size) (e : Element) → e.unknown ≡ true → sized place room h size ≡ Ok e
    → (size ≡ Unknown) × (e.id ≡ h.id) × (e.start ≡ place) × (e.content ≡ place + h.octets) × (e.end ≡ place + room)
sized_unknown place room h Unknown e opened is =
    subst (λ (x : Element). (Unknown ≡ Unknown) × (x.id ≡ h.id) × (x.start ≡ place) × (x.content ≡ place + h.octets) × (x.end ≡ place + room)) (element_is _ e is) (refl, refl, refl, refl, refl)
sized_unknown place room h (Known size) e opened is =
    let a = guarded (ltb room (h.octets + size)) _ _ e is in
    absurd (true≢false (sym opened ∙ sym (ap (λ (x : Element). x.unknown) a.1)))

pub headed-opens : (place : ℕ) (text : List ℕ) (e : Element) → (a : TakesElement place text e) → (p : HeaderParts text a.head) → IsHeaded text p.ids p.sizes → e.unknown ≡ true → Opens place text e
headed-opens place text e a p headed opened =
    let v = headed.id in
    let w = headed.size in
    let s = sized_unknown place (length text) a.head a.head.size e opened a.is in
    let ids : text ≡ p.ids ++ drop (length p.ids) text = sym (take-append-drop (length p.ids) text) ∙ ap (λ (x : List ℕ). x ++ drop (length p.ids) text) (sym v.front) in
    let sizes : drop (length p.ids) text ≡ p.sizes ++ drop (length p.ids + length p.sizes) text = sym (take-append-drop (length p.sizes) (drop (length p.ids) text)) ∙ ap (λ (x : List ℕ). x ++ drop (length p.sizes) (drop (length p.ids) text)) (sym w.front) ∙ ap (λ (x : List ℕ). p.sizes ++ x) (drop-drop (length p.sizes) (length p.ids) text) in
    record {
      ids = p.ids;
      sizes = p.sizes;
      id = (v.vint, s.1 ∙ sym (ap (λ (g : Header). g.id) p.is));
      size = (w.vint, sym s.0 ∙ sym (ap (λ (g : Header). g.size) p.is));
      front = ids ∙ ap (λ (x : List ℕ). p.ids ++ x) sizes;
      start = s.2;
      content = s.3 ∙ ap (λ (n : ℕ). place + n) (sym (ap (λ (g : Header). g.octets) p.is));
      end = s.4;
    }

-- ---- from the spelling to the reading

header_again : (p : Piece) (rest : List ℕ) → IsPiece p → header_at (spelling p ++ rest) ≡ Ok (header p.id p.size (length p.id_octets + length p.size_octets))
unfolding header_at id_at size_at
header_again p rest is =
    let tail = p.size_octets ++ (p.content ++ rest) in
    let regrouped : spelling p ++ rest ≡ p.id_octets ++ tail = append_assoc p.id_octets (p.size_octets ++ p.content) rest ∙ ap (λ (x : List ℕ). p.id_octets ++ x) (append_assoc p.size_octets p.content rest) in
    ap header_at regrouped ∙ rw (vint_again 4 p.id_octets tail (omega arith) is.id.0, drop_at p.id_octets tail (length p.id_octets) refl, vint_again 8 p.size_octets (p.content ++ rest) (omega arith) is.size.0, ← is.id.1, ← is.size.1) refl

sized_again : (place room : ℕ) (p : Piece) → IsPiece p → length (spelling p) ≤ room → found (sized place room (header p.id p.size (length p.id_octets + length p.size_octets)) p.size) ≡ Ok (Some (element_of place p))
sized_again place room p is fits =
    let octets = length p.id_octets + length p.size_octets in
    let long : length (spelling p) ≡ octets + length p.content = length-append p.id_octets (p.size_octets ++ p.content) ∙ omega (arith, length-append p.size_octets p.content) in
    let lets : ltb room (octets + length p.content) ≡ false = le-ltb room _ (omega (arith, long, fits)) in
    ap (λ (s : Size). found (sized place room (header p.id p.size octets) s)) is.content ∙ rw lets (ap (λ (n : ℕ). Ok (Some (element p.id place (place + octets) (place + n)))) (sym long))

pub element_at-again : (place : ℕ) (p : Piece) (rest : List ℕ) → IsPiece p → element_at place (spelling p ++ rest) ≡ Ok (Some (element_of place p))
element_at-again place p rest is =
    let text = spelling p ++ rest in
    let len = length-append (spelling p) rest in
    let octets = length-append p.id_octets (p.size_octets ++ p.content) in
    element_at-some place text (omega (arith, len, octets, spelling-some p is)) ∙ ap (λ (r : Result Header VintFault). found (laid place (length text) r)) (header_again p rest is) ∙ sized_again place (length text) p is (omega (arith, len))

-- ---- the end

pub element_at-end : (place : ℕ) (text : List ℕ) → element_at place text ≡ Ok None → text ≡ []
unfolding element_at
element_at-end place [] h = refl
element_at-end place (octet ∷ rest) h = absurd (is_found (laid place (suc (length rest)) (header_at (octet ∷ rest))) h)
  where
    is_found : (r : Result Element EbmlFault) → found r ≡ Ok None → ⊥
    is_found (Ok e) h = cc
    is_found (Err fault) h = cc

-- ---- a size alone

pub size_at-again : (octets rest : List ℕ) (size : Size) → IsSize octets size → size_at (octets ++ rest) ≡ Ok (size, length octets)
unfolding size_at
size_at-again octets rest size is = rw (vint_again 8 octets rest (omega arith) is.0, ← is.1) refl

-- ---- an element of unknown size

pub record_is : (a b : Element) → a.id ≡ b.id → a.start ≡ b.start → a.content ≡ b.content → a.end ≡ b.end → a.unknown ≡ b.unknown → a ≡ b
record_is a b id start content end unknown =
    ap (λ (x : ℕ). with_all x a.start a.content a.end a.unknown) id ∙ ap (λ (x : ℕ). with_all b.id x a.content a.end a.unknown) start ∙ ap (λ (x : ℕ). with_all b.id b.start x a.end a.unknown) content ∙ ap (λ (x : ℕ). with_all b.id b.start b.content x a.unknown) end ∙ ap (λ (x : Bool). with_all b.id b.start b.content b.end x) unknown
  where
    with_all : ℕ → ℕ → ℕ → ℕ → Bool → Element
    with_all id start content end unknown = record { id = id; start = start; content = content; end = end; unknown = unknown }

pub header_from : (text ids sizes rest : List ℕ) → text ≡ ids ++ (sizes ++ rest) → IsVint 4 ids → IsVint 8 sizes → header_at text ≡ Ok (header (unsigned_of ids) (size_of sizes) (length ids + length sizes))
unfolding header_at id_at size_at
header_from text ids sizes rest front id size =
    ap header_at front ∙ rw (vint_again 4 ids (sizes ++ rest) (omega arith) id, drop_at ids (sizes ++ rest) (length ids) refl, vint_again 8 sizes rest (omega arith) size) refl

pub element_at-opened : (place : ℕ) (text : List ℕ) (e : Element) → Opens place text e → e.unknown ≡ true → element_at place text ≡ Ok (Some e)
element_at-opened place text e o opened =
    let octets = length o.ids + length o.sizes in
    let some : 1 ≤ length text = omega (arith, ap length o.front, length-append o.ids (o.sizes ++ drop octets text), vint-some o.ids o.id.0) in
    let read : Element = record { id = unsigned_of o.ids; start = place; content = place + octets; end = place + length text; unknown = true } in
    element_at-some place text some
    ∙ ap (λ (r : Result Header VintFault). found (laid place (length text) r)) (header_from text o.ids o.sizes (drop octets text) o.front o.id.0 o.size.0)
    ∙ ap (λ (s : Size). found (sized place (length text) (header (unsigned_of o.ids) s octets) s)) (sym o.size.1)
    ∙ ap (λ (x : Element). Ok (Some x)) (record_is read e (sym o.id.1) (sym o.start) (sym o.content) (sym o.end) (sym opened))

-- ---- a fault

-- A fault stands at the place of its element, where there are bytes.
pub element_at-fault : (place : ℕ) (text : List ℕ) (fault : EbmlFault) → element_at place text ≡ Err fault → (fault.at ≡ place) × (0 < length text)
unfolding element_at
element_at-fault place [] fault h = absurd cc
element_at-fault place (octet ∷ rest) fault h = (at_place (header_at (octet ∷ rest)) h, omega arith)
  where
    found_at : (r : Result Element EbmlFault) → ((f : EbmlFault) → r ≡ Err f → f.at ≡ place) → found r ≡ Err fault → fault.at ≡ place
    found_at (Ok e) at e_is = absurd cc
    found_at (Err f) at e_is = let same : f ≡ fault = cc in ap (λ (x : EbmlFault). x.at) (sym same) ∙ at f refl

    sized_at : (h : Header) (size : Size) (f : EbmlFault) → sized place (suc (length rest)) h size ≡ Err f → f.at ≡ place
    sized_at h Unknown f is = absurd cc
    sized_at h (Known size) f is = by_test (ltb (suc (length rest)) (h.octets + size)) _ is
      where
        by_test : (b : Bool) (e : Element) → cond b (Err (record { at = place; why = whys.Overrun })) (Ok e) ≡ Err f → f.at ≡ place
        by_test true e is = let same : record { at = place; why = whys.Overrun } ≡ f = cc in ap (λ (x : EbmlFault). x.at) (sym same)
        by_test false e is = absurd cc

    at_place : (r : Result Header VintFault) → found (laid place (suc (length rest)) r) ≡ Err fault → fault.at ≡ place
    at_place (Err v) is = found_at (laid place (suc (length rest)) (Err v)) (λ f e. let same : record { at = place; why = why_of v } ≡ f = cc in ap (λ (x : EbmlFault). x.at) (sym same)) is
    at_place (Ok h) is = found_at (sized place (suc (length rest)) h h.size) (sized_at h h.size) is
