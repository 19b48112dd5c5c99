-- The bytes spell elements in one way at most.
use Rattle.std.proofs.Common.{◌≡◌, ℕ, ◌≤◌, List, [], ◌∷◌, ◌++◌, length, take, drop, refl, sym, ap, ◌∙◌, append_assoc, arith}
use Rattle.std.specs.List.{flat_map, AllByRecursion}
use Rattle.std.proofs.lemmas.List.{length-append, take_at, drop_at, append_cancel_left}
use Rattle.ebml_core.specs.declared.vint.Size.{Size}
use Rattle.ebml_core.specs.declared.vint.Size.TheVariants.{Known}
use Rattle.ebml_core.specs.Spelling.{unsigned_of, size_of, IsVint, Piece, IsPiece, spelling}
use Rattle.ebml_core.specs.Reading.{vint_at}
use Rattle.ebml_core.proofs.Vints.{vint_again, ok_is}

-- Two texts that begin with variable size integers begin with the same one.
pub same_vints : (most : ℕ) (a b x y : List ℕ) → most ≤ 8 → IsVint most a → IsVint most b → a ++ x ≡ b ++ y → (a ≡ b) × (x ≡ y)
same_vints most a b x y le va vb e =
    let one : a ≡ b = ok_is a b (sym (vint_again most a x le va) ∙ ap (vint_at most) e ∙ vint_again most b y le vb) in
    (one, append_cancel_left b x y (ap (λ (w : List ℕ). w ++ x) (sym one) ∙ e))

abbrev known : ℕ → Size
known n = Known n

known_is : (m n : ℕ) → known m ≡ known n → m ≡ n
known_is m n e = cc

abbrev piece : List ℕ → List ℕ → ℕ → Size → List ℕ → Piece
piece id_octets size_octets id size content = record { id_octets = id_octets; size_octets = size_octets; id = id; size = size; content = content }

same_pieces : (a b : List ℕ) (c d : List ℕ) (i j : ℕ) (s t : Size) (x y : List ℕ) → a ≡ b → c ≡ d → i ≡ j → s ≡ t → x ≡ y → piece a c i s x ≡ piece b d j t y
same_pieces a b c d i j s t x y p q r u v = cc

pub same_fronts : (p q : Piece) (x y : List ℕ) → IsPiece p → IsPiece q → spelling p ++ x ≡ spelling q ++ y → (p ≡ q) × (x ≡ y)
same_fronts p q x y hp hq e =
    let regroup : (r : Piece) (w : List ℕ) → spelling r ++ w ≡ r.id_octets ++ (r.size_octets ++ (r.content ++ w)) = λ r w. append_assoc r.id_octets (r.size_octets ++ r.content) w ∙ ap (λ (t : List ℕ). r.id_octets ++ t) (append_assoc r.size_octets r.content w) in
    let ids = same_vints 4 p.id_octets q.id_octets _ _ (omega arith) hp.id.0 hq.id.0 (sym (regroup p x) ∙ e ∙ regroup q y) in
    let sizes = same_vints 8 p.size_octets q.size_octets _ _ (omega arith) hp.size.0 hq.size.0 ids.1 in
    let id : p.id ≡ q.id = hp.id.1 ∙ ap unsigned_of ids.0 ∙ sym hq.id.1 in
    let size : p.size ≡ q.size = hp.size.1 ∙ ap size_of sizes.0 ∙ sym hq.size.1 in
    let len : length p.content ≡ length q.content = known_is _ _ (sym hp.content ∙ size ∙ hq.content) in
    let content : p.content ≡ q.content = sym (take_at p.content x (length p.content) refl) ∙ ap (take (length p.content)) sizes.1 ∙ take_at q.content y (length p.content) (sym len) in
    let rest : x ≡ y = sym (drop_at p.content x (length p.content) refl) ∙ ap (drop (length p.content)) sizes.1 ∙ drop_at q.content y (length p.content) (sym len) in
    (same_pieces _ _ _ _ _ _ _ _ _ _ ids.0 sizes.0 id size content, rest)

pub vint-some : (octets : List ℕ) → IsVint 4 octets → 1 ≤ length octets
unfolding unsigned_of
vint-some [] v = absurd (omega (arith, v.marked))
vint-some (first ∷ octets) v = omega arith

-- An element is at least the first octet of its id.
pub spelling-some : (p : Piece) → IsPiece p → 1 ≤ length p.id_octets
spelling-some p h = vint-some p.id_octets h.id.0

no_end : (p : Piece) (x : List ℕ) → IsPiece p → spelling p ++ x ≡ [] → ⊥
no_end p x h e = omega (arith, spelling-some p h, simp length-append at (ap length e))

pub same_readings : (ps qs : List Piece) → AllByRecursion IsPiece ps → AllByRecursion IsPiece qs → flat_map spelling ps ≡ flat_map spelling qs → ps ≡ qs
same_readings [] [] hp hq e = refl
same_readings [] (q ∷ qs) hp hq e = absurd (no_end q (flat_map spelling qs) hq.0 (sym e))
same_readings (p ∷ ps) [] hp hq e = absurd (no_end p (flat_map spelling ps) hp.0 e)
same_readings (p ∷ ps) (q ∷ qs) hp hq e =
    let front = same_fronts p q (flat_map spelling ps) (flat_map spelling qs) hp.0 hq.0 e in
    let rest = same_readings ps qs hp.1 hq.1 front.1 in
    ap (λ (r : Piece). r ∷ ps) front.0 ∙ ap (λ (rs : List Piece). q ∷ rs) rest
