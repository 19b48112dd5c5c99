-- Elements that bytes hold: their sizes are known, they lie within the bytes, and those of one id are found among them.
use Rattle.std.proofs.Common.{◌≡◌, ℕ, ◌+◌, ◌-◌, ◌≤◌, Bool, true, false, cond, eqb, List, [], ◌∷◌, ◌++◌, length, drop, refl, sym, ap, subst, ◌∙◌, arith}
use Rattle.std.specs.List.{flat_map, AllByRecursion}
use Rattle.std.specs.Str.{bytes_eq}
use Rattle.std.proofs.lemmas.Bool.{eq-eqb}
use Rattle.std.proofs.lemmas.List.{length-append, length-take, length-drop}
use Rattle.std.proofs.lemmas.Slice.Eq.{bytes_eq-Decides}
use Rattle.ebml_core.specs.declared.element.Element.{Element}
use Rattle.ebml_core.specs.Spelling.{Piece, Holds, spelling, elements_from}
use Rattle.mkv_read.specs.Elements.{LiesWithin}
use Rattle.mkv_read.specs.Plain.{Children, named, Lacks}

abbrev pub AreKnown : List Element → Type 0
AreKnown es = AllByRecursion (λ e. e.unknown ≡ false) es

elements_from-known : (ps : List Piece) (start : ℕ) → AreKnown (elements_from start ps)
elements_from-known [] start = tt
elements_from-known (p ∷ ps) start = (refl, elements_from-known ps (start + length (spelling p)))

pub Holds-known : (bytes : List ℕ) (from to : ℕ) (es : List Element) → Holds bytes from to es → AreKnown es
Holds-known bytes from to es h = subst AreKnown (sym h.placed) (elements_from-known h.pieces from)

pub named-append : (id : ℕ) (es ds : List Element) → named id (es ++ ds) ≡ named id es ++ named id ds
named-append id [] ds = refl
named-append id (e ∷ es) ds = by_test (eqb e.id id) (named-append id es ds)
  where
    by_test : (here : Bool) → named id (es ++ ds) ≡ named id es ++ named id ds → cond here (e ∷ named id (es ++ ds)) (named id (es ++ ds)) ≡ cond here (e ∷ named id es) (named id es) ++ named id ds
    by_test true h = ap (λ (xs : List Element). e ∷ xs) h
    by_test false h = h

pub named-split : (id : ℕ) (before : List Element) (child : Element) (after : List Element) → child.id ≡ id → Lacks id before → named id (before ++ child ∷ after) ≡ child ∷ named id after
named-split id before child after is lacks =
    named-append id before (child ∷ after) ∙ ap (λ (xs : List Element). xs ++ named id (child ∷ after)) lacks ∙ rw (eq-eqb child.id id is) refl

-- ---- where they lie

abbrev pub AllLie : ℕ → List Element → Type 0
AllLie limit es = AllByRecursion (LiesWithin limit) es

elements_from-lie : (ps : List Piece) (start limit : ℕ) → start + length (flat_map spelling ps) ≤ limit → AllLie limit (elements_from start ps)
elements_from-lie [] start limit h = tt
elements_from-lie (p ∷ ps) start limit h =
    let whole = length-append (spelling p) (flat_map spelling ps) in
    let ids = length-append p.id_octets (p.size_octets ++ p.content) in
    let sizes = length-append p.size_octets p.content in
    (record { content = omega (arith, ids, sizes); within = omega (arith, h, whole) }, elements_from-lie ps (start + length (spelling p)) limit (omega (arith, h, whole)))

pub Holds-lie : (bytes : List ℕ) (from to : ℕ) (es : List Element) → from ≤ length bytes → Holds bytes from to es → AllLie (length bytes) es
Holds-lie bytes from to es le h =
    let long = ap length h.spelled.whole in
    let few = length-take (to - from) (drop from bytes) in
    let rest = length-drop from bytes in
    subst (AllLie (length bytes)) (sym h.placed) (elements_from-lie h.pieces from (length bytes) (omega (arith, le, long, few, rest)))

pub Children-lie : (bytes : List ℕ) (master : Element) (es : List Element) → LiesWithin (length bytes) master → Children bytes master es → AllLie (length bytes) es
Children-lie bytes master es lies h = Holds-lie bytes master.content master.end es (omega (arith, lies.content, lies.within)) h

-- ---- texts

pub is-text : (text name : List ℕ) → text ≡ name → bytes_eq text name ≡ true
is-text text name h = (bytes_eq-Decides text name).1 h
