-- A master whose content is spelled by elements of known size has these elements, and what is looked up in them.
use Rattle.std.proofs.Common.{◌≡◌, ℕ, Bool, true, false, cond, eqb, List, [], ◌∷◌, Option, Some, None, refl, sym, ap, ◌∙◌, subst}
use Rattle.std.specs.List.{AllByRecursion}
use Rattle.ebml_core.specs.declared.element.Element.{Element}
use Rattle.ebml_core.specs.Spelling.{Holds, elements_from}
use Rattle.ebml_core.specs.Listing.{whole, Lists, EndsBeforeNext}
use Rattle.ebml_core.proofs.Knowns.{lists-spelled}
use Rattle.mkv_read.specs.Plain.{named, Lacks}
use Rattle.mkv_read.specs.Elements.{next_of, ListsFrom, elements, first_where, first}
use Rattle.mkv_read.specs.Faults.{first_fault, else_place}
use Rattle.mkv_read.proofs.Held.{AreKnown}
use Rattle.mkv_read.proofs.Listing.{elements-only}

pub Holds-elements : (bytes : List ℕ) (from to : ℕ) (es : List Element) → Holds bytes from to es → elements bytes from to ≡ whole es
Holds-elements bytes from to es h =
    let all : ListsFrom bytes from to (whole (elements_from from h.pieces)) = subst (λ (text : List ℕ). Lists (EndsBeforeNext next_of) from text (whole (elements_from from h.pieces))) (sym h.spelled.whole) (lists-spelled (EndsBeforeNext next_of) from h.pieces h.spelled.each) in
    sym (elements-only bytes from to (whole (elements_from from h.pieces)) all) ∙ ap whole (sym h.placed)

-- ---- the first of them

pub first_where-named : (test : Element → Bool) (id : ℕ) (es : List Element) (child : Element) → ((e : Element) → eqb e.id id ≡ false → test e ≡ false) → (eqb child.id id ≡ true → test child ≡ true) → named id es ≡ child ∷ [] → first_where test (whole es) ≡ Some child
unfolding first_where
first_where-named test id [] child others here h = absurd cc
first_where-named test id (e ∷ es) child others here h =
    by_id (eqb e.id id) refl h (λ later. first_where-named test id es child others here later)
  where
    by_id : (same : Bool) → eqb e.id id ≡ same → cond same (e ∷ named id es) (named id es) ≡ child ∷ [] → (named id es ≡ child ∷ [] → first_where test (whole es) ≡ Some child) → cond (test e) (Some e) (first_where test (whole es)) ≡ Some child
    by_id true same h later =
        let is : e ≡ child = cc in
        let passes : test e ≡ true = ap test is ∙ here (ap (λ (x : Element). eqb x.id id) (sym is) ∙ same) in
        ap (λ (b : Bool). cond b (Some e) (first_where test (whole es))) passes ∙ ap (λ (x : Element). Some x) is
    by_id false other h later = ap (λ (b : Bool). cond b (Some e) (first_where test (whole es))) (others e other) ∙ later h

pub first-named : (id : ℕ) (es : List Element) (child : Element) → named id es ≡ child ∷ [] → first id (whole es) ≡ Some child
first-named id es child h = first_where-named (λ e. eqb e.id id) id es child (λ e other. other) (λ here. here) h

pub first-lacks : (id : ℕ) (es : List Element) → Lacks id es → first id (whole es) ≡ None
unfolding first_where
first-lacks id [] h = refl
first-lacks id (e ∷ es) h = by_id (eqb e.id id) h (λ later. first-lacks id es later)
  where
    by_id : (same : Bool) → cond same (e ∷ named id es) (named id es) ≡ [] → (Lacks id es → first id (whole es) ≡ None) → cond same (Some e) (first id (whole es)) ≡ None
    by_id true h later = absurd cc
    by_id false h later = later h

-- ---- all of them, by what those of three ids and the others are

named-parts : (P : Element → Type 0) (id : ℕ) (e : Element) (es : List Element) → AllByRecursion P (named id (e ∷ es)) → AllByRecursion P (named id es) × (eqb e.id id ≡ true → P e)
named-parts P id e es h = by_id (eqb e.id id) refl h
  where
    by_id : (same : Bool) → eqb e.id id ≡ same → AllByRecursion P (cond same (e ∷ named id es) (named id es)) → AllByRecursion P (named id es) × (eqb e.id id ≡ true → P e)
    by_id true same h = (h.1, λ here. h.0)
    by_id false other h = (h, λ here. absurd (true_false (sym here ∙ other)))
      where
        true_false : true ≡ false → ⊥
        true_false x = cc

pub all_by_ids : (P : Element → Type 0) (a b c : ℕ) (es : List Element) → AllByRecursion P (named a es) → AllByRecursion P (named b es) → AllByRecursion P (named c es) → AreKnown es → ((e : Element) → e.unknown ≡ false → eqb e.id a ≡ false → eqb e.id b ≡ false → eqb e.id c ≡ false → P e) → AllByRecursion P es
all_by_ids P a b c [] ha hb hc known others = tt
all_by_ids P a b c (e ∷ es) ha hb hc known others =
    let pa = named-parts P a e es ha in
    let pb = named-parts P b e es hb in
    let pc = named-parts P c e es hc in
    (pick pa.1 pb.1 pc.1 (eqb e.id a) (eqb e.id b) (eqb e.id c) refl refl refl, all_by_ids P a b c es pa.0 pb.0 pc.0 known.1 others)
  where
    pick : (eqb e.id a ≡ true → P e) → (eqb e.id b ≡ true → P e) → (eqb e.id c ≡ true → P e) → (x y z : Bool) → eqb e.id a ≡ x → eqb e.id b ≡ y → eqb e.id c ≡ z → P e
    pick ha hb hc true y z p q r = ha p
    pick ha hb hc false true z p q r = hb q
    pick ha hb hc false false true p q r = hc r
    pick ha hb hc false false false p q r = others e known.0 p q r

pub first_fault-none : (fault : Element → Option ℕ) (es : List Element) → AllByRecursion (λ e. fault e ≡ None) es → first_fault fault (whole es) ≡ None
unfolding first_fault
first_fault-none fault [] h = refl
first_fault-none fault (e ∷ es) h = ap (λ (o : Option ℕ). else_place o (first_fault fault (whole es))) h.0 ∙ first_fault-none fault es h.1
