-- Steps of loops over a range of frames, and over the filed results.
use Rattle.std.proofs.Common.{◌≡◌, ℕ, zero, suc, ◌+◌, ◌-◌, ◌<◌, ◌≤◌, cond, Bool, true, false, ◌&&◌, ◌||◌, List, [], ◌∷◌, ◌++◌, length, get_or, take, drop, Some, refl, sym, ap, ◌∙◌, arith}
use Rattle.std.specs.Prelude.{slice_get, ◌==◌}
use Rattle.std.proofs.lemmas.List.{append_assoc, drop_more, take_more}
use Rattle.std.proofs.lemmas.Option.{slice_get_within, get_or_from_slice_get}
use Rattle.std.proofs.lemmas.Bool.Decides.{nat_tests}
use Rattle.tl_model.specs.Media.{RenderedOf}
use Rattle.tl_model.specs.Recipe.{same_side, same_recipe}
use Rattle.tl_model.specs.declared.recipe.Side.{Side}
use Rattle.tl_model.specs.declared.recipe.Side.TheVariants as side
use Rattle.tl_model.specs.declared.recipe.Recipe.{Recipe}
use Rattle.tl_model.specs.declared.recipe.Recipe.TheVariants as recipe
use Rattle.tl_model.specs.Cells.{is_among}
use Rattle.render_core.specs.State.{without}
use Rattle.render_core.specs.Parts.{Places, recipes_of}

pub both_true : (a b : Bool) → (a && b) ≡ true → (a ≡ true) × (b ≡ true)
both_true true b e = (refl, e)
both_true false b e = absurd cc

same_side-true : (a b : Side) → same_side a b ≡ true → a ≡ b
same_side-true side.Black side.Black e = refl
same_side-true (side.Clip c f) (side.Clip d g) e =
    let p = both_true (c == d) (f == g) e in
    let x : c ≡ d = grind (arith, nat_tests, p.0) in
    let y : f ≡ g = grind (arith, nat_tests, p.1) in
    cc
same_side-true side.Black (side.Clip d g) e = absurd cc
same_side-true (side.Clip c f) side.Black e = absurd cc

pub same_recipe-true : (a b : Recipe) → same_recipe a b ≡ true → a ≡ b
same_recipe-true recipe.Black recipe.Black e = refl
same_recipe-true (recipe.Source c f) (recipe.Source d g) e =
    let p = both_true (c == d) (f == g) e in
    let x : c ≡ d = grind (arith, nat_tests, p.0) in
    let y : f ≡ g = grind (arith, nat_tests, p.1) in
    cc
same_recipe-true (recipe.Mix a b w) (recipe.Mix d e v) h =
    let p = both_true (same_side a d) (same_side b e && (w == v)) h in
    let q = both_true (same_side b e) (w == v) p.1 in
    let x = same_side-true a d p.0 in
    let y = same_side-true b e q.0 in
    let z : w ≡ v = grind (arith, nat_tests, q.1) in
    cc
same_recipe-true recipe.Black (recipe.Source d g) e = absurd cc
same_recipe-true recipe.Black (recipe.Mix d e v) h = absurd cc
same_recipe-true (recipe.Source c f) recipe.Black e = absurd cc
same_recipe-true (recipe.Source c f) (recipe.Mix d e v) h = absurd cc
same_recipe-true (recipe.Mix a b w) recipe.Black h = absurd cc
same_recipe-true (recipe.Mix a b w) (recipe.Source d g) h = absurd cc

-- a list from a place on, with the element there
pub drop_at_some : {A : Type 0} (xs : List A) (n : ℕ) (x : A) → slice_get xs n ≡ Some x → drop n xs ≡ x ∷ drop (n + 1) xs
drop_at_some xs n x e =
    drop_more xs n x (slice_get_within xs n x e) ∙ ap (λ y. y ∷ drop (n + 1) xs) (get_or_from_slice_get xs n x x e)

pub range_next : {A : Type 0} (xs : List A) (n end : ℕ) (x : A) → slice_get xs n ≡ Some x → n < end → take (end - n) (drop n xs) ≡ x ∷ take (end - (n + 1)) (drop (n + 1) xs)
range_next xs n end x e h =
    let m : end - n ≡ suc (end - (n + 1)) = omega arith in
    ap (take (end - n)) (drop_at_some xs n x e) ∙ ap (λ (k : ℕ). take k (x ∷ drop (n + 1) xs)) m

pub range_end : {A : Type 0} (xs : List A) (n end : ℕ) → end ≤ n → take (end - n) (drop n xs) ≡ []
range_end xs n end h = let m : end - n ≡ 0 = omega arith in ap (λ (k : ℕ). take k (drop n xs)) m

pub range_start : {A : Type 0} (xs : List A) (first len : ℕ) → take ((first + len) - first) (drop first xs) ≡ take len (drop first xs)
range_start xs first len = let m : (first + len) - first ≡ len = omega arith in ap (λ (k : ℕ). take k (drop first xs)) m

pub among_next : (rs : List Recipe) (n end : ℕ) (r x : Recipe) → slice_get rs n ≡ Some x → n < end → is_among r (take (end - n) (drop n rs)) ≡ (same_recipe r x || is_among r (take (end - (n + 1)) (drop (n + 1) rs)))
among_next rs n end r x e h = ap (is_among r) (range_next rs n end x e h)

pub among_end : (rs : List Recipe) (n end : ℕ) (r : Recipe) → end ≤ n → is_among r (take (end - n) (drop n rs)) ≡ false
among_end rs n end r h = ap (is_among r) (range_end rs n end h)

pub among_start : (rs : List Recipe) (first len : ℕ) (r : Recipe) → is_among r (take ((first + len) - first) (drop first rs)) ≡ is_among r (take len (drop first rs))
among_start rs first len r = ap (is_among r) (range_start rs first len)

-- the filed results from a place on
pub filed_at : {M : Type 0} (filed : List (RenderedOf M)) (i : ℕ) (d : RenderedOf M) → i < length filed → slice_get (recipes_of filed) i ≡ Some (get_or filed i d).recipe
filed_at [] i d h = absurd (omega arith)
filed_at (r ∷ rs) zero d h = refl
filed_at (r ∷ rs) (suc i) d h = filed_at rs i d (omega arith)

abbrev pub IsLeft : Recipe → List Recipe → ℕ → Type 0
IsLeft r rs i = (is_among r (drop i rs) ≡ is_among r rs) × (without r rs ≡ take i rs ++ without r (drop i rs))

without_other : (r x : Recipe) (rs : List Recipe) → same_recipe r x ≡ false → without r (x ∷ rs) ≡ x ∷ without r rs
without_other r x rs e = ap (λ (b : Bool). cond b rs (x ∷ without r rs)) e

without_here : (r x : Recipe) (rs : List Recipe) → same_recipe r x ≡ true → without r (x ∷ rs) ≡ rs
without_here r x rs e = ap (λ (b : Bool). cond b rs (x ∷ without r rs)) e

pub left_next : (r x : Recipe) (rs : List Recipe) (i : ℕ) → slice_get rs i ≡ Some x → same_recipe r x ≡ false → IsLeft r rs i → IsLeft r rs (i + 1)
left_next r x rs i e f h =
    let d = drop_at_some rs i x e in
    let t : take (i + 1) rs ≡ take i rs ++ x ∷ [] = take_more rs i x (slice_get_within rs i x e) ∙ ap (λ y. take i rs ++ y ∷ []) (get_or_from_slice_get rs i x x e) in (
      sym (ap (is_among r) d ∙ ap (λ (b : Bool). b || is_among r (drop (i + 1) rs)) f) ∙ h.0,
      h.1 ∙ ap (λ (ys : List Recipe). take i rs ++ without r ys) d ∙ ap (λ (ys : List Recipe). take i rs ++ ys) (without_other r x (drop (i + 1) rs) f)
          ∙ sym (append_assoc (take i rs) (x ∷ []) (without r (drop (i + 1) rs))) ∙ ap (λ (ys : List Recipe). ys ++ without r (drop (i + 1) rs)) (sym t),
    )

pub left_here : (r x : Recipe) (rs : List Recipe) (i : ℕ) → slice_get rs i ≡ Some x → same_recipe r x ≡ true → IsLeft r rs i → Places r rs (Some i)
left_here r x rs i e f h =
    let d = drop_at_some rs i x e in
    let s : suc i ≡ i + 1 = omega arith in (
      slice_get_within rs i x e,
      sym h.0 ∙ ap (is_among r) d ∙ ap (λ (b : Bool). b || is_among r (drop (i + 1) rs)) f,
      e ∙ ap Some (sym (same_recipe-true r x f)),
      h.1 ∙ ap (λ (ys : List Recipe). take i rs ++ without r ys) d ∙ ap (λ (ys : List Recipe). take i rs ++ ys) (without_here r x (drop (i + 1) rs) f)
          ∙ ap (λ (k : ℕ). take i rs ++ drop k rs) (sym s),
    )

pub ruleset range_steps = (among_next, among_end, among_start)

pub filed_item : {M : Type 0} (filed : List (RenderedOf M)) (i : ℕ) (d : RenderedOf M) (x : Recipe) → i < length filed → d ≡ get_or filed i d → x ≡ d.recipe → slice_get (recipes_of filed) i ≡ Some x
filed_item {M} filed i d x h e f = filed_at filed i d h ∙ ap (λ (r : RenderedOf M). Some r.recipe) (sym e) ∙ ap Some (sym f)
