-- The cells of a list of segments that is cut, and the steps of the loops that go through one.
use Rattle.std.proofs.Common.{subst, inl, inr, ◌≡◌, ℕ, zero, suc, ◌+◌, ◌-◌, ◌<◌, ◌≤◌, min, cond, Bool, true, false, ◌||◌, List, [], ◌∷◌, ◌++◌, length, get_or, take, drop, Option, Some, None, refl, sym, ap, ◌∙◌, append_assoc, arith}
use Rattle.std.specs.Prelude.{nat_lt, nat_le, ◌==◌, slice_get}
use Rattle.std.proofs.lemmas.Bool.{cases_lt}
use Rattle.tl_model.specs.Recipe.{same_recipe}
use Rattle.std.proofs.lemmas.List.{length-map, length-drop, append-nil, length-append, map-append, take-append-le, drop-append-le}
use Rattle.std.proofs.lemmas.List.Folds.{list_any-append}
use Rattle.std.proofs.lemmas.List.Sums.{sum_by-cons, sum_by-append}
use Rattle.std.proofs.lemmas.Bool.Decides.{nat_tests}
use Rattle.tl_model.specs.Segment.{IsMix, IsMixOf, Reaches, IsPiece, ArePieces}
use Rattle.tl_model.specs.declared.recipe.Side.{Side}
use Rattle.tl_model.specs.declared.recipe.Side.TheVariants as side
use Rattle.tl_model.specs.declared.recipe.Mix.{Mix}
use Rattle.tl_model.specs.declared.recipe.Recipe.{Recipe}
use Rattle.tl_model.specs.declared.segment.Segment.{Segment}
use Rattle.tl_model.specs.Cells.{Cell, side_at, cell_at, run, cells_of, cells, segment_count, recipe_of, recipes, is_among}
use Rattle.time_list.specs.Edits.{headed}
use Rattle.time_list.specs.Pieces.{front_mix, back_mix, front_of, back_of, fronts, backs}
use Rattle.time_list.proofs.Runs.{slice_get-run, take_over, drop_over, slice_get_over, slice_get_before, take_nil, drop_nil, map-run}
use Rattle.time_list.proofs.Parts.{later_mix, length-cells_of, cells_of-front, cells_of-back, headed-append, headed-cells_of}

pub cells-append : (xs ys : List Segment) → cells (xs ++ ys) ≡ cells xs ++ cells ys
cells-append [] ys = refl
cells-append (s ∷ ss) ys = let e = cells-append ss ys in ap (λ (line : List Cell). cells_of s ++ line) e ∙ sym (append_assoc (cells_of s) (cells ss) (cells ys))

pub ArePieces-append : (xs ys : List Segment) → ArePieces xs → ArePieces ys → ArePieces (xs ++ ys)
ArePieces-append [] ys one two = two
ArePieces-append (s ∷ ss) ys one two = (one.0, ArePieces-append ss ys one.1 two)

-- one segment more, whole
pub fronts_whole : (s : Segment) (ss : List Segment) (at : ℕ) → s.len ≤ at → fronts (s ∷ ss) at ≡ s ∷ fronts ss (at - s.len)
fronts_whole s ss at h = let t : nat_le s.len at ≡ true = grind (arith, nat_tests) in cc

pub fronts_part : (s : Segment) (ss : List Segment) (at : ℕ) → at < s.len → 0 < at → fronts (s ∷ ss) at ≡ front_of s at ∷ []
fronts_part s ss at h l = let t : nat_le s.len at ≡ false = grind (arith, nat_tests) in let u : (at == 0) ≡ false = grind (arith, nat_tests) in cc

pub fronts_none : (s : Segment) (ss : List Segment) (at : ℕ) → at < s.len → at ≡ 0 → fronts (s ∷ ss) at ≡ []
fronts_none s ss at h l = let t : nat_le s.len at ≡ false = grind (arith, nat_tests) in let u : (at == 0) ≡ true = grind (arith, nat_tests) in cc

pub backs_past : (s : Segment) (ss : List Segment) (at : ℕ) → s.len ≤ at → backs (s ∷ ss) at ≡ backs ss (at - s.len)
backs_past s ss at h = let t : nat_le s.len at ≡ true = grind (arith, nat_tests) in cc

pub backs_part : (s : Segment) (ss : List Segment) (at : ℕ) → at < s.len → 0 < at → backs (s ∷ ss) at ≡ back_of s at ∷ ss
backs_part s ss at h l = let t : nat_le s.len at ≡ false = grind (arith, nat_tests) in let u : (at == 0) ≡ false = grind (arith, nat_tests) in cc

pub backs_all : (s : Segment) (ss : List Segment) (at : ℕ) → at < s.len → at ≡ 0 → backs (s ∷ ss) at ≡ s ∷ ss
backs_all s ss at h l = let t : nat_le s.len at ≡ false = grind (arith, nat_tests) in let u : (at == 0) ≡ true = grind (arith, nat_tests) in cc

-- a fact at a number of frames: past a segment, at its start, or inside it
at_each : {P : Type 0} (at len : ℕ) → (len ≤ at → P) → (at < len → at ≡ 0 → P) → (at < len → 0 < at → P) → P
at_each at len past start inside =
    elim (cases_lt at len) [
      | inl h ↦ elim (cases_lt 0 at) [ inl p ↦ inside h p | inr z ↦ start h (let e : at ≡ 0 = omega arith in e) ]
      | inr h ↦ past h
    ]

fronts_past_cells : (s : Segment) (ss : List Segment) (at : ℕ) → s.len ≤ at → cells (fronts ss (at - s.len)) ≡ take (at - s.len) (cells ss) → cells (fronts (s ∷ ss) at) ≡ take at (cells (s ∷ ss))
fronts_past_cells s ss at h ih =
    let len = length-cells_of s in
    let over = take_over (cells_of s) (cells ss) at (omega arith) in
    ap cells (fronts_whole s ss at h)
    ∙ ap (λ (line : List Cell). cells_of s ++ line) (ih ∙ ap (λ (k : ℕ). take (at - k) (cells ss)) (sym len))
    ∙ sym over

fronts_part_cells : (s : Segment) (ss : List Segment) (at : ℕ) → at < s.len → 0 < at → cells (fronts (s ∷ ss) at) ≡ take at (cells (s ∷ ss))
fronts_part_cells s ss at h p =
    let len = length-cells_of s in
    ap cells (fronts_part s ss at h p)
    ∙ append-nil (cells_of (front_of s at))
    ∙ cells_of-front s at (omega arith)
    ∙ sym (take-append-le at (cells_of s) (cells ss) (omega arith))

pub cells-fronts : (ss : List Segment) (at : ℕ) → cells (fronts ss at) ≡ take at (cells ss)
cells-fronts [] at = sym (take_nil at)
cells-fronts (s ∷ ss) at =
    let ih = cells-fronts ss (at - s.len) in
    at_each at s.len (λ h. fronts_past_cells s ss at h ih) (λ h z. ap cells (fronts_none s ss at h z) ∙ ap (λ (k : ℕ). take k (cells (s ∷ ss))) (sym z)) (λ h p. fronts_part_cells s ss at h p)

pub headed-cells : (ss : List Segment) → ArePieces ss → headed (cells ss) ≡ cells ss
headed-cells [] p = refl
headed-cells (s ∷ ss) p =
    let len = length-cells_of s in
    headed-append (cells_of s) (cells ss) (omega (arith, p.0.formed.0)) ∙ ap (λ (line : List Cell). line ++ cells ss) (headed-cells_of s)

backs_past_cells : (s : Segment) (ss : List Segment) (at : ℕ) → s.len ≤ at → cells (backs ss (at - s.len)) ≡ headed (drop (at - s.len) (cells ss)) → cells (backs (s ∷ ss) at) ≡ headed (drop at (cells (s ∷ ss)))
backs_past_cells s ss at h ih =
    let len = length-cells_of s in
    ap cells (backs_past s ss at h) ∙ ih
    ∙ ap (λ (k : ℕ). headed (drop (at - k) (cells ss))) (sym len)
    ∙ ap headed (sym (drop_over (cells_of s) (cells ss) at (omega arith)))

backs_part_cells : (s : Segment) (ss : List Segment) (at : ℕ) → at < s.len → 0 < at → cells (backs (s ∷ ss) at) ≡ headed (drop at (cells (s ∷ ss)))
backs_part_cells s ss at h p =
    let len = length-cells_of s in
    let left = length-drop at (cells_of s) in
    ap cells (backs_part s ss at h p)
    ∙ ap (λ (line : List Cell). line ++ cells ss) (cells_of-back s at h)
    ∙ sym (headed-append (drop at (cells_of s)) (cells ss) (omega arith))
    ∙ ap headed (sym (drop-append-le at (cells_of s) (cells ss) (omega arith)))

pub cells-backs : (ss : List Segment) (at : ℕ) → ArePieces ss → cells (backs ss at) ≡ headed (drop at (cells ss))
cells-backs [] at p = ap headed (sym (drop_nil at))
cells-backs (s ∷ ss) at p =
    let ih = cells-backs ss (at - s.len) p.1 in
    at_each at s.len (λ h. backs_past_cells s ss at h ih)
    (λ h z. ap cells (backs_all s ss at h z) ∙ sym (headed-cells (s ∷ ss) p) ∙ ap (λ (k : ℕ). headed (drop k (cells (s ∷ ss)))) (sym z))
    (λ h q. backs_part_cells s ss at h q)

pub Reaches-less : (s : Side) (a b : ℕ) → b ≤ a → Reaches s a → Reaches s b
Reaches-less side.Black a b h r = tt
Reaches-less (side.Clip c f) a b h r = omega arith

pub Reaches-later : (s : Side) (a b c : ℕ) → a + b ≤ c → Reaches s c → Reaches (side_at s a) b
Reaches-later side.Black a b c h r = tt
Reaches-later (side.Clip d f) a b c h r = omega arith

front_mix_is : (m : Option Mix) (at : ℕ) → 0 < at → IsMix m → IsMix (front_mix m at)
front_mix_is None at p h = tt
front_mix_is (Some mix) at p h = (omega (arith, h.0), omega (arith, h.1))

front_mix_reaches : (m : Option Mix) (len at : ℕ) → IsMixOf len m → IsMixOf at (front_mix m at)
front_mix_reaches None len at h = tt
front_mix_reaches (Some mix) len at h = (omega arith, Reaches-less mix.from mix.steps (min mix.steps at) (omega arith) h.1)

pub IsPiece-front : (s : Segment) (at : ℕ) → 0 < at → at ≤ s.len → IsPiece s → IsPiece (front_of s at)
IsPiece-front s at p h i = record { formed = (omega arith, front_mix_is s.mix at p i.formed.1); side = Reaches-less s.first s.len at (omega arith) i.side; mix = front_mix_reaches s.mix s.len at i.mix }

by_test : (mix : Mix) (len at : ℕ) (b : Bool) → nat_lt at mix.steps ≡ b → IsMix (Some mix) → IsMixOf len (Some mix) → IsMix (later_mix mix at b) × IsMixOf (len - at) (later_mix mix at b)
by_test mix len at true e h r =
    let l : at < mix.steps = grind (arith, nat_tests) in
    ((omega arith, omega (arith, h.0, h.1)), (omega (arith, r.0), Reaches-later mix.from at (mix.steps - at) mix.steps (omega arith) r.1))
by_test mix len at false e h r = (tt, tt)

back_mix_is : (m : Option Mix) (len at : ℕ) → IsMix m → IsMixOf len m → IsMix (back_mix m at) × IsMixOf (len - at) (back_mix m at)
back_mix_is None len at h r = (tt, tt)
back_mix_is (Some mix) len at h r = by_test mix len at (nat_lt at mix.steps) refl h r

pub IsPiece-back : (s : Segment) (at : ℕ) → at < s.len → IsPiece s → IsPiece (back_of s at)
IsPiece-back s at h i =
    let m = back_mix_is s.mix s.len at i.formed.1 i.mix in
    record { formed = (omega arith, m.0); side = Reaches-later s.first at (s.len - at) s.len (omega arith) i.side; mix = m.1 }

pub ArePieces-fronts : (ss : List Segment) (at : ℕ) → ArePieces ss → ArePieces (fronts ss at)
ArePieces-fronts [] at p = tt
ArePieces-fronts (s ∷ ss) at p =
    let ih = ArePieces-fronts ss (at - s.len) p.1 in
    at_each at s.len
    (λ h. subst ArePieces (sym (fronts_whole s ss at h)) (p.0, ih))
    (λ h z. subst ArePieces (sym (fronts_none s ss at h z)) tt)
    (λ h q. subst ArePieces (sym (fronts_part s ss at h q)) (IsPiece-front s at q (omega arith) p.0, tt))

pub ArePieces-backs : (ss : List Segment) (at : ℕ) → ArePieces ss → ArePieces (backs ss at)
ArePieces-backs [] at p = tt
ArePieces-backs (s ∷ ss) at p =
    let ih = ArePieces-backs ss (at - s.len) p.1 in
    at_each at s.len
    (λ h. subst ArePieces (sym (backs_past s ss at h)) ih)
    (λ h z. subst ArePieces (sym (backs_all s ss at h z)) p)
    (λ h q. subst ArePieces (sym (backs_part s ss at h q)) (IsPiece-back s at h p.0, p.1))

-- the heads of a segment's cells, after the first
no_heads : (s : Segment) (from n : ℕ) → 0 < from → segment_count (run (cell_at s) from n) ≡ 0
no_heads s from zero p = refl
no_heads s from (suc n) p =
    let e = no_heads s (from + 1) n (omega arith) in
    let t : (from == 0) ≡ false = grind (arith, nat_tests) in
    let z : 0 + segment_count (run (cell_at s) (from + 1) n) ≡ 0 = omega (arith, e) in
    sum_by-cons (λ (c : Cell). cond c.is_head 1 0) (cell_at s from) (run (cell_at s) (from + 1) n)
    ∙ ap (λ (b : Bool). cond b 1 0 + segment_count (run (cell_at s) (from + 1) n)) t
    ∙ z

one_head : (s : Segment) (n : ℕ) → 0 < n → segment_count (run (cell_at s) 0 n) ≡ 1
one_head s zero p = absurd (omega arith)
one_head s (suc n) p =
    let e = no_heads s 1 n (omega arith) in
    let z : 1 + segment_count (run (cell_at s) 1 n) ≡ 1 = omega (arith, e) in
    sum_by-cons (λ (c : Cell). cond c.is_head 1 0) (cell_at s 0) (run (cell_at s) 1 n) ∙ z

pub segment_count-cells : (ss : List Segment) → ArePieces ss → segment_count (cells ss) ≡ length ss
segment_count-cells [] p = refl
segment_count-cells (s ∷ ss) p =
    let one = one_head s s.len (omega (arith, p.0.formed.0)) in
    let ih = segment_count-cells ss p.1 in
    let both : segment_count (cells_of s ++ cells ss) ≡ segment_count (cells_of s) + segment_count (cells ss) = sum_by-append (λ (c : Cell). cond c.is_head 1 0) (cells_of s) (cells ss) in
    omega arith

-- the steps of the loops
pub ArePieces-drop : (ss : List Segment) (i : ℕ) → ArePieces ss → ArePieces (drop i ss)
ArePieces-drop ss zero p = p
ArePieces-drop [] (suc i) p = tt
ArePieces-drop (s ∷ ss) (suc i) p = ArePieces-drop ss i p.1

pub IsPiece-at : (ss : List Segment) (i : ℕ) (d : Segment) → i < length ss → ArePieces ss → IsPiece (get_or ss i d)
IsPiece-at [] i d h p = absurd (omega arith)
IsPiece-at (s ∷ ss) zero d h p = p.0
IsPiece-at (s ∷ ss) (suc i) d h p = IsPiece-at ss i d (omega arith) p.1

-- recipes past a segment, and in it
pub recipe_past : (s : Segment) (ss : List Segment) (n : ℕ) → s.len ≤ n → slice_get (recipes (cells (s ∷ ss))) n ≡ slice_get (recipes (cells ss)) (n - s.len)
recipe_past s ss n h =
    let len : length (recipes (cells_of s)) ≡ s.len = length-map (cells_of s) recipe_of ∙ length-cells_of s in
    ap (λ (rs : List Recipe). slice_get rs n) (map-append recipe_of (cells_of s) (cells ss))
    ∙ slice_get_over (recipes (cells_of s)) (recipes (cells ss)) n (omega arith)
    ∙ ap (λ (k : ℕ). slice_get (recipes (cells ss)) (n - k)) len

pub recipe_inside : (s : Segment) (ss : List Segment) (n : ℕ) → n < s.len → slice_get (recipes (cells (s ∷ ss))) n ≡ Some (recipe_of (cell_at s n))
recipe_inside s ss n h =
    let len : length (recipes (cells_of s)) ≡ s.len = length-map (cells_of s) recipe_of ∙ length-cells_of s in
    let z : 0 + n ≡ n = omega arith in
    ap (λ (rs : List Recipe). slice_get rs n) (map-append recipe_of (cells_of s) (cells ss))
    ∙ slice_get_before (recipes (cells_of s)) (recipes (cells ss)) n (omega arith)
    ∙ ap (λ (rs : List Recipe). slice_get rs n) (map-run recipe_of (cell_at s) 0 s.len)
    ∙ slice_get-run (λ (k : ℕ). recipe_of (cell_at s k)) 0 s.len n h
    ∙ ap (λ (k : ℕ). Some (recipe_of (cell_at s k))) z

pub length-cells_more : (s : Segment) (ss : List Segment) → length (cells (s ∷ ss)) ≡ s.len + length (cells ss)
length-cells_more s ss = length-append (cells_of s) (cells ss) ∙ ap (λ (k : ℕ). k + length (cells ss)) (length-cells_of s)

pub is_among_more : (r : Recipe) (s : Segment) (ss : List Segment) → is_among r (recipes (cells (s ∷ ss))) ≡ (is_among r (recipes (cells_of s)) || is_among r (recipes (cells ss)))
is_among_more r s ss = ap (is_among r) (map-append recipe_of (cells_of s) (cells ss)) ∙ list_any-append (same_recipe r) (recipes (cells_of s)) (recipes (cells ss))

pub length-headed : (line : List Cell) → length (headed line) ≡ length line
length-headed [] = refl
length-headed (c ∷ cs) = refl
