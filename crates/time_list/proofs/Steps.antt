-- The steps of the loops over a list of segments, in the forms that `grind` applies.
use Rattle.std.proofs.Common.{◌≡◌, ℕ, ◌+◌, ◌-◌, ◌<◌, ◌≤◌, false, ◌||◌, List, [], ◌∷◌, length, get_or, drop, Some, sym, ap, ◌∙◌, arith}
use Rattle.std.specs.Prelude.{slice_get}
use Rattle.std.proofs.lemmas.List.{at_drop_more, drop_all}
use Rattle.tl_model.specs.declared.recipe.Recipe.{Recipe}
use Rattle.tl_model.specs.declared.segment.Segment.{Segment}
use Rattle.tl_model.specs.Recipe.{same_recipe}
use Rattle.tl_model.specs.Cells.{run, cell_at, cells_of, cells, recipe_of, recipes, is_among}
use Rattle.time_list.specs.Pieces.{front_of, back_of, fronts, backs}
use Rattle.time_list.proofs.Runs.{run_next, run_ended, map-run}
use Rattle.time_list.proofs.Cuts.{segment_count-cells, cells-append, cells-fronts, cells-backs, ArePieces-append, ArePieces-fronts, ArePieces-backs, fronts_whole, fronts_part, fronts_none, backs_past, backs_part, backs_all, IsPiece-at, recipe_past, recipe_inside, length-cells_more, is_among_more}

pub fronts_step_part : (ss : List Segment) (i at : ℕ) (d : Segment) → i < length ss → at < (get_or ss i d).len → 0 < at → fronts (drop i ss) at ≡ front_of (get_or ss i d) at ∷ []
fronts_step_part ss i at d h l p = at_drop_more (λ (rest : List Segment). fronts rest at) ss i d h ∙ fronts_part (get_or ss i d) (drop (i + 1) ss) at l p

pub fronts_step_none : (ss : List Segment) (i at : ℕ) (d : Segment) → i < length ss → at < (get_or ss i d).len → at ≡ 0 → fronts (drop i ss) at ≡ []
fronts_step_none ss i at d h l z = at_drop_more (λ (rest : List Segment). fronts rest at) ss i d h ∙ fronts_none (get_or ss i d) (drop (i + 1) ss) at l z

pub backs_step_part : (ss : List Segment) (i at : ℕ) (d : Segment) → i < length ss → at < (get_or ss i d).len → 0 < at → backs (drop i ss) at ≡ back_of (get_or ss i d) at ∷ drop (i + 1) ss
backs_step_part ss i at d h l p = at_drop_more (λ (rest : List Segment). backs rest at) ss i d h ∙ backs_part (get_or ss i d) (drop (i + 1) ss) at l p

pub backs_step_all : (ss : List Segment) (i at : ℕ) (d : Segment) → i < length ss → at < (get_or ss i d).len → at ≡ 0 → backs (drop i ss) at ≡ get_or ss i d ∷ drop (i + 1) ss
backs_step_all ss i at d h l z = at_drop_more (λ (rest : List Segment). backs rest at) ss i d h ∙ backs_all (get_or ss i d) (drop (i + 1) ss) at l z

pub recipe_step_past : (ss : List Segment) (i n : ℕ) (d : Segment) → i < length ss → (get_or ss i d).len ≤ n → slice_get (recipes (cells (drop i ss))) n ≡ slice_get (recipes (cells (drop (i + 1) ss))) (n - (get_or ss i d).len)
recipe_step_past ss i n d h l = at_drop_more (λ (rest : List Segment). slice_get (recipes (cells rest)) n) ss i d h ∙ recipe_past (get_or ss i d) (drop (i + 1) ss) n l

pub recipe_step_inside : (ss : List Segment) (i n : ℕ) (d : Segment) → i < length ss → n < (get_or ss i d).len → slice_get (recipes (cells (drop i ss))) n ≡ Some (recipe_of (cell_at (get_or ss i d) n))
recipe_step_inside ss i n d h l = at_drop_more (λ (rest : List Segment). slice_get (recipes (cells rest)) n) ss i d h ∙ recipe_inside (get_or ss i d) (drop (i + 1) ss) n l

pub length_step : (ss : List Segment) (i : ℕ) (d : Segment) → i < length ss → length (cells (drop i ss)) ≡ (get_or ss i d).len + length (cells (drop (i + 1) ss))
length_step ss i d h = at_drop_more (λ (rest : List Segment). length (cells rest)) ss i d h ∙ length-cells_more (get_or ss i d) (drop (i + 1) ss)

pub length_end : (ss : List Segment) (i : ℕ) → length ss ≤ i → length (cells (drop i ss)) ≡ 0
length_end ss i h = ap (λ (rest : List Segment). length (cells rest)) (drop_all i ss h)

pub use_step : (ss : List Segment) (i : ℕ) (d : Segment) (r : Recipe) → i < length ss → is_among r (recipes (cells (drop i ss))) ≡ (is_among r (recipes (cells_of (get_or ss i d))) || is_among r (recipes (cells (drop (i + 1) ss))))
use_step ss i d r h = at_drop_more (λ (rest : List Segment). is_among r (recipes (cells rest))) ss i d h ∙ is_among_more r (get_or ss i d) (drop (i + 1) ss)

pub use_end : (ss : List Segment) (i : ℕ) (r : Recipe) → length ss ≤ i → is_among r (recipes (cells (drop i ss))) ≡ false
use_end ss i r h = ap (λ (rest : List Segment). is_among r (recipes (cells rest))) (drop_all i ss h)

-- what is left of a segment, one frame on and at its end
pub among_next : (s : Segment) (r : Recipe) (n : ℕ) → n < s.len → is_among r (run (λ (k : ℕ). recipe_of (cell_at s k)) n (s.len - n)) ≡ (same_recipe r (recipe_of (cell_at s n)) || is_among r (run (λ (k : ℕ). recipe_of (cell_at s k)) (n + 1) (s.len - (n + 1))))
among_next s r n h = ap (is_among r) (run_next (λ (k : ℕ). recipe_of (cell_at s k)) n s.len h)

pub among_end : (s : Segment) (r : Recipe) (n : ℕ) → s.len ≤ n → is_among r (run (λ (k : ℕ). recipe_of (cell_at s k)) n (s.len - n)) ≡ false
among_end s r n h = ap (is_among r) (run_ended (λ (k : ℕ). recipe_of (cell_at s k)) n s.len h)

pub among_all : (s : Segment) (r : Recipe) → is_among r (run (λ (k : ℕ). recipe_of (cell_at s k)) 0 (s.len - 0)) ≡ is_among r (recipes (cells_of s))
among_all s r =
    let z : s.len - 0 ≡ s.len = omega arith in
    ap (λ (k : ℕ). is_among r (run (λ (k : ℕ). recipe_of (cell_at s k)) 0 k)) z ∙ ap (is_among r) (sym (map-run recipe_of (cell_at s) 0 s.len))

pub ruleset piece_steps = (among_next, among_end, among_all)

pub ruleset lane_steps = (segment_count-cells)

pub ruleset recipe_steps = (recipe_step_past, recipe_step_inside, length_step, length_end, IsPiece-at)

pub ruleset use_steps = (use_step, use_end, IsPiece-at)
