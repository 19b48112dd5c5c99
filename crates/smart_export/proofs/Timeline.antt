-- The recipes of a timeline, segment by segment and frame by frame.
use Rattle.std.proofs.Common.{◌≡◌, ℕ, zero, suc, ◌+◌, ◌<◌, ◌≤◌, List, [], ◌∷◌, ◌++◌, length, take, drop, get_or, Some, refl, sym, ap, ◌∙◌, subst, arith, append_assoc, length-append, take-append-drop}
use Rattle.std.specs.Prelude.{slice_get}
use Rattle.std.proofs.lemmas.List.{append-nil, map-append, length-map, take_more}
use Rattle.std.proofs.lemmas.Option.{get_or_from_slice_get, slice_get_within}
use Rattle.tl_model.specs.Media.{Library, CanRender}
use Rattle.tl_model.specs.Cells.{Cell, cell_at, run, cells_of, cells, recipe_of, recipes}
use Rattle.tl_model.specs.Segment.{IsPiece, ArePieces}
use Rattle.tl_model.specs.Sound.{AreSound}
use Rattle.tl_model.specs.declared.recipe.Recipe.{Recipe}
use Rattle.tl_model.specs.declared.segment.Segment.{Segment}
use Rattle.tl_model.proofs.Renders.{line-renders}

-- ---- a segment

run-get : (f : ℕ → Cell) (from count i : ℕ) → i < count → slice_get (recipes (run f from count)) i ≡ Some (recipe_of (f (from + i)))
run-get f from zero i h = absurd (omega arith)
run-get f from (suc count) zero h = let e : from ≡ from + zero = omega arith in ap (λ n. Some (recipe_of (f n))) e
run-get f from (suc count) (suc i) h = let e : from + 1 + i ≡ from + suc i = omega arith in run-get f (from + 1) count i (omega arith) ∙ ap (λ n. Some (recipe_of (f n))) e

run-length : (f : ℕ → Cell) (from count : ℕ) → length (run f from count) ≡ count
run-length f from zero = refl
run-length f from (suc count) = ap suc (run-length f (from + 1) count)

-- The recipe of a frame.
pub recipe_at : (s : Segment) (i : ℕ) → i < s.len → slice_get (recipes (cells_of s)) i ≡ Some (recipe_of (cell_at s i))
recipe_at s i h = let e : 0 + i ≡ i = omega arith in run-get (cell_at s) 0 s.len i h ∙ ap (λ n. Some (recipe_of (cell_at s n))) e

pub cells-length : (s : Segment) → length (cells_of s) ≡ s.len
cells-length s = run-length (cell_at s) 0 s.len

pub recipes-length : (s : Segment) → length (recipes (cells_of s)) ≡ s.len
recipes-length s = length-map (cells_of s) recipe_of ∙ cells-length s

-- One frame more of a list.
pub take-next : (rs : List Recipe) (i : ℕ) (r : Recipe) → slice_get rs i ≡ Some r → take (i + 1) rs ≡ take i rs ++ r ∷ []
take-next rs i r is = take_more rs i r (slice_get_within rs i r is) ∙ ap (λ (x : Recipe). take i rs ++ x ∷ []) (get_or_from_slice_get rs i r r is)

-- The frames before one, that one, and those after it.
pub parts_at : (rs : List Recipe) (i : ℕ) (r : Recipe) → slice_get rs i ≡ Some r → (take i rs ++ r ∷ []) ++ drop (i + 1) rs ≡ rs
parts_at rs i r is = ap (λ (x : List Recipe). x ++ drop (i + 1) rs) (sym (take-next rs i r is)) ∙ take-append-drop (i + 1) rs

-- A frame of a sound segment can be rendered.
pub frame-renders : {F : Type 0} (lib : Library F) (s : Segment) (i : ℕ) → i < s.len → AreSound lib (cells_of s) → CanRender lib (recipe_of (cell_at s i))
frame-renders lib s i h sound = line-renders lib (cells_of s) i (recipe_of (cell_at s i)) sound (recipe_at s i h)

-- ---- segments

cells-append : (ss ts : List Segment) → cells (ss ++ ts) ≡ cells ss ++ cells ts
cells-append [] ts = refl
cells-append (s ∷ ss) ts = ap (λ (x : List Cell). cells_of s ++ x) (cells-append ss ts) ∙ sym (append_assoc (cells_of s) (cells ss) (cells ts))

-- One segment more.
pub cells-next : (ss : List Segment) (k : ℕ) (d : Segment) → k < length ss → cells (take (k + 1) ss) ≡ cells (take k ss) ++ cells_of (get_or ss k d)
cells-next ss k d h =
    ap cells (take_more ss k d h) ∙ cells-append (take k ss) (get_or ss k d ∷ []) ∙ ap (λ (x : List Cell). cells (take k ss) ++ x) (append-nil (cells_of (get_or ss k d)))

-- The cells before a segment, its own, and those after it.
pub cells_parts : (ss : List Segment) (k : ℕ) (d : Segment) → k < length ss → cells ss ≡ (cells (take k ss) ++ cells_of (get_or ss k d)) ++ cells (drop (k + 1) ss)
cells_parts ss k d h =
    ap cells (sym (take-append-drop (k + 1) ss)) ∙ cells-append (take (k + 1) ss) (drop (k + 1) ss) ∙ ap (λ (x : List Cell). x ++ cells (drop (k + 1) ss)) (cells-next ss k d h)

recipes-append : (a b : List Cell) → recipes (a ++ b) ≡ recipes a ++ recipes b
recipes-append a b = map-append recipe_of a b

pub recipes-next : (ss : List Segment) (k : ℕ) (d : Segment) → k < length ss → recipes (cells (take (k + 1) ss)) ≡ recipes (cells (take k ss)) ++ recipes (cells_of (get_or ss k d))
recipes-next ss k d h = ap recipes (cells-next ss k d h) ∙ recipes-append (cells (take k ss)) (cells_of (get_or ss k d))

pub recipes_parts : (ss : List Segment) (k : ℕ) (d : Segment) → k < length ss → (recipes (cells (take k ss)) ++ recipes (cells_of (get_or ss k d))) ++ recipes (cells (drop (k + 1) ss)) ≡ recipes (cells ss)
recipes_parts ss k d h =
    ap (λ (x : List Recipe). x ++ recipes (cells (drop (k + 1) ss))) (sym (recipes-append (cells (take k ss)) (cells_of (get_or ss k d))))
    ∙ sym (recipes-append (cells (take k ss) ++ cells_of (get_or ss k d)) (cells (drop (k + 1) ss))) ∙ ap recipes (sym (cells_parts ss k d h))

-- Up to a segment's end there are no more frames than in all.
pub recipes-room : (ss : List Segment) (k : ℕ) (d : Segment) → k < length ss → length (recipes (cells (take k ss))) + length (recipes (cells_of (get_or ss k d))) ≤ length (cells ss)
recipes-room ss k d h =
    let front : List Recipe = recipes (cells (take k ss)) in
    let own : List Recipe = recipes (cells_of (get_or ss k d)) in
    let later : List Recipe = recipes (cells (drop (k + 1) ss)) in
    let all : length ((front ++ own) ++ later) ≡ length (cells ss) = ap length (recipes_parts ss k d h) ∙ length-map (cells ss) recipe_of in
    omega (arith, length-append front own, length-append (front ++ own) later)

AreSound-front : {F : Type 0} (lib : Library F) (a b : List Cell) → AreSound lib (a ++ b) → AreSound lib a
AreSound-front lib [] b h = tt
AreSound-front lib (c ∷ a) b h = (h.0, AreSound-front lib a b h.1)

AreSound-rest : {F : Type 0} (lib : Library F) (a b : List Cell) → AreSound lib (a ++ b) → AreSound lib b
AreSound-rest lib [] b h = h
AreSound-rest lib (c ∷ a) b h = AreSound-rest lib a b h.1

-- A segment of a sound timeline is sound.
pub segment_is_sound : {F : Type 0} (lib : Library F) (ss : List Segment) (k : ℕ) (d : Segment) → k < length ss → AreSound lib (cells ss) → AreSound lib (cells_of (get_or ss k d))
segment_is_sound lib ss k d h sound =
    let all = subst (AreSound lib) (cells_parts ss k d h) sound in
    AreSound-rest lib (cells (take k ss)) (cells_of (get_or ss k d)) (AreSound-front lib (cells (take k ss) ++ cells_of (get_or ss k d)) (cells (drop (k + 1) ss)) all)

pub segment_is_piece : (ss : List Segment) (k : ℕ) (d : Segment) → k < length ss → ArePieces ss → IsPiece (get_or ss k d)
segment_is_piece [] k d h pieces = absurd (omega arith)
segment_is_piece (s ∷ ss) zero d h pieces = pieces.0
segment_is_piece (s ∷ ss) (suc k) d h pieces = segment_is_piece ss k d (omega arith) pieces.1
