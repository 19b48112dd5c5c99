-- Places between frames on a list of segments, in the forms that `grind` applies.
use Rattle.std.proofs.Common.{◌≡◌, ℕ, zero, suc, ◌+◌, ◌-◌, ◌^◌, ◌<◌, ◌≤◌, min, List, [], ◌∷◌, ◌++◌, length, get_or, take, drop, refl, sym, ap, ◌∙◌, subst, append_assoc, arith}
use Rattle.std.proofs.lemmas.Grind.{common_steps}
use Rattle.tl_model.specs.declared.segment.Segment.{Segment}
use Rattle.tl_model.specs.Cells.{cells}
use Rattle.tl_model.specs.Segment.{ArePieces}
use Rattle.time_list.specs.Pieces.{front_of, back_of, fronts, backs}
use Rattle.time_list.specs.Changes.{IsInside}
use Rattle.time_list.proofs.Cuts.{length-cells_more, IsPiece-at, fronts_part, fronts_none, backs_part, backs_all}
use Rattle.time_list.proofs.Steps.{length_step, length_end}

pub length_take_more : (ss : List Segment) (i : ℕ) (d : Segment) → i < length ss → length (cells (take (i + 1) ss)) ≡ length (cells (take i ss)) + (get_or ss i d).len
length_take_more [] i d h = absurd (omega arith)
length_take_more (s ∷ ss) zero d h = length-cells_more s [] ∙ (let e : s.len + 0 ≡ 0 + s.len = omega arith in e)
length_take_more (s ∷ ss) (suc i) d h =
    let one = length-cells_more s (take (i + 1) ss) in
    let two = length-cells_more s (take i ss) in
    let more = length_take_more ss i d (omega arith) in
    let e : suc i + 1 ≡ suc (i + 1) = omega arith in
    ap (λ (k : ℕ). length (cells (take k (s ∷ ss)))) e ∙ (let f : length (cells (s ∷ take (i + 1) ss)) ≡ length (cells (s ∷ take i ss)) + (get_or ss i d).len = omega arith in f)

pub length_take_all : (ss : List Segment) (i : ℕ) → length ss ≤ i → length (cells (take i ss)) ≡ length (cells ss)
length_take_all [] zero h = refl
length_take_all [] (suc i) h = refl
length_take_all (s ∷ ss) zero h = absurd (omega arith)
length_take_all (s ∷ ss) (suc i) h = length-cells_more s (take i ss) ∙ ap (λ (k : ℕ). s.len + k) (length_take_all ss i (omega arith)) ∙ sym (length-cells_more s ss)

pub length_take_le : (ss : List Segment) (i : ℕ) → length (cells (take i ss)) ≤ length (cells ss)
length_take_le ss zero = omega arith
length_take_le [] (suc i) = omega arith
length_take_le (s ∷ ss) (suc i) =
    let one = length-cells_more s (take i ss) in
    let two = length-cells_more s ss in
    let less = length_take_le ss i in
    omega arith

pub inside_here : (ss : List Segment) (i o : ℕ) (d : Segment) → i < length ss → o < (get_or ss i d).len → IsInside o (drop i ss)
inside_here [] i o d h l = absurd (omega arith)
inside_here (s ∷ ss) zero o d h l = l
inside_here (s ∷ ss) (suc i) o d h l = inside_here ss i o d (omega arith) l

pub inside_end : (ss : List Segment) (i o : ℕ) → length ss ≤ i → o ≡ 0 → IsInside o (drop i ss)
inside_end [] zero o h z = z
inside_end [] (suc i) o h z = z
inside_end (s ∷ ss) zero o h z = absurd (omega arith)
inside_end (s ∷ ss) (suc i) o h z = inside_end ss i o (omega arith) z

pub inside_start : (ss : List Segment) → ArePieces ss → IsInside 0 ss
inside_start [] p = refl
inside_start (s ∷ ss) p = omega (arith, p.0.formed.0)

-- a place in a segment is before the end
pub inside_less : (ss : List Segment) (i o : ℕ) → i < length ss → IsInside o (drop i ss) → length (cells (take i ss)) + o < length (cells ss)
inside_less [] i o h k = absurd (omega arith)
inside_less (s ∷ ss) zero o h k = let more = length-cells_more s ss in omega (arith, k)
inside_less (s ∷ ss) (suc i) o h k =
    let less = inside_less ss i o (omega arith) k in
    let one = length-cells_more s (take i ss) in
    let two = length-cells_more s ss in
    omega arith

pub inside_total : (ss : List Segment) (i o : ℕ) (d : Segment) → i < length ss → o < (get_or ss i d).len → length (cells (take i ss)) + o < length (cells ss)
inside_total ss i o d h k = inside_less ss i o h (inside_here ss i o d h k)

pub item_len : (ss : List Segment) (i : ℕ) (d : Segment) → i < length ss → (get_or ss i d).len ≤ length (cells ss)
item_len [] i d h = absurd (omega arith)
item_len (s ∷ ss) zero d h = let more = length-cells_more s ss in omega arith
item_len (s ∷ ss) (suc i) d h =
    let more = length-cells_more s ss in
    let rest = item_len ss i d (omega arith) in
    omega arith

-- a place after a segment's start lies in a segment
pub inside_index : (ss : List Segment) (i o : ℕ) → i ≤ length ss → IsInside o (drop i ss) → 0 < o → i < length ss
inside_index [] zero o w h p = let e : o ≡ 0 = h in absurd (omega arith)
inside_index [] (suc i) o w h p = absurd (omega arith)
inside_index (s ∷ ss) zero o w h p = omega arith
inside_index (s ∷ ss) (suc i) o w h p = let e = inside_index ss i o (omega arith) h p in omega arith

pub inside_len : (ss : List Segment) (i o : ℕ) (d : Segment) → i < length ss → IsInside o (drop i ss) → o < (get_or ss i d).len
inside_len [] i o d w h = absurd (omega arith)
inside_len (s ∷ ss) zero o d w h = h
inside_len (s ∷ ss) (suc i) o d w h = inside_len ss i o d (omega arith) h

pub fronts_inside : (ss : List Segment) (i o : ℕ) (d : Segment) → i < length ss → IsInside o (drop i ss) → 0 < o → fronts (drop i ss) o ≡ front_of (get_or ss i d) o ∷ []
fronts_inside [] i o d w h p = absurd (omega arith)
fronts_inside (s ∷ ss) zero o d w h p = fronts_part s ss o h p
fronts_inside (s ∷ ss) (suc i) o d w h p = fronts_inside ss i o d (omega arith) h p

pub fronts_start : (ss : List Segment) (i o : ℕ) → IsInside o (drop i ss) → o ≡ 0 → fronts (drop i ss) o ≡ []
fronts_start [] zero o h z = refl
fronts_start [] (suc i) o h z = refl
fronts_start (s ∷ ss) zero o h z = fronts_none s ss o h z
fronts_start (s ∷ ss) (suc i) o h z = fronts_start ss i o h z

pub backs_inside : (ss : List Segment) (i o : ℕ) (d : Segment) → i < length ss → IsInside o (drop i ss) → 0 < o → backs (drop i ss) o ≡ back_of (get_or ss i d) o ∷ drop (i + 1) ss
backs_inside [] i o d w h p = absurd (omega arith)
backs_inside (s ∷ ss) zero o d w h p = backs_part s ss o h p
backs_inside (s ∷ ss) (suc i) o d w h p =
    let e : suc i + 1 ≡ suc (i + 1) = omega arith in
    backs_inside ss i o d (omega arith) h p ∙ ap (λ (k : ℕ). back_of (get_or ss i d) o ∷ drop k (s ∷ ss)) (sym e)

pub backs_start : (ss : List Segment) (i o : ℕ) → IsInside o (drop i ss) → o ≡ 0 → backs (drop i ss) o ≡ drop i ss
backs_start [] zero o h z = refl
backs_start [] (suc i) o h z = refl
backs_start (s ∷ ss) zero o h z = backs_all s ss o h z
backs_start (s ∷ ss) (suc i) o h z = backs_start ss i o h z

pub ruleset cut_steps = (length_take_more, length_take_all, inside_here, inside_end)

pub ruleset end_steps = (length_take_more, length_take_all, inside_here, inside_end, inside_total)

pub ruleset item_steps = (IsPiece-at, item_len)

pub ruleset start_steps = (inside_start, length_take_all)

pub ruleset frame_steps = (length_take_all)

pub ruleset front_steps = (inside_index, inside_len, fronts_inside, fronts_start, common_steps)

pub ruleset back_steps = (inside_index, inside_len, backs_inside, backs_start, IsPiece-at, append_assoc, common_steps)

pub ruleset count_steps = (length_step, length_end, length_take_more, length_take_all)
