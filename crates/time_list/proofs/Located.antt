-- The segment that has a frame, on the cells of a list of segments.
use Rattle.std.proofs.Common.{◌≡◌, ℕ, zero, suc, ◌+◌, ◌-◌, ◌<◌, ◌≤◌, cond, Bool, true, false, List, [], ◌∷◌, ◌++◌, length, get_or, take, drop, refl, sym, ap, ◌∙◌, append_assoc, arith}
use Rattle.std.specs.Prelude.{◌==◌}
use Rattle.std.proofs.lemmas.Bool.Decides.{nat_tests}
use Rattle.std.proofs.lemmas.List.{append-nil, take-append-le, drop-append-le, at_drop_more}
use Rattle.tl_model.specs.declared.segment.Segment.{Segment}
use Rattle.tl_model.specs.Cells.{Cell, cell_at, run, cells_of, cells}
use Rattle.tl_model.specs.Segment.{ArePieces}
use Rattle.time_list.specs.Changes.{IsCutAt}
use Rattle.time_list.specs.Parts.{begins_segment, is_cut, start_of, cells_to_cut, end_of, parts_of, parts_at, last_side}
use Rattle.time_list.specs.declared.cut.Cut.{Cut}
use Rattle.time_list.proofs.Runs.{drop-run}
use Rattle.time_list.proofs.Parts.{length-cells_of}
use Rattle.time_list.proofs.Cuts.{ArePieces-drop, IsPiece-at}
use Rattle.time_list.proofs.Places.{inside_len}
use Rattle.time_list.proofs.Changed.{take-place, drop-place, begins-cells}

-- the last start before a frame
start-walk : (line : List Cell) (k o : ℕ) → is_cut k line ≡ true → ((j : ℕ) → j < o → is_cut (k + suc j) line ≡ false) → start_of (k + o) line ≡ k
start-walk line zero zero h f = refl
start-walk line (suc k) zero h f =
    let e : suc k + 0 ≡ suc k = omega arith in
    ap (λ (n : ℕ). start_of n line) e ∙ ap (λ (b : Bool). cond b (suc k) (start_of k line)) h
start-walk line k (suc o) h f =
    let e : k + suc o ≡ suc (k + o) = omega arith in
    let none_here : is_cut (suc (k + o)) line ≡ false = ap (λ (n : ℕ). is_cut n line) (sym e) ∙ f o (omega arith) in
    ap (λ (n : ℕ). start_of n line) e
    ∙ ap (λ (b : Bool). cond b (suc (k + o)) (start_of (k + o) line)) none_here
    ∙ start-walk line k o h (λ j l. f j (omega arith))

begins-later : (s : Segment) (from n : ℕ) (rest : List Cell) → 0 < from → 0 < n → begins_segment (run (cell_at s) from n ++ rest) ≡ false
begins-later s from zero rest h p = absurd (omega arith)
begins-later s from (suc n) rest h p = let t : (from == 0) ≡ false = grind (arith, nat_tests) in t

to_cut-run : (s : Segment) (from n : ℕ) (rest : List Cell) → 0 < from → cells_to_cut (run (cell_at s) from n ++ rest) ≡ n + cells_to_cut rest
to_cut-run s from zero rest h = let e : cells_to_cut rest ≡ 0 + cells_to_cut rest = omega arith in e
to_cut-run s from (suc n) rest h =
    let t : (from == 0) ≡ false = grind (arith, nat_tests) in
    let more = to_cut-run s (from + 1) n rest (omega arith) in
    let e : 1 + (n + cells_to_cut rest) ≡ suc n + cells_to_cut rest = omega arith in
    ap (λ (b : Bool). cond b 0 (1 + cells_to_cut (run (cell_at s) (from + 1) n ++ rest))) t ∙ ap (λ (k : ℕ). 1 + k) more ∙ e

to_cut-first : (s : Segment) (n : ℕ) (rest : List Cell) → 1 ≤ n → cells_to_cut (run (cell_at s) 0 n ++ rest) ≡ 0
to_cut-first s zero rest h = absurd (omega arith)
to_cut-first s (suc n) rest h = refl

to_cut-cells : (ss : List Segment) → ArePieces ss → cells_to_cut (cells ss) ≡ 0
to_cut-cells [] p = refl
to_cut-cells (s ∷ ss) p = to_cut-first s s.len (cells ss) p.0.formed.0

-- what is left of a segment and those after it
rest_of : (s : Segment) (rest : List Cell) (n : ℕ) → n ≤ s.len → drop n (cells_of s ++ rest) ≡ run (cell_at s) n (s.len - n) ++ rest
rest_of s rest n h =
    let len = length-cells_of s in
    let z : 0 + n ≡ n = omega arith in
    drop-append-le n (cells_of s) rest (omega arith)
    ∙ ap (λ (line : List Cell). line ++ rest) (drop-run (cell_at s) 0 s.len n h ∙ ap (λ (k : ℕ). run (cell_at s) k (s.len - n)) z)

-- the cells from a segment's start on
from-start : (items : List Segment) (i start n : ℕ) (d : Segment) → start ≡ length (cells (take i items)) → i < length items → drop (start + n) (cells items) ≡ drop n (cells_of (get_or items i d) ++ cells (drop (i + 1) items))
from-start items i start n d e h = drop-place items i start n e ∙ at_drop_more (λ (ss : List Segment). drop n (cells ss)) items i d h

pub is_cut-inside : (items : List Segment) (cut : Cut) (d : Segment) (n : ℕ) → cut.start ≡ length (cells (take cut.index items)) → cut.index < length items → 0 < n → n < (get_or items cut.index d).len → is_cut (cut.start + n) (cells items) ≡ false
is_cut-inside items cut d n e h p l =
    ap begins_segment (from-start items cut.index cut.start n d e h ∙ rest_of (get_or items cut.index d) (cells (drop (cut.index + 1) items)) n (omega arith))
    ∙ begins-later (get_or items cut.index d) n ((get_or items cut.index d).len - n) (cells (drop (cut.index + 1) items)) p (omega arith)

pub is_cut-start : (items : List Segment) (cut : Cut) → ArePieces items → cut.start ≡ length (cells (take cut.index items)) → is_cut (cut.start + 0) (cells items) ≡ true
is_cut-start items cut p e = ap begins_segment (drop-place items cut.index cut.start 0 e) ∙ begins-cells (drop cut.index items) (ArePieces-drop items cut.index p)

start_is : (items : List Segment) (cut : Cut) (d : Segment) → ArePieces items → IsCutAt items (cut.start + cut.offset) cut → cut.index < length items → start_of (cut.start + cut.offset) (cells items) ≡ cut.start
start_is items cut d p c h =
    let z : cut.start + 0 ≡ cut.start = omega arith in
    let len = inside_len items cut.index cut.offset d h c.inside in
    start-walk (cells items) cut.start cut.offset (ap (λ (k : ℕ). is_cut k (cells items)) (sym z) ∙ is_cut-start items cut p c.start)
    (λ j l. is_cut-inside items cut d (suc j) c.start h (omega arith) (omega arith))

end_is : (items : List Segment) (cut : Cut) (d : Segment) → ArePieces items → IsCutAt items (cut.start + cut.offset) cut → cut.index < length items → end_of (cut.start + cut.offset) (cells items) ≡ cut.start + (get_or items cut.index d).len
end_is items cut d p c h =
    let s = get_or items cut.index d in
    let rest = drop (cut.index + 1) items in
    let len : cut.offset < s.len = inside_len items cut.index cut.offset d h c.inside in
    let e : (cut.start + cut.offset) + 1 ≡ cut.start + (cut.offset + 1) = omega arith in
    let left : cells_to_cut (drop ((cut.start + cut.offset) + 1) (cells items)) ≡ (s.len - (cut.offset + 1)) + 0 =
    ap (λ (k : ℕ). cells_to_cut (drop k (cells items))) e
    ∙ ap cells_to_cut (from-start items cut.index cut.start (cut.offset + 1) d c.start h ∙ rest_of s (cells rest) (cut.offset + 1) (omega arith))
    ∙ to_cut-run s (cut.offset + 1) (s.len - (cut.offset + 1)) (cells rest) (omega arith)
    ∙ ap (λ (k : ℕ). (s.len - (cut.offset + 1)) + k) (to_cut-cells rest (ArePieces-drop items (cut.index + 1) p)) in
    omega arith

take-whole : {A : Type 0} (xs : List A) → take (length xs) xs ≡ xs
take-whole [] = refl
take-whole (x ∷ xs) = let e = take-whole xs in cc

pub located : (items : List Segment) (cut : Cut) (d : Segment) → ArePieces items → IsCutAt items (cut.start + cut.offset) cut → cut.index < length items → parts_at (cut.start + cut.offset) (cells items) ≡ record { before = cells (take cut.index items); own = cells_of (get_or items cut.index d); after = cells (drop (cut.index + 1) items) }
located items cut d p c h =
    let s = get_or items cut.index d in
    let rest = cells (drop (cut.index + 1) items) in
    let len = length-cells_of s in
    let z : cut.start + 0 ≡ cut.start = omega arith in
    let zero_left : s.len - s.len ≡ 0 = omega arith in
    let before : take cut.start (cells items) ≡ cells (take cut.index items) = ap (λ (k : ℕ). take k (cells items)) (sym z) ∙ take-place items cut.index cut.start 0 c.start ∙ append-nil (cells (take cut.index items)) in
    let from : drop cut.start (cells items) ≡ cells_of s ++ rest = ap (λ (k : ℕ). drop k (cells items)) (sym z) ∙ from-start items cut.index cut.start 0 d c.start h in
    let size : (cut.start + s.len) - cut.start ≡ length (cells_of s) = omega arith in
    let all : take (length (cells_of s)) (cells_of s ++ rest) ≡ cells_of s = take-append-le (length (cells_of s)) (cells_of s) rest (omega arith) ∙ take-whole (cells_of s) in
    let own : take ((cut.start + s.len) - cut.start) (drop cut.start (cells items)) ≡ cells_of s = ap (λ (line : List Cell). take ((cut.start + s.len) - cut.start) line) from ∙ ap (λ (k : ℕ). take k (cells_of s ++ rest)) size ∙ all in
    let after : drop (cut.start + s.len) (cells items) ≡ rest = from-start items cut.index cut.start s.len d c.start h ∙ rest_of s rest s.len (omega arith) ∙ ap (λ (k : ℕ). run (cell_at s) s.len k ++ rest) zero_left in
    ap (λ (k : ℕ). parts_of k (end_of (cut.start + cut.offset) (cells items)) (cells items)) (start_is items cut d p c h)
    ∙ ap (λ (k : ℕ). parts_of cut.start k (cells items)) (end_is items cut d p c h)
    ∙ (let same : parts_of cut.start (cut.start + s.len) (cells items) ≡ record { before = cells (take cut.index items); own = cells_of s; after = rest } = cc in same)

-- the last side of what lies before a segment
last_side-append : (xs ys : List Cell) → 1 ≤ length ys → last_side (xs ++ ys) ≡ last_side ys
last_side-append [] ys h = refl
last_side-append (x ∷ []) [] h = absurd (omega arith)
last_side-append (x ∷ []) (y ∷ ys) h = refl
last_side-append (x ∷ z ∷ xs) ys h = last_side-append (z ∷ xs) ys h

append_assoc-back : (xs ys zs : List Cell) → xs ++ (ys ++ zs) ≡ (xs ++ ys) ++ zs
append_assoc-back xs ys zs = sym (append_assoc xs ys zs)

take-last : (items : List Segment) (i : ℕ) (d : Segment) → i < length items → cells (take (i + 1) items) ≡ cells (take i items) ++ cells_of (get_or items i d)
take-last [] i d h = absurd (omega arith)
take-last (s ∷ ss) zero d h = append-nil (cells_of s)
take-last (s ∷ ss) (suc i) d h =
    let e : suc i + 1 ≡ suc (i + 1) = omega arith in
    ap (λ (k : ℕ). cells (take k (s ∷ ss))) e
    ∙ ap (λ (line : List Cell). cells_of s ++ line) (take-last ss i d (omega arith))
    ∙ append_assoc-back (cells_of s) (cells (take i ss)) (cells_of (get_or ss i d))

pub last_side-before : (items : List Segment) (i : ℕ) (d : Segment) → ArePieces items → 0 < i → i ≤ length items → last_side (cells (take i items)) ≡ last_side (cells_of (get_or items (i - 1) d))
last_side-before items i d p h l =
    let e : i ≡ (i - 1) + 1 = omega arith in
    let len = length-cells_of (get_or items (i - 1) d) in
    let some = (IsPiece-at items (i - 1) d (omega arith) p).formed.0 in
    ap (λ (k : ℕ). last_side (cells (take k items))) e
    ∙ ap last_side (take-last items (i - 1) d (omega arith))
    ∙ last_side-append (cells (take (i - 1) items)) (cells_of (get_or items (i - 1) d)) (omega arith)
