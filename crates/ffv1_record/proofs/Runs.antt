-- The entries of tables, run by run and table by table.
use Rattle.std.proofs.Common.{◌≡◌, ℕ, zero, suc, ◌+◌, ◌-◌, ◌*◌, ◌<◌, ◌≤◌, ℤ, pos, neg_ℤ, ◌≤ℤ◌, List, [], ◌∷◌, ◌++◌, length, get_or, set, take, drop, map, replicate, reverse, refl, sym, ◌∙◌, ap, subst, arith, rules, append_assoc}
use Rattle.std.specs.List.{sum, fold}
use Rattle.std.specs.Prelude.{All}
use Rattle.std.proofs.lemmas.List.{length-append, length-map, length-replicate, length-reverse, length-drop, length-take, take_more, take_all, take_at, drop_at, drop-drop, drop_all, drop_more, map-append, append-nil, get_or-map, get_or-reverse, get_or-drop, ext_get_or, set_at}
use Rattle.std.proofs.lemmas.List.Elements.{All-get_or}
use Rattle.std.proofs.lemmas.Nat.{mul-le}
use mir.Val.{SFits}
use mir.Syntax.{w16}
use Rattle.std.specs.Int.Signed.{mag}
use Rattle.std.proofs.Math.Facts.{sfits_lit, yes_ltb}
use Rattle.ffv1_record.specs.declared.tables.Runs.{Runs}
use Rattle.ffv1_record.specs.Tables.{first_half, mirrored, table_of, next_scale, tables_from, scale_after, AreRuns, AreSetRuns, ScalesFit, max_scale}

-- ---- runs
fold-from : (a : ℕ) (xs : List ℕ) → fold ◌+◌ a xs ≡ a + fold ◌+◌ 0 xs
fold-from a [] = omega arith
fold-from a (x ∷ xs) = fold-from (a + x) xs ∙ omega (arith, fold-from (0 + x) xs)

sum-cons : (x : ℕ) (xs : List ℕ) → sum (x ∷ xs) ≡ x + sum xs
sum-cons x xs = fold-from (0 + x) xs ∙ ap (λ n. n + sum xs) {x = 0 + x} {y = x} (omega arith)

sum-none : sum [] ≡ 0
sum-none = refl

sum-append : (xs ys : List ℕ) → sum (xs ++ ys) ≡ sum xs + sum ys
sum-append [] ys = omega (arith, sum-none)
sum-append (x ∷ xs) ys = omega (arith, sum-append xs ys, sum-cons x xs, sum-cons x (xs ++ ys))

pub sum-take_more : (xs : List ℕ) (i : ℕ) → i < length xs → sum (take (i + 1) xs) ≡ sum (take i xs) + get_or xs i 0
sum-take_more xs i lt = ap sum (take_more xs i 0 lt) ∙ sum-append (take i xs) (get_or xs i 0 ∷ []) ∙ omega (arith, sum-cons (get_or xs i 0) [], sum-none)

pub sum-take_le : (xs : List ℕ) (i : ℕ) → sum (take i xs) ≤ sum xs
sum-take_le xs zero = omega (arith, sum-none)
sum-take_le [] (suc i) = omega (arith, sum-none)
sum-take_le (x ∷ xs) (suc i) = omega (arith, sum-take_le xs i, sum-cons x xs, sum-cons x (take i xs))

length-le-sum_from : (xs : List ℕ) → ((k : ℕ) → k < length xs → 0 < get_or xs k 0) → length xs ≤ sum xs
length-le-sum_from [] some = omega (arith, sum-none)
length-le-sum_from (x ∷ xs) some = omega (arith, length-le-sum_from xs (λ k lt. some (suc k) (omega arith)), some 0 (omega arith), sum-cons x xs)

pub few_runs : (runs : List ℕ) → AreRuns runs → length runs ≤ 128
few_runs runs h = omega (arith, h.whole, length-le-sum_from runs (λ k lt. All-get_or (λ run. 0 < run) runs k 0 lt h.some))

pub some_runs : (runs : List ℕ) → AreRuns runs → 1 ≤ length runs
some_runs [] h = absurd (omega (arith, h.whole, sum-none))
some_runs (x ∷ xs) h = omega arith

-- ---- the first half, run by run
first_half-push : (scale v run : ℕ) (front : List ℕ) → first_half scale v (front ++ run ∷ []) ≡ first_half scale v front ++ replicate run (scale * (v + length front))
first_half-push scale v run [] = append-nil (replicate run (scale * v)) ∙ ap (λ n. replicate run (scale * n)) {x = v} {y = v + 0} (omega arith)
first_half-push scale v run (x ∷ front) =
    ap (λ (l : List ℕ). replicate x (scale * v) ++ l) (first_half-push scale (v + 1) run front ∙ ap (λ n. first_half scale (v + 1) front ++ replicate run (scale * n)) {x = v + 1 + length front} {y = v + suc (length front)} (omega arith))
    ∙ sym (append_assoc (replicate x (scale * v)) (first_half scale (v + 1) front) (replicate run (scale * (v + suc (length front)))))

pub length-first_half : (scale v : ℕ) (runs : List ℕ) → length (first_half scale v runs) ≡ sum runs
length-first_half scale v [] = refl
length-first_half scale v (run ∷ runs) =
    length-append (replicate run (scale * v)) (first_half scale (v + 1) runs) ∙ omega (arith, length-replicate run (scale * v), length-first_half scale (v + 1) runs, sum-cons run runs)

map-replicate : (n x : ℕ) → map pos (replicate n x) ≡ replicate n (pos x)
map-replicate zero x = refl
map-replicate (suc n) x = ap (λ (l : List ℤ). pos x ∷ l) (map-replicate n x)

pub half-next : (scale i from end : ℕ) (lengths : List ℕ) (start half : List ℤ) (entry : ℤ) → i < length lengths → from ≡ sum (take i lengths) → end ≡ from + get_or lengths i 0
    → entry ≡ pos (scale * i) → half ≡ map pos (first_half scale 0 (take i lengths)) ++ drop from start
    → take from half ++ (replicate (end - from) entry ++ drop end half) ≡ map pos (first_half scale 0 (take (i + 1) lengths)) ++ drop end start
half-next scale i from end lengths start half entry lt at_from at_end is so_far =
    let run : ℕ = get_or lengths i 0 in
    let front : List ℕ = take i lengths in
    let first : List ℤ = map pos (first_half scale 0 front) in
    let len : length first ≡ from = length-map (first_half scale 0 front) pos ∙ length-first_half scale 0 front ∙ sym at_from in
    let places : length front ≡ i = length-take i lengths ∙ omega arith in
    let kept : take from half ≡ first = ap (take from) so_far ∙ take_at first (drop from start) from len in
    let rest : drop end half ≡ drop end start =
    ap (drop end) so_far ∙ ap (λ k. drop k (first ++ drop from start)) at_end ∙ sym (drop-drop run from (first ++ drop from start))
    ∙ ap (drop run) (drop_at first (drop from start) from len) ∙ drop-drop run from start ∙ ap (λ k. drop k start) (sym at_end) in
    let entries : replicate (end - from) entry ≡ replicate run (pos (scale * i)) = ap (λ n. replicate n entry) {x = end - from} {y = run} (omega arith) ∙ ap (replicate run) is in
    let more : map pos (first_half scale 0 (take (i + 1) lengths)) ≡ first ++ replicate run (pos (scale * i)) =
    ap (λ (l : List ℕ). map pos (first_half scale 0 l)) (take_more lengths i 0 lt)
    ∙ ap (map pos) (first_half-push scale 0 run front ∙ ap (λ n. first_half scale 0 front ++ replicate run (scale * n)) {x = 0 + length front} {y = i} (omega arith))
    ∙ map-append pos (first_half scale 0 front) (replicate run (scale * i))
    ∙ ap (λ (l : List ℤ). first ++ l) (map-replicate run (scale * i)) in
    ap (λ (l : List ℤ). l ++ (replicate (end - from) entry ++ drop end half)) kept
    ∙ ap (λ (l : List ℤ). first ++ (l ++ drop end half)) entries
    ∙ ap (λ (l : List ℤ). first ++ (replicate run (pos (scale * i)) ++ l)) rest
    ∙ sym (append_assoc first (replicate run (pos (scale * i))) (drop end start))
    ∙ ap (λ (l : List ℤ). l ++ drop end start) (sym more)

pub half-done : (scale i from : ℕ) (lengths : List ℕ) (start half : List ℤ) → length lengths ≤ i → sum lengths ≡ 128 → length start ≡ 128 → from ≡ sum (take i lengths)
    → half ≡ map pos (first_half scale 0 (take i lengths)) ++ drop from start → half ≡ map pos (first_half scale 0 lengths)
half-done scale i from lengths start half le whole len at_from so_far =
    let all : take i lengths ≡ lengths = take_all i lengths le in
    so_far
    ∙ ap (λ (l : List ℤ). map pos (first_half scale 0 (take i lengths)) ++ l) (drop_all from start (omega (arith, ap sum all)))
    ∙ append-nil (map pos (first_half scale 0 (take i lengths)))
    ∙ ap (λ (l : List ℕ). map pos (first_half scale 0 l)) all

scaled-twice : (scale i : ℕ) → scale * (2 * i + 1) ≡ 2 * (scale * i) + scale
scaled-twice scale i = omega arith

pub scaled_fits : (scale i n : ℕ) → i < n → scale * (2 * n - 1) ≤ 32768 → scale * i ≤ 32767
scaled_fits scale i n lt fits =
    omega (arith, scaled-twice scale i, mul-le scale (2 * i + 1) scale (2 * n - 1) (omega arith) (omega arith))

-- ---- a whole table
rest-is : (h : List ℕ) (rest : List ℤ) → length h ≡ 128 → length rest ≡ 128 → get_or rest 0 (pos 0) ≡ neg_ℤ (get_or (map pos h) 127 (pos 0))
    → ((k : ℕ) → 1 ≤ k → k < 128 → get_or rest k (pos 0) ≡ neg_ℤ (get_or (map pos h) (128 - k) (pos 0)))
    → rest ≡ neg_ℤ (pos (get_or h 127 0)) ∷ map (λ n. neg_ℤ (pos n)) (reverse (drop 1 h))
rest-is h rest len rest_len first others =
    let back : List ℕ = reverse (drop 1 h) in
    let back_len : length back ≡ 127 = length-reverse (drop 1 h) ∙ length-drop 1 h ∙ omega arith in
    ext_get_or (pos 0) rest (neg_ℤ (pos (get_or h 127 0)) ∷ map (λ n. neg_ℤ (pos n)) back) (omega (arith, length-map back (λ n. neg_ℤ (pos n)))) (λ i lt. rest_at h rest len rest_len first others i lt)
  where
    rest_at : (h : List ℕ) (rest : List ℤ) → length h ≡ 128 → length rest ≡ 128 → get_or rest 0 (pos 0) ≡ neg_ℤ (get_or (map pos h) 127 (pos 0))
        → ((k : ℕ) → 1 ≤ k → k < 128 → get_or rest k (pos 0) ≡ neg_ℤ (get_or (map pos h) (128 - k) (pos 0))) → (i : ℕ) → i < length rest
        → get_or rest i (pos 0) ≡ get_or (neg_ℤ (pos (get_or h 127 0)) ∷ map (λ n. neg_ℤ (pos n)) (reverse (drop 1 h))) i (pos 0)
    rest_at h rest len rest_len first others zero lt = first ∙ ap neg_ℤ (get_or-map pos h 127 0 (pos 0) (omega arith))
    rest_at h rest len rest_len first others (suc j) lt =
        let back : List ℕ = reverse (drop 1 h) in
        let back_len : length back ≡ 127 = length-reverse (drop 1 h) ∙ length-drop 1 h ∙ omega arith in
        let place : 128 - suc j ≡ 1 + (length (drop 1 h) - 1 - j) = omega (arith, length-drop 1 h) in
        others (suc j) (omega arith) (omega arith)
        ∙ ap neg_ℤ (get_or-map pos h (128 - suc j) 0 (pos 0) (omega arith))
        ∙ ap (λ k. neg_ℤ (pos (get_or h k 0))) place
        ∙ ap (λ n. neg_ℤ (pos n)) (sym (get_or-reverse (drop 1 h) j 0 (omega (arith, length-drop 1 h)) ∙ get_or-drop 1 h (length (drop 1 h) - 1 - j) 0))
        ∙ sym (get_or-map (λ n. neg_ℤ (pos n)) back j 0 (pos 0) (omega arith))

pub table-done : (scale : ℕ) (lengths : List ℕ) (half rest : List ℤ) → sum lengths ≡ 128 → half ≡ map pos (first_half scale 0 lengths) → length rest ≡ 128
    → get_or rest 0 (pos 0) ≡ neg_ℤ (get_or half 127 (pos 0)) → ((k : ℕ) → 1 ≤ k → k < 128 → get_or rest k (pos 0) ≡ neg_ℤ (get_or half (128 - k) (pos 0)))
    → half ++ rest ≡ table_of scale lengths
table-done scale lengths half rest whole is rest_len first others =
    let h : List ℕ = first_half scale 0 lengths in
    let P : List ℤ → Type 0 = λ x. get_or rest 0 (pos 0) ≡ neg_ℤ (get_or x 127 (pos 0)) → ((k : ℕ) → 1 ≤ k → k < 128 → get_or rest k (pos 0) ≡ neg_ℤ (get_or x (128 - k) (pos 0))) → x ++ rest ≡ table_of scale lengths in
    subst P (sym is) (λ f o. ap (λ (l : List ℤ). map pos h ++ l) (rest-is h rest (length-first_half scale 0 lengths ∙ whole) rest_len f o)) first others

pub half-none_below : (h : List ℕ) (half : List ℤ) (k : ℕ) → half ≡ map pos h → pos 0 ≤ℤ get_or half k (pos 0)
half-none_below h half k is = rw is (none_below h k)
  where
    none_below : (h : List ℕ) (k : ℕ) → pos 0 ≤ℤ get_or (map pos h) k (pos 0)
    none_below [] k = search rules
    none_below (x ∷ h) zero = search rules
    none_below (x ∷ h) (suc k) = none_below h k

-- ---- the tables of a set
length-tables_from : (scale : ℕ) (sets : List (List ℕ)) → length (tables_from scale sets) ≡ length sets
length-tables_from scale [] = refl
length-tables_from scale (runs ∷ sets) = ap suc (length-tables_from (next_scale scale runs) sets)

pub tables_from-push : (scale : ℕ) (front : List (List ℕ)) (runs : List ℕ) → tables_from scale (front ++ runs ∷ []) ≡ tables_from scale front ++ table_of (scale_after scale front) runs ∷ []
tables_from-push scale [] runs = refl
tables_from-push scale (first ∷ front) runs = ap (λ (l : List (List ℤ)). table_of scale first ∷ l) (tables_from-push (next_scale scale first) front runs)

pub scale_fits : (scale : ℕ) (sets : List (List ℕ)) (i : ℕ) → ScalesFit scale sets → i < length sets → next_scale (scale_after scale (take i sets)) (get_or sets i []) ≤ max_scale
scale_fits scale [] i fits lt = absurd (omega arith)
scale_fits scale (runs ∷ sets) zero fits lt = fits.0
scale_fits scale (runs ∷ sets) (suc i) fits lt = scale_fits (next_scale scale runs) sets i fits.1 (omega arith)

pub arrays-next : (runs : List (List ℕ)) (i scale : ℕ) (start arrays : List (List ℤ)) (table : List ℤ) → i < length runs → i < length start → scale ≡ scale_after 1 (take i runs)
    → arrays ≡ tables_from 1 (take i runs) ++ drop i start → table ≡ table_of scale (get_or runs i [])
    → set arrays i table ≡ tables_from 1 (take (i + 1) runs) ++ drop (i + 1) start
arrays-next runs i scale start arrays table lt here at_scale so_far is =
    let front : List (List ℤ) = tables_from 1 (take i runs) in
    let len : length front ≡ i = length-tables_from 1 (take i runs) ∙ length-take i runs ∙ omega arith in
    let rest : drop i start ≡ get_or start i [] ∷ drop (i + 1) start = drop_more start i [] here in
    let more : tables_from 1 (take (i + 1) runs) ≡ front ++ table ∷ [] =
    ap (tables_from 1) (take_more runs i [] lt) ∙ tables_from-push 1 (take i runs) (get_or runs i [])
    ∙ ap (λ s. front ++ table_of s (get_or runs i []) ∷ []) (sym at_scale) ∙ ap (λ (t : List ℤ). front ++ t ∷ []) (sym is) in
    ap (λ (l : List (List ℤ)). set l i table) (so_far ∙ ap (λ (l : List (List ℤ)). front ++ l) rest)
    ∙ set_at front (get_or start i []) (drop (i + 1) start) table i len
    ∙ sym (append_assoc front (table ∷ []) (drop (i + 1) start))
    ∙ ap (λ (l : List (List ℤ)). l ++ drop (i + 1) start) (sym more)

-- ---- the runs of a table of the code's list
pub lengths-sound : (tables : List Runs) (i : ℕ) (x : Runs) (lengths : List ℕ) → AreSetRuns (map (λ t. t.lengths.items) tables) → i < 5 → lengths ≡ (get_or tables i x).lengths.items → AreRuns lengths
lengths-sound tables i x lengths sound lt is =
    let all : List (List ℕ) = map (λ (t : Runs). t.lengths.items) tables in
    let len : length tables ≡ 5 = sym (length-map tables (λ (t : Runs). t.lengths.items)) ∙ sound.five in
    let same : get_or all i [] ≡ lengths = get_or-map (λ (t : Runs). t.lengths.items) tables i x [] (omega arith) ∙ sym is in
    subst AreRuns same (All-get_or AreRuns all i [] (omega (arith, sound.five)) sound.each)

pub next_fits : (runs : List (List ℕ)) (i scale : ℕ) (lengths : List ℕ) → AreSetRuns runs → i < 5 → scale ≡ scale_after 1 (take i runs) → lengths ≡ get_or runs i [] → next_scale scale lengths ≤ max_scale
next_fits runs i scale lengths sound lt at_scale is =
    let fits = scale_fits 1 runs i sound.scales (omega (arith, sound.five)) in
    subst (λ s. next_scale s lengths ≤ max_scale) (sym at_scale) (subst (λ (l : List ℕ). next_scale (scale_after 1 (take i runs)) l ≤ max_scale) (sym is) fits)

-- a number of 16 bits
pub fits_16 : (z : ℤ) → mag z < 32768 → SFits w16 z
fits_16 z lt = sfits_lit {w = w16} (yes_ltb lt)
