-- How far the sum of one entry of each table can go.
use Rattle.std.proofs.Common.{◌≡◌, ℕ, zero, suc, ◌+◌, ◌-◌, ◌*◌, ◌/◌, ◌<◌, ◌≤◌, ℤ, pos, negsuc, neg_ℤ, ◌+ℤ◌, ◌≤ℤ◌, nat_abs, List, [], ◌∷◌, ◌++◌, length, get_or, drop, map, replicate, reverse, refl, sym, ◌∙◌, ap, subst, arith, rules, inl, inr}
use Rattle.std.proofs.lemmas.Int.{ints}
use Rattle.std.proofs.lemmas.Bool.{cases_lt}
use Rattle.std.proofs.lemmas.Nat.{mul-le}
use Rattle.std.proofs.lemmas.List.{get_or_append_left, get_or-append_right, get_or-map, get_or-reverse, get_or-drop, get_or_past, get_or_read, get_or-replicate, length-replicate, length-map, length-reverse, length-drop}
use Rattle.ffv1_record.specs.Parameters.{Parameters, tables_of, context_count_of}
use Rattle.ffv1_record.specs.Tables.{TableSet, first_half, mirrored, table_of, next_scale, tables_from, set_of, AreContexts, AreRuns, AreSetRuns}
use Rattle.std.proofs.lemmas.List.Elements.{recursion_from_All}
use Rattle.ffv1_record.proofs.Runs.{some_runs}

-- ---- the entries of one table
first_half-le : (scale v k : ℕ) (runs : List ℕ) → get_or (first_half scale v runs) k 0 ≤ scale * (v + length runs - 1)
first_half-le scale v k [] = omega arith
first_half-le scale v k (run ∷ runs) =
    elim (cases_lt k run) [
      | inl lt ↦
          let here : get_or (replicate run (scale * v) ++ first_half scale (v + 1) runs) k 0 ≡ scale * v =
          get_or_append_left (replicate run (scale * v)) (first_half scale (v + 1) runs) 0 k (omega (arith, length-replicate run (scale * v))) ∙ get_or-replicate run k (scale * v) 0 lt in
          omega (arith, here, mul-le scale v scale (v + suc (length runs) - 1) (omega arith) (omega arith))
      | inr le ↦
          let there : get_or (replicate run (scale * v) ++ first_half scale (v + 1) runs) k 0 ≡ get_or (first_half scale (v + 1) runs) (k - run) 0 =
          get_or-append_right (replicate run (scale * v)) (first_half scale (v + 1) runs) run k 0 (length-replicate run (scale * v)) le in
          let same : scale * (v + 1 + length runs - 1) ≡ scale * (v + suc (length runs) - 1) = ap (λ n. scale * n) {x = v + 1 + length runs - 1} {y = v + suc (length runs) - 1} (omega arith) in
          omega (arith, there, same, first_half-le scale (v + 1) (k - run) runs)
    ]

-- at most so far from 0, on both sides
record IsWithin (m : ℕ) (z : ℤ) : Type 0 where
  above : neg_ℤ (pos m) ≤ℤ z
  below : z ≤ℤ pos m

IsWithin-pos : (m n : ℕ) → n ≤ m → IsWithin m (pos n)
IsWithin-pos m n le = record { above = omega (arith, ints); below = omega (arith, ints) }

IsWithin-neg : (m n : ℕ) → n ≤ m → IsWithin m (neg_ℤ (pos n))
IsWithin-neg m n le = record { above = omega (arith, ints); below = omega (arith, ints) }

IsWithin-add : (m n : ℕ) (y z : ℤ) → IsWithin m y → IsWithin n z → IsWithin (m + n) (y +ℤ z)
IsWithin-add m n y z h i = record { above = omega (arith, ints, h.above, i.above); below = omega (arith, ints, h.below, i.below) }

nat_abs-le : (m : ℕ) (z : ℤ) → IsWithin m z → nat_abs z ≤ m
nat_abs-le m (pos n) h = omega (arith, ints, h.below)
nat_abs-le m (negsuc n) h = omega (arith, ints, h.above)

IsWithin-map : (m k : ℕ) (xs : List ℕ) → ((k : ℕ) → get_or xs k 0 ≤ m) → IsWithin m (get_or (map pos xs) k (pos 0))
IsWithin-map m k [] h = IsWithin-pos m 0 (omega arith)
IsWithin-map m zero (x ∷ xs) h = IsWithin-pos m x (h 0)
IsWithin-map m (suc k) (x ∷ xs) h = IsWithin-map m k xs (λ k. h (suc k))

IsWithin-map_neg : (m k : ℕ) (xs : List ℕ) → ((k : ℕ) → get_or xs k 0 ≤ m) → IsWithin m (get_or (map (λ n. neg_ℤ (pos n)) xs) k (pos 0))
IsWithin-map_neg m k [] h = IsWithin-pos m 0 (omega arith)
IsWithin-map_neg m zero (x ∷ xs) h = IsWithin-neg m x (h 0)
IsWithin-map_neg m (suc k) (x ∷ xs) h = IsWithin-map_neg m k xs (λ k. h (suc k))

back-le : (m k : ℕ) (h : List ℕ) → ((k : ℕ) → get_or h k 0 ≤ m) → get_or (reverse (drop 1 h)) k 0 ≤ m
back-le m k h le =
    elim (cases_lt k (length (drop 1 h))) [
      | inl lt ↦ rw (get_or-reverse (drop 1 h) k 0 lt, get_or-drop 1 h (length (drop 1 h) - 1 - k) 0) (le (1 + (length (drop 1 h) - 1 - k)))
      | inr past ↦ rw (get_or_past (reverse (drop 1 h)) k 0 (omega (arith, length-reverse (drop 1 h)))) (omega arith)
    ]

mirrored-within : (m k : ℕ) (h : List ℕ) → ((k : ℕ) → get_or h k 0 ≤ m) → IsWithin m (get_or (mirrored h) k (pos 0))
mirrored-within m k h le =
    let half : List ℤ = map pos h in
    let back : List ℤ = map (λ n. neg_ℤ (pos n)) (reverse (drop 1 h)) in
    let rest : List ℤ = neg_ℤ (pos (get_or h 127 0)) ∷ back in
    let in_rest : (j : ℕ) → IsWithin m (get_or rest j (pos 0)) = in_back m (get_or h 127 0) back (le 127) (λ j. IsWithin-map_neg m j (reverse (drop 1 h)) (λ i. back-le m i h le)) in
    elim (cases_lt k (length half)) [
      | inl lt ↦ rw (get_or_append_left half rest (pos 0) k lt) (IsWithin-map m k h le)
      | inr past ↦ rw (get_or-append_right half rest (length half) k (pos 0) refl past) (in_rest (k - length half))
    ]
  where
    in_back : (m n : ℕ) (back : List ℤ) → n ≤ m → ((j : ℕ) → IsWithin m (get_or back j (pos 0))) → (j : ℕ) → IsWithin m (get_or (neg_ℤ (pos n) ∷ back) j (pos 0))
    in_back m n back le others zero = IsWithin-neg m n le
    in_back m n back le others (suc j) = others j

table_of-within : (scale k : ℕ) (runs : List ℕ) → IsWithin (scale * (length runs - 1)) (get_or (table_of scale runs) k (pos 0))
table_of-within scale k runs =
    let same : scale * (0 + length runs - 1) ≡ scale * (length runs - 1) = ap (λ n. scale * n) {x = 0 + length runs - 1} {y = length runs - 1} (omega arith) in
    mirrored-within (scale * (length runs - 1)) k (first_half scale 0 runs) (λ i. omega (arith, same, first_half-le scale 0 i runs))

-- ---- a scale grows by twice how far the entries can go
next_scale-is : (scale : ℕ) (runs : List ℕ) → 1 ≤ length runs → next_scale scale runs ≡ scale + 2 * (scale * (length runs - 1))
next_scale-is scale runs some =
    let more : length runs ≡ (length runs - 1) + 1 = omega arith in
    ap (λ n. scale * (2 * n - 1)) more ∙ ap (λ n. scale * n) {x = 2 * ((length runs - 1) + 1) - 1} {y = 2 * (length runs - 1) + 1} (omega arith) ∙ omega arith

five-contexts : (r0 r1 r2 r3 r4 : List ℕ) → 1 ≤ length r0 → 1 ≤ length r1 → 1 ≤ length r2 → 1 ≤ length r3 → 1 ≤ length r4
    → let set = set_of (r0 ∷ r1 ∷ r2 ∷ r3 ∷ r4 ∷ []) in AreContexts set.tables set.context_count
five-contexts r0 r1 r2 r3 r4 h0 h1 h2 h3 h4 = λ a b c d e.
    let s1 : ℕ = next_scale 1 r0 in
    let s2 : ℕ = next_scale s1 r1 in
    let s3 : ℕ = next_scale s2 r2 in
    let s4 : ℕ = next_scale s3 r3 in
    let m0 : ℕ = 1 * (length r0 - 1) in
    let m1 : ℕ = s1 * (length r1 - 1) in
    let m2 : ℕ = s2 * (length r2 - 1) in
    let m3 : ℕ = s3 * (length r3 - 1) in
    let m4 : ℕ = s4 * (length r4 - 1) in
    let ends : next_scale s4 r4 ≡ 1 + 2 * (m0 + m1 + m2 + m3 + m4) =
    omega (arith, next_scale-is 1 r0 h0, next_scale-is s1 r1 h1, next_scale-is s2 r2 h2, next_scale-is s3 r3 h3, next_scale-is s4 r4 h4) in
    let all = IsWithin-add (m0 + m1 + m2 + m3) m4 _ _ (IsWithin-add (m0 + m1 + m2) m3 _ _ (IsWithin-add (m0 + m1) m2 _ _ (IsWithin-add m0 m1 _ _ (table_of-within 1 a r0) (table_of-within s1 b r1)) (table_of-within s2 c r2)) (table_of-within s3 d r3)) (table_of-within s4 e r4) in
    let most = nat_abs-le (m0 + m1 + m2 + m3 + m4) _ all in
    omega (arith, most, ends)

pub contexts : (runs : List (List ℕ)) → AreSetRuns runs → AreContexts (set_of runs).tables (set_of runs).context_count
contexts [] h = absurd (omega (arith, h.five))
contexts (r0 ∷ []) h = absurd (omega (arith, h.five))
contexts (r0 ∷ r1 ∷ []) h = absurd (omega (arith, h.five))
contexts (r0 ∷ r1 ∷ r2 ∷ []) h = absurd (omega (arith, h.five))
contexts (r0 ∷ r1 ∷ r2 ∷ r3 ∷ []) h = absurd (omega (arith, h.five))
contexts (r0 ∷ r1 ∷ r2 ∷ r3 ∷ r4 ∷ r5 ∷ more) h = absurd (omega (arith, h.five))
contexts (r0 ∷ r1 ∷ r2 ∷ r3 ∷ r4 ∷ []) h =
    let each = recursion_from_All AreRuns (r0 ∷ r1 ∷ r2 ∷ r3 ∷ r4 ∷ []) h.each in
    five-contexts r0 r1 r2 r3 r4 (some_runs r0 each.0) (some_runs r1 each.1.0) (some_runs r2 each.1.1.0) (some_runs r3 each.1.1.1.0) (some_runs r4 each.1.1.1.1.0)

-- ---- the sets of a record
pub tables-at : (sets : List (List (List ℕ))) (k : ℕ) → k < length sets → get_or (map (λ s. s.tables) (map set_of sets)) k [] ≡ (set_of (get_or sets k [])).tables
tables-at [] k lt = absurd (omega arith)
tables-at (set ∷ sets) zero lt = refl
tables-at (set ∷ sets) (suc k) lt = tables-at sets k (omega arith)

pub count-at : (sets : List (List (List ℕ))) (k : ℕ) → k < length sets → get_or (map (λ s. s.context_count) (map set_of sets)) k 0 ≡ (set_of (get_or sets k [])).context_count
count-at [] k lt = absurd (omega arith)
count-at (set ∷ sets) zero lt = refl
count-at (set ∷ sets) (suc k) lt = count-at sets k (omega arith)

pub record-contexts : (p : Parameters) (sets : List (List (List ℕ))) → p.sets ≡ map set_of sets
    → ((k : ℕ) → k < length sets → AreContexts (set_of (get_or sets k [])).tables (set_of (get_or sets k [])).context_count)
    → (k : ℕ) → k < length p.sets → AreContexts (tables_of p k) (context_count_of p k)
record-contexts p sets is h k lt =
    let here : k < length sets = omega (arith, ap length is, length-map sets set_of) in
    let tables : tables_of p k ≡ (set_of (get_or sets k [])).tables = ap (λ (l : List TableSet). get_or (map (λ s. s.tables) l) k []) is ∙ tables-at sets k here in
    let count : context_count_of p k ≡ (set_of (get_or sets k [])).context_count = ap (λ (l : List TableSet). get_or (map (λ s. s.context_count) l) k 0) is ∙ count-at sets k here in
    subst (λ (t : List (List ℤ)). AreContexts t (context_count_of p k)) (sym tables) (subst (λ n. AreContexts (set_of (get_or sets k [])).tables n) (sym count) (h k here))

pub filled-is : (p : Parameters) (sets : List (List (List ℕ))) (k : ℕ) (set : List (List ℕ)) → p.sets ≡ map set_of sets → k < length p.sets → set ≡ get_or sets k set → tables_from 1 set ≡ tables_of p k
filled-is p sets k set is lt at =
    let here : k < length sets = omega (arith, ap length is, length-map sets set_of) in
    ap (tables_from 1) (get_or_read sets k set here at [])
    ∙ sym (tables-at sets k here)
    ∙ ap (λ (l : List TableSet). get_or (map (λ s. s.tables) l) k []) (sym is)
