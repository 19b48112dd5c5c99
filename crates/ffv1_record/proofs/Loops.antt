-- Reading fields one after the other, as a loop does.
use Rattle.std.proofs.Common.{◌≡◌, ◌≢◌, ℕ, zero, suc, ◌-◌, ◌+◌, ◌≤◌, ◌<◌, true, false, ltb, eqb, List, [], ◌∷◌, ◌++◌, length, get_or, drop, sum, Result, Ok, Err, refl, sym, ap, subst, ◌∙◌, append_assoc, add-one, arith, drop-cons}
use Rattle.std.proofs.lemmas.List.{append-nil, drop_all}
use Rattle.std.proofs.lemmas.Bool.{lt-ltb, le-ltb, ne_eqb}
use Rattle.std.proofs.lemmas.List.Sums.{sum_by_push}
use Rattle.ffv1_range.specs.Symbol.{Source, source, bit_at_place, after_place}
use Rattle.ffv1_record.specs.declared.fault.RecordFault.{RecordFault}
use Rattle.ffv1_record.specs.declared.fault.RecordFault.TheVariants as faults
use Rattle.ffv1_record.specs.Reading.{◌>>=◌, Fails, fresh, number_at, entry_at, entries_at, runs_at, table_at, tables_at, sets_at, states_at}
use Rattle.ffv1_record.specs.Tables.{ScalesFit, scale_after, next_scale}

-- what was read before, and what is still read
abbrev pub with_front : {A : Type 0} → List A → Result (List A × Source) RecordFault → Result (List A × Source) RecordFault
with_front front read = read >>= λ x. Ok (front ++ x.0, x.1)

regroup : {A : Type 0} (front : List A) (n : A) (read : Result (List A × Source) RecordFault) → with_front front (read >>= λ x. Ok (n ∷ x.0, x.1)) ≡ with_front (front ++ n ∷ []) read
regroup {A} front n (Ok x) = ap (λ (ns : List A). Ok (ns, x.1)) (simp append_assoc)
regroup front n (Err f) = refl

with_front-nothing : {A : Type 0} (front : List A) (s : Source) → with_front front (Ok ([], s)) ≡ Ok (front, s)
with_front-nothing {A} front s = ap (λ (ns : List A). Ok (ns, s)) (append-nil front)

-- ---- entries
pub entries-next : (front default : List ℕ) (i entry : ℕ) (s after : Source) (total : Result (List ℕ × Source) RecordFault) → i < length default → entry_at (get_or default i 0) s ≡ Ok (entry, after)
    → with_front front (entries_at (drop i default) s) ≡ total → with_front (front ++ entry ∷ []) (entries_at (drop (i + 1) default) after) ≡ total
unfolding entries_at
entries-next front default i entry s after total lt h so_far =
    let split : drop i default ≡ get_or default i 0 ∷ drop (suc i) default = drop-cons default i 0 lt in
    let one : with_front front (entries_at (drop i default) s) ≡ with_front (front ++ entry ∷ []) (entries_at (drop (suc i) default) after) = rw (split, h) (regroup front entry (entries_at (drop (suc i) default) after)) in
    rw add-one (sym one ∙ so_far)

pub entries-end : (fault : RecordFault) (front default : List ℕ) (i : ℕ) (s : Source) (total : Result (List ℕ × Source) RecordFault) → i < length default → Fails fault (entry_at (get_or default i 0) s)
    → with_front front (entries_at (drop i default) s) ≡ total → Fails fault total
unfolding entries_at
entries-end fault front default i s total lt h so_far = λ other.
    let split : drop i default ≡ get_or default i 0 ∷ drop (suc i) default = drop-cons default i 0 lt in
    let fails : entry_at (get_or default i 0) s ≡ Err fault = h other in
    let one : with_front front (entries_at (drop i default) s) ≡ Err fault = rw (split, fails) refl in
    sym so_far ∙ one

pub entries-done : (front default : List ℕ) (i : ℕ) (s : Source) (total : Result (List ℕ × Source) RecordFault) → length default ≤ i → with_front front (entries_at (drop i default) s) ≡ total → total ≡ Ok (front, s)
unfolding entries_at
entries-done front default i s total le so_far =
    let nothing : drop i default ≡ [] = drop_all i default le in
    let one : with_front front (entries_at (drop i default) s) ≡ Ok (front, s) = rw nothing (with_front-nothing front s) in
    sym so_far ∙ one

-- ---- sets
pub sets-next : (front : List (List (List ℕ))) (count i : ℕ) (set : List (List ℕ)) (s after : Source) (total : Result (List (List (List ℕ)) × Source) RecordFault) → i < count → tables_at 5 1 s ≡ Ok (set, after)
    → with_front front (sets_at (count - i) s) ≡ total → with_front (front ++ set ∷ []) (sets_at (count - (i + 1)) after) ≡ total
unfolding sets_at
sets-next front count i set s after total lt h so_far =
    let k : count - i ≡ suc (count - (i + 1)) = omega arith in
    let one : with_front front (sets_at (count - i) s) ≡ with_front (front ++ set ∷ []) (sets_at (count - (i + 1)) after) = rw (k, h) (regroup front set (sets_at (count - (i + 1)) after)) in
    sym one ∙ so_far

pub sets-end : (fault : RecordFault) (front : List (List (List ℕ))) (count i : ℕ) (s : Source) (total : Result (List (List (List ℕ)) × Source) RecordFault) → i < count → Fails fault (tables_at 5 1 s)
    → with_front front (sets_at (count - i) s) ≡ total → Fails fault total
unfolding sets_at
sets-end fault front count i s total lt h so_far = λ other.
    let k : count - i ≡ suc (count - (i + 1)) = omega arith in
    let fails : tables_at 5 1 s ≡ Err fault = h other in
    let one : with_front front (sets_at (count - i) s) ≡ Err fault = rw (k, fails) refl in
    sym so_far ∙ one

pub sets-done : (front : List (List (List ℕ))) (count i : ℕ) (s : Source) (total : Result (List (List (List ℕ)) × Source) RecordFault) → count ≤ i → with_front front (sets_at (count - i) s) ≡ total → total ≡ Ok (front, s)
unfolding sets_at
sets-done front count i s total le so_far =
    let k : count - i ≡ 0 = omega arith in
    let one : with_front front (sets_at (count - i) s) ≡ Ok (front, s) = rw k (with_front-nothing front s) in
    sym so_far ∙ one

-- ---- the tables of a set
pub tables-next : (front : List (List ℕ)) (count i scale : ℕ) (runs : List ℕ) (next : ℕ) (s after : Source) (total : Result (List (List ℕ) × Source) RecordFault) → i < count → table_at scale s ≡ Ok ((runs, next), after)
    → with_front front (tables_at (count - i) scale s) ≡ total → with_front (front ++ runs ∷ []) (tables_at (count - (i + 1)) next after) ≡ total
unfolding tables_at
tables-next front count i scale runs next s after total lt h so_far =
    let k : count - i ≡ suc (count - (i + 1)) = omega arith in
    let one : with_front front (tables_at (count - i) scale s) ≡ with_front (front ++ runs ∷ []) (tables_at (count - (i + 1)) next after) = rw (k, h) (regroup front runs (tables_at (count - (i + 1)) next after)) in
    sym one ∙ so_far

pub tables-end : (fault : RecordFault) (front : List (List ℕ)) (count i scale : ℕ) (s : Source) (total : Result (List (List ℕ) × Source) RecordFault) → i < count → Fails fault (table_at scale s)
    → with_front front (tables_at (count - i) scale s) ≡ total → Fails fault total
unfolding tables_at
tables-end fault front count i scale s total lt h so_far = λ other.
    let k : count - i ≡ suc (count - (i + 1)) = omega arith in
    let fails : table_at scale s ≡ Err fault = h other in
    let one : with_front front (tables_at (count - i) scale s) ≡ Err fault = rw (k, fails) refl in
    sym so_far ∙ one

pub tables-done : (front : List (List ℕ)) (count i scale : ℕ) (s : Source) (total : Result (List (List ℕ) × Source) RecordFault) → count ≤ i → with_front front (tables_at (count - i) scale s) ≡ total → total ≡ Ok (front, s)
unfolding tables_at
tables-done front count i scale s total le so_far =
    let k : count - i ≡ 0 = omega arith in
    let one : with_front front (tables_at (count - i) scale s) ≡ Ok (front, s) = rw k (with_front-nothing front s) in
    sym so_far ∙ one

pub scale_after-push : (scale : ℕ) (front : List (List ℕ)) (runs : List ℕ) → scale_after scale (front ++ runs ∷ []) ≡ next_scale (scale_after scale front) runs
scale_after-push scale [] runs = refl
scale_after-push scale (first ∷ more) runs = scale_after-push (next_scale scale first) more runs

pub ScalesFit-push : (scale : ℕ) (front : List (List ℕ)) (runs : List ℕ) → ScalesFit scale front → next_scale (scale_after scale front) runs ≤ 32768 → ScalesFit scale (front ++ runs ∷ [])
ScalesFit-push scale [] runs fit small = (small, tt)
ScalesFit-push scale (first ∷ more) runs fit small = (fit.0, ScalesFit-push (next_scale scale first) more runs fit.1 small)

-- ---- the runs of a table
-- a fault of the runs is one of the table
pub table-end : (fault : RecordFault) (scale : ℕ) (s value : Source) (set : List ℕ) → set ≡ fresh → s ≡ value → Fails fault (runs_at 128 128 (source s.reading set)) → Fails fault (table_at scale value)
unfolding table_at
table-end fault scale s value set is_fresh same h = λ other.
    let fails : runs_at 128 128 (source s.reading fresh) ≡ Err fault = subst (λ (x : List ℕ). runs_at 128 128 (source s.reading x) ≡ Err fault) is_fresh (h other) in
    let here : table_at scale s ≡ Err fault = rw fails refl in
    subst (λ (x : Source). table_at scale x ≡ Err fault) same here

pub runs-next : (front : List ℕ) (most i left less : ℕ) (s after : Source) (total : Result (List ℕ × Source) RecordFault) → i < most → left ≢ 0 → less < left → number_at s ≡ Ok (less, after)
    → with_front front (runs_at (most - i) left s) ≡ total → with_front (front ++ (less + 1) ∷ []) (runs_at (most - (i + 1)) (left - (less + 1)) after) ≡ total
unfolding runs_at
runs-next front most i left less s after total lt ne fits h so_far =
    let k : most - i ≡ suc (most - (i + 1)) = omega arith in
    let some : eqb left 0 ≡ false = ne_eqb left 0 ne in
    let within : ltb less left ≡ true = lt-ltb less left fits in
    let one : with_front front (runs_at (most - i) left s) ≡ with_front (front ++ (less + 1) ∷ []) (runs_at (most - (i + 1)) (left - (less + 1)) after) = rw (k, some, h, within) (regroup front (less + 1) (runs_at (most - (i + 1)) (left - (less + 1)) after)) in
    sym one ∙ so_far

pub runs-end : (fault : RecordFault) (front : List ℕ) (most i left : ℕ) (s : Source) (total : Result (List ℕ × Source) RecordFault) → i < most → left ≢ 0 → Fails fault (number_at s)
    → with_front front (runs_at (most - i) left s) ≡ total → Fails fault total
unfolding runs_at
runs-end fault front most i left s total lt ne h so_far = λ other.
    let k : most - i ≡ suc (most - (i + 1)) = omega arith in
    let some : eqb left 0 ≡ false = ne_eqb left 0 ne in
    let fails : number_at s ≡ Err fault = h other in
    let one : with_front front (runs_at (most - i) left s) ≡ Err fault = rw (k, some, fails) refl in
    sym so_far ∙ one

pub runs-past : (front : List ℕ) (most i left less : ℕ) (s after : Source) (total : Result (List ℕ × Source) RecordFault) → i < most → left ≢ 0 → left ≤ less → number_at s ≡ Ok (less, after)
    → with_front front (runs_at (most - i) left s) ≡ total → total ≡ Err faults.Tables
unfolding runs_at
runs-past front most i left less s after total lt ne past h so_far =
    let k : most - i ≡ suc (most - (i + 1)) = omega arith in
    let some : eqb left 0 ≡ false = ne_eqb left 0 ne in
    let without : ltb less left ≡ false = le-ltb less left past in
    let one : with_front front (runs_at (most - i) left s) ≡ Err faults.Tables = rw (k, some, h, without) refl in
    sym so_far ∙ one

runs_at-none : (most : ℕ) (s : Source) → runs_at most 0 s ≡ Ok ([], s)
unfolding runs_at
runs_at-none zero s = refl
runs_at-none (suc most) s = refl

pub runs-done : (front : List ℕ) (most left : ℕ) (s : Source) (total : Result (List ℕ × Source) RecordFault) → left ≡ 0 → with_front front (runs_at most left s) ≡ total → total ≡ Ok (front, s)
runs-done front most left s total none_left so_far =
    let one : with_front front (runs_at most left s) ≡ Ok (front, s) = rw (none_left, runs_at-none most s) (with_front-nothing front s) in
    sym so_far ∙ one

-- ---- states_coded
pub states-next : (count i : ℕ) (s : Source) (total : Result (Unit {0} × Source) RecordFault) → i < count → bit_at_place s 0 ≡ false → states_at (count - i) s ≡ total → states_at (count - (i + 1)) (after_place s 0) ≡ total
unfolding states_at
states-next count i s total lt clear so_far =
    let k : count - i ≡ suc (count - (i + 1)) = omega arith in
    let one : states_at (count - i) s ≡ states_at (count - (i + 1)) (after_place s 0) = rw (k, clear) refl in
    sym one ∙ so_far

pub states-set : (count i : ℕ) (s : Source) (total : Result (Unit {0} × Source) RecordFault) → i < count → bit_at_place s 0 ≡ true → states_at (count - i) s ≡ total → total ≡ Err faults.InitialStates
unfolding states_at
states-set count i s total lt is_set so_far =
    let k : count - i ≡ suc (count - (i + 1)) = omega arith in
    let one : states_at (count - i) s ≡ Err faults.InitialStates = rw (k, is_set) refl in
    sym so_far ∙ one

pub states-done : (count i : ℕ) (s : Source) (total : Result (Unit {0} × Source) RecordFault) → count ≤ i → states_at (count - i) s ≡ total → total ≡ Ok (tt, s)
unfolding states_at
states-done count i s total le so_far =
    let k : count - i ≡ 0 = omega arith in
    let one : states_at (count - i) s ≡ Ok (tt, s) = rw k refl in
    sym so_far ∙ one

-- ---- sums of runs
pub sum_push : (xs : List ℕ) (x : ℕ) → sum (xs ++ x ∷ []) ≡ sum xs + x
sum_push xs x = sum_by_push (λ n. n) xs x

pub some_from_sum : (xs : List ℕ) → sum xs ≡ 128 → 1 ≤ length xs
some_from_sum [] whole = absurd (omega (arith, whole))
some_from_sum (x ∷ xs) whole = omega arith
