-- Lists that are made from consecutive numbers, and fronts and rests of joined lists.
use Rattle.std.proofs.Common.{◌≡◌, ℕ, zero, suc, ◌+◌, ◌-◌, ◌<◌, ◌≤◌, List, [], ◌∷◌, ◌++◌, length, take, drop, map, Some, refl, ap, ◌∙◌, arith}
use Rattle.std.specs.Prelude.{slice_get}
use Rattle.tl_model.specs.Cells.{run}

pub length-run : {A : Type 0} (f : ℕ → A) (from n : ℕ) → length (run f from n) ≡ n
length-run f from zero = refl
length-run f from (suc n) = ap suc (length-run f (from + 1) n)

pub slice_get-run : {A : Type 0} (f : ℕ → A) (from n k : ℕ) → k < n → slice_get (run f from n) k ≡ Some (f (from + k))
slice_get-run f from zero k h = absurd (omega arith)
slice_get-run f from (suc n) zero h = let e : from ≡ from + 0 = omega arith in ap (λ (m : ℕ). Some (f m)) e
slice_get-run f from (suc n) (suc k) h =
    let e : (from + 1) + k ≡ from + suc k = omega arith in
    slice_get-run f (from + 1) n k (omega arith) ∙ ap (λ (m : ℕ). Some (f m)) e

pub take-run : {A : Type 0} (f : ℕ → A) (from n k : ℕ) → k ≤ n → take k (run f from n) ≡ run f from k
take-run f from n zero h = refl
take-run f from zero (suc k) h = absurd (omega arith)
take-run f from (suc n) (suc k) h = let e = take-run f (from + 1) n k (omega arith) in cc

pub drop-run : {A : Type 0} (f : ℕ → A) (from n k : ℕ) → k ≤ n → drop k (run f from n) ≡ run f (from + k) (n - k)
drop-run f from n zero h =
    let a : from ≡ from + 0 = omega arith in
    let b : n ≡ n - 0 = omega arith in
    cc
drop-run f from zero (suc k) h = absurd (omega arith)
drop-run f from (suc n) (suc k) h =
    let e = drop-run f (from + 1) n k (omega arith) in
    let a : (from + 1) + k ≡ from + suc k = omega arith in
    let b : n - k ≡ suc n - suc k = omega arith in
    cc

-- two runs that agree number by number
pub same_runs : {A : Type 0} (f g : ℕ → A) (from to n : ℕ) → ((k : ℕ) → k < n → f (from + k) ≡ g (to + k)) → run f from n ≡ run g to n
same_runs f g from to zero h = refl
same_runs f g from to (suc n) h =
    let first = h 0 (omega arith) in
    let a : from + 0 ≡ from = omega arith in
    let b : to + 0 ≡ to = omega arith in
    let rest = same_runs f g (from + 1) (to + 1) n (λ k l. let e = h (suc k) (omega arith) in let a : from + suc k ≡ (from + 1) + k = omega arith in let b : to + suc k ≡ (to + 1) + k = omega arith in cc) in
    cc

pub map-run : {A B : Type 0} (g : A → B) (f : ℕ → A) (from n : ℕ) → map g (run f from n) ≡ run (λ k. g (f k)) from n
map-run g f from zero = refl
map-run g f from (suc n) = let e = map-run g f (from + 1) n in cc

-- what is left of a run, one step on
pub run_next : {A : Type 0} (f : ℕ → A) (n len : ℕ) → n < len → run f n (len - n) ≡ f n ∷ run f (n + 1) (len - (n + 1))
run_next f n len h = let e : len - n ≡ suc (len - (n + 1)) = omega arith in ap (run f n) e

pub run_ended : {A : Type 0} (f : ℕ → A) (n len : ℕ) → len ≤ n → run f n (len - n) ≡ []
run_ended f n len h = let e : len - n ≡ 0 = omega arith in ap (run f n) e

pub take_over : {A : Type 0} (xs ys : List A) (n : ℕ) → length xs ≤ n → take n (xs ++ ys) ≡ xs ++ take (n - length xs) ys
take_over [] ys n h = let e : n ≡ n - 0 = omega arith in ap (λ (k : ℕ). take k ys) e
take_over (x ∷ xs) ys zero h = absurd (omega arith)
take_over (x ∷ xs) ys (suc n) h =
    let e = take_over xs ys n (omega arith) in
    let a : n - length xs ≡ suc n - suc (length xs) = omega arith in
    cc

pub drop_over : {A : Type 0} (xs ys : List A) (n : ℕ) → length xs ≤ n → drop n (xs ++ ys) ≡ drop (n - length xs) ys
drop_over [] ys n h = let e : n ≡ n - 0 = omega arith in ap (λ (k : ℕ). drop k ys) e
drop_over (x ∷ xs) ys zero h = absurd (omega arith)
drop_over (x ∷ xs) ys (suc n) h =
    let e = drop_over xs ys n (omega arith) in
    let a : n - length xs ≡ suc n - suc (length xs) = omega arith in
    cc

pub slice_get_over : {A : Type 0} (xs ys : List A) (n : ℕ) → length xs ≤ n → slice_get (xs ++ ys) n ≡ slice_get ys (n - length xs)
slice_get_over [] ys n h = let e : n ≡ n - 0 = omega arith in ap (slice_get ys) e
slice_get_over (x ∷ xs) ys zero h = absurd (omega arith)
slice_get_over (x ∷ xs) ys (suc n) h =
    let e = slice_get_over xs ys n (omega arith) in
    let a : n - length xs ≡ suc n - suc (length xs) = omega arith in
    cc

pub slice_get_before : {A : Type 0} (xs ys : List A) (n : ℕ) → n < length xs → slice_get (xs ++ ys) n ≡ slice_get xs n
slice_get_before [] ys n h = absurd (omega arith)
slice_get_before (x ∷ xs) ys zero h = refl
slice_get_before (x ∷ xs) ys (suc n) h = slice_get_before xs ys n (omega arith)

pub take_nil : {A : Type 0} (n : ℕ) → take {A = A} n [] ≡ []
take_nil zero = refl
take_nil (suc n) = refl

pub drop_nil : {A : Type 0} (n : ℕ) → drop {A = A} n [] ≡ []
drop_nil zero = refl
drop_nil (suc n) = refl
