-- Steps of loops over jobs.
use Rattle.std.proofs.Common.{◌≡◌, ℕ, zero, suc, ◌+◌, ◌-◌, ◌<◌, ◌≤◌, cond, eqb, Bool, true, false, ◌&&◌, ◌||◌, List, [], ◌∷◌, ◌++◌, length, get_or, set, take, drop, map, Option, Some, None, refl, sym, ap, ◌∙◌, arith}
use Rattle.std.specs.Prelude.{slice_get}
use Rattle.std.proofs.lemmas.List.{append_assoc, take_all, drop_all, append-nil}
use Rattle.tl_model.specs.declared.recipe.Recipe.{Recipe}
use Rattle.render_core.specs.declared.job.Job.{Job}
use Rattle.render_core.specs.State.{is_open, with_holder, without_holder, with_result, close_if, update, has_open, new_job, want_one, want_all}
use Rattle.std.specs.List.{count_by, list_any}
use Rattle.std.proofs.lemmas.Bool.Decides.{nat_tests}
use Rattle.std.proofs.lemmas.Option.{slice_get_read}
use Rattle.std.proofs.lemmas.List.Sums.{sum_by-cons, sum_by-append, count_by_more_yes, count_by_more_no, count_by-le-length}
use Rattle.tl_model.specs.Recipe.{same_side, same_recipe}
use Rattle.tl_model.specs.declared.recipe.Side.{Side}
use Rattle.tl_model.specs.declared.recipe.Side.TheVariants as side
use Rattle.tl_model.specs.declared.recipe.Recipe.TheVariants as recipe
use Rattle.tl_model.specs.Cells.{is_among}
use Rattle.render_core.specs.Parts.{HasOneOpen}
use Rattle.render_core.proofs.Ranges.{same_recipe-true, range_next, range_end, range_start}

-- a list that is mapped in place, one step on
pub mapped_next : {A : Type 0} (f : A → A) (xs : List A) (i : ℕ) (d : A) → i < length xs → set (map f (take i xs) ++ drop i xs) i (f (get_or (map f (take i xs) ++ drop i xs) i d)) ≡ map f (take (i + 1) xs) ++ drop (i + 1) xs
mapped_next f [] i d h = absurd (omega arith)
mapped_next f (x ∷ xs) zero d h = refl
mapped_next f (x ∷ xs) (suc i) d h = let e = mapped_next f xs i d (omega arith) in let s : suc i + 1 ≡ suc (i + 1) = omega arith in ap (λ ys. f x ∷ ys) e ∙ ap (λ (k : ℕ). map f (take k (x ∷ xs)) ++ drop k (x ∷ xs)) (sym s)

pub mapped_step : {A : Type 0} (f : A → A) (xs now : List A) (i : ℕ) (y d : A) → i < length xs → now ≡ map f (take i xs) ++ drop i xs → y ≡ f (get_or now i d) → set now i y ≡ map f (take (i + 1) xs) ++ drop (i + 1) xs
mapped_step f xs now i y d h e at =
    let next = mapped_next f xs i d h in
    let here : y ≡ f (get_or (map f (take i xs) ++ drop i xs) i d) = at ∙ ap (λ ys. f (get_or ys i d)) e in
    cc

pub mapped_all : {A : Type 0} (f : A → A) (xs : List A) (i : ℕ) → length xs ≤ i → map f (take i xs) ++ drop i xs ≡ map f xs
mapped_all f xs i h = ap (λ ys. map f ys ++ drop i xs) (take_all i xs h) ∙ ap (λ ys. map f xs ++ ys) (drop_all i xs h) ∙ append-nil (map f xs)

pub want_next : (filed : List Recipe) (rs : List Recipe) (n end : ℕ) (x : Recipe) (jobs : List Job) → slice_get rs n ≡ Some x → n < end → want_all filed (take (end - n) (drop n rs)) jobs ≡ want_all filed (take (end - (n + 1)) (drop (n + 1) rs)) (want_one filed x jobs)
want_next filed rs n end x jobs e h = ap (λ (ys : List Recipe). want_all filed ys jobs) (range_next rs n end x e h)

pub want_end : (filed : List Recipe) (rs : List Recipe) (n end : ℕ) (jobs : List Job) → end ≤ n → want_all filed (take (end - n) (drop n rs)) jobs ≡ jobs
want_end filed rs n end jobs h = ap (λ (ys : List Recipe). want_all filed ys jobs) (range_end rs n end h)

pub want_start : (filed : List Recipe) (rs : List Recipe) (first len : ℕ) (jobs : List Job) → want_all filed (take ((first + len) - first) (drop first rs)) jobs ≡ want_all filed (take len (drop first rs)) jobs
want_start filed rs first len jobs = ap (λ (ys : List Recipe). want_all filed ys jobs) (range_start rs first len)

-- a job that is changed at its place
pub update_is : {A : Type 0} (change : A → A) (jobs : List A) (i : ℕ) (x : A) → slice_get jobs i ≡ Some x → set jobs i (change x) ≡ update i change jobs
update_is change [] i x e = absurd cc
update_is change (job ∷ jobs) zero x e = let same : job ≡ x = cc in ap (λ j. change j ∷ jobs) (sym same)
update_is change (job ∷ jobs) (suc i) x e = ap (λ js. job ∷ js) (update_is change jobs i x e)

pub read_is : {A : Type 0} (jobs : List A) (i : ℕ) (x : A) → i < length jobs → x ≡ get_or jobs i x → slice_get jobs i ≡ Some x
read_is jobs i x h e = slice_get_read jobs (length jobs) i x refl h e

-- how much a job counts among the open jobs of a recipe
abbrev pub open_of : Recipe → Job → Bool
open_of r job = is_open job && same_recipe r job.recipe

abbrev pub weight : {A : Type 0} → (A → Bool) → A → ℕ
weight p x = cond (p x) 1 0

pub count_map : (p : Job → Bool) (f : Job → Job) → ((job : Job) → weight p (f job) ≤ weight p job) → (jobs : List Job) → count_by p (map f jobs) ≤ count_by p jobs
count_map p f le [] = omega arith
count_map p f le (job ∷ jobs) = omega (arith, count_map p f le jobs, le job, sum_by-cons (weight p) (f job) (map f jobs), sum_by-cons (weight p) job jobs)

pub count_map_same : (p : Job → Bool) (f : Job → Job) → ((job : Job) → weight p (f job) ≡ weight p job) → (jobs : List Job) → count_by p (map f jobs) ≡ count_by p jobs
count_map_same p f le [] = refl
count_map_same p f le (job ∷ jobs) = omega (arith, count_map_same p f le jobs, le job, sum_by-cons (weight p) (f job) (map f jobs), sum_by-cons (weight p) job jobs)

pub count_update : {A : Type 0} (p : A → Bool) (f : A → A) (jobs : List A) (i : ℕ) (x : A) → slice_get jobs i ≡ Some x → count_by p (update i f jobs) + weight p x ≡ count_by p jobs + weight p (f x)
count_update p f [] i x e = absurd cc
count_update p f (job ∷ jobs) zero x e =
    let same : job ≡ x = cc in
    let a = ap (weight p) same in
    let b : weight p (f job) ≡ weight p (f x) = ap (λ j. weight p (f j)) same in
    omega (arith, a, b, sum_by-cons (weight p) (f job) jobs, sum_by-cons (weight p) job jobs)
count_update p f (job ∷ jobs) (suc i) x e = omega (arith, count_update p f jobs i x e, sum_by-cons (weight p) job (update i f jobs), sum_by-cons (weight p) job jobs)

pub count_push : {A : Type 0} (p : A → Bool) (jobs : List A) (x : A) → count_by p (jobs ++ x ∷ []) ≡ count_by p jobs + weight p x
count_push p jobs x = sum_by-append (weight p) jobs (x ∷ []) ∙ ap (λ (k : ℕ). count_by p jobs + k) (sum_by-cons (weight p) x [] ∙ let z : weight p x + 0 ≡ weight p x = omega arith in z)

none_by : {A : Type 0} (p : A → Bool) (x : A) (xs : List A) (b : Bool) → p x ≡ b → (b || list_any p xs) ≡ false → (list_any p xs ≡ false → count_by p xs ≡ 0) → count_by p (x ∷ xs) ≡ 0
none_by p x xs true h e rest = absurd cc
none_by p x xs false h e rest =
    let w : weight p x ≡ 0 = ap (λ (b : Bool). cond b 1 0) h in
    omega (arith, rest e, w, sum_by-cons (weight p) x xs)

pub none_counted : {A : Type 0} (p : A → Bool) (xs : List A) → list_any p xs ≡ false → count_by p xs ≡ 0
none_counted p [] e = refl
none_counted p (x ∷ xs) e = none_by p x xs (p x) refl e (none_counted p xs)

-- closing, holding and ending keep at most one open job a recipe
pub closed_weight : (r : Recipe) (test : Recipe → Bool) (at : ℕ) (job : Job) → weight (open_of r) (close_if test at job) ≤ weight (open_of r) job
closed_weight r test at job = by_test (is_open job && test job.recipe)
  where
    by_test : (b : Bool) → weight (open_of r) (cond b (record { recipe = job.recipe; holder = job.holder; closed = Some at }) job) ≤ weight (open_of r) job
    by_test true = omega arith
    by_test false = omega arith

pub one_open-close : (test : Recipe → Bool) (at : ℕ) (jobs : List Job) → HasOneOpen jobs → HasOneOpen (map (close_if test at) jobs)
one_open-close test at jobs one r = omega (arith, one r, count_map (open_of r) (close_if test at) (closed_weight r test at) jobs)

pub one_open-with_holder : (pass i : ℕ) (jobs : List Job) (x : Job) → slice_get jobs i ≡ Some x → HasOneOpen jobs → HasOneOpen (update i (with_holder pass) jobs)
one_open-with_holder pass i jobs x e one r = omega (arith, one r, count_update (open_of r) (with_holder pass) jobs i x e)

pub one_open-without_holder : (i : ℕ) (jobs : List Job) (x : Job) → slice_get jobs i ≡ Some x → HasOneOpen jobs → HasOneOpen (update i without_holder jobs)
one_open-without_holder i jobs x e one r = omega (arith, one r, count_update (open_of r) without_holder jobs i x e)

pub one_open-with_result : (at i : ℕ) (jobs : List Job) (x : Job) → slice_get jobs i ≡ Some x → HasOneOpen jobs → HasOneOpen (update i (with_result at) jobs)
one_open-with_result at i jobs x e one r = omega (arith, one r, count_update (open_of r) (with_result at) jobs i x e)

push_open : (recipe : Recipe) (jobs : List Job) → has_open recipe jobs ≡ false → HasOneOpen jobs → HasOneOpen (jobs ++ new_job recipe ∷ [])
push_open recipe jobs none one r = by_same (same_recipe r recipe) refl
  where
    by_same : (b : Bool) → same_recipe r recipe ≡ b → count_by (open_of r) (jobs ++ new_job recipe ∷ []) ≤ 1
    by_same true h =
        let same : r ≡ recipe = same_recipe-true r recipe h in
        let zero_of : count_by (open_of recipe) jobs ≡ 0 = none_counted (open_of recipe) jobs none in
        let here : count_by (open_of r) jobs ≡ 0 = ap (λ (x : Recipe). count_by (open_of x) jobs) same ∙ zero_of in
        let w : weight (open_of r) (new_job recipe) ≡ 1 = ap (λ (b : Bool). cond b 1 0) h in
        omega (arith, here, w, count_push (open_of r) jobs (new_job recipe))
    by_same false h =
        let w : weight (open_of r) (new_job recipe) ≡ 0 = ap (λ (b : Bool). cond b 1 0) h in
        omega (arith, one r, w, count_push (open_of r) jobs (new_job recipe))

one_open-want_by : (filed : List Recipe) (recipe : Recipe) (jobs : List Job) (a b : Bool) → has_open recipe jobs ≡ b → HasOneOpen jobs → HasOneOpen (cond (a || b) jobs (jobs ++ new_job recipe ∷ []))
one_open-want_by filed recipe jobs true b e one = one
one_open-want_by filed recipe jobs false true e one = one
one_open-want_by filed recipe jobs false false e one = push_open recipe jobs e one

pub one_open-want : (filed rs : List Recipe) (jobs : List Job) → HasOneOpen jobs → HasOneOpen (want_all filed rs jobs)
one_open-want filed [] jobs one = one
one_open-want filed (r ∷ rs) jobs one = one_open-want filed rs (want_one filed r jobs) (one_open-want_by filed r jobs (is_among r filed) (has_open r jobs) refl one)

-- jobs with a recipe of a range number at most its length
pub both : {a b : Bool} → a ≡ true → b ≡ true → (a && b) ≡ true
both {a} {b} e f = ap (λ (x : Bool). x && b) e ∙ f

pub eqb-self : (n : ℕ) → eqb n n ≡ true
eqb-self n = grind (arith, nat_tests)

same_side-same : (s : Side) → same_side s s ≡ true
same_side-same side.Black = refl
same_side-same (side.Clip c f) = both (eqb-self c) (eqb-self f)

pub same_recipe-same : (r : Recipe) → same_recipe r r ≡ true
same_recipe-same recipe.Black = refl
same_recipe-same (recipe.Source c f) = both (eqb-self c) (eqb-self f)
same_recipe-same (recipe.Mix a b w) = both (same_side-same a) (both (same_side-same b) (eqb-self w))

count_two : (p q s : Job → Bool) → ((job : Job) → weight p job ≤ weight q job + weight s job) → (jobs : List Job) → count_by p jobs ≤ count_by q jobs + count_by s jobs
count_two p q s le [] = omega arith
count_two p q s le (job ∷ jobs) = omega (arith, count_two p q s le jobs, le job, sum_by-cons (weight p) job jobs, sum_by-cons (weight q) job jobs, sum_by-cons (weight s) job jobs)

abbrev pub in_range : List Recipe → Job → Bool
in_range rs job = is_open job && is_among job.recipe rs

first_or_rest : (r : Recipe) (rs : List Recipe) (job : Job) (o same : Bool) → same_recipe job.recipe r ≡ same → cond (o && (same || is_among job.recipe rs)) 1 0 ≤ cond (o && same_recipe r job.recipe) 1 0 + cond (o && is_among job.recipe rs) 1 0
first_or_rest r rs job false same e = omega arith
first_or_rest r rs job true true e =
    let is : job.recipe ≡ r = same_recipe-true job.recipe r e in
    let w : same_recipe r job.recipe ≡ true = ap (same_recipe r) is ∙ same_recipe-same r in
    let u : cond {A = ℕ} (same_recipe r job.recipe) 1 0 ≡ 1 = ap (λ (b : Bool). cond b 1 0) w in
    omega (arith, u)
first_or_rest r rs job true false e = omega arith

nothing : (b : Bool) → cond {A = ℕ} (b && false) 1 0 ≡ 0
nothing true = refl
nothing false = refl

none_in_range : (jobs : List Job) → count_by (in_range []) jobs ≡ 0
none_in_range [] = refl
none_in_range (job ∷ jobs) = omega (arith, none_in_range jobs, sum_by-cons (weight (in_range [])) job jobs, nothing (is_open job))

pub count-in_range : (jobs : List Job) (rs : List Recipe) → HasOneOpen jobs → count_by (in_range rs) jobs ≤ length rs
count-in_range jobs [] one = omega (arith, none_in_range jobs)
count-in_range jobs (r ∷ rs) one =
    omega (arith, count-in_range jobs rs one, one r, count_two (in_range (r ∷ rs)) (open_of r) (in_range rs) (λ job. first_or_rest r rs job (is_open job) (same_recipe job.recipe r) refl) jobs)

pub ruleset map_steps = (mapped_next, mapped_all)

pub ruleset want_steps = (want_next, want_end, want_start)

pub ruleset count_steps = (count_by_more_yes, count_by_more_no, count_by-le-length, take_all)
