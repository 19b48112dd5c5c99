-- A journal by its calls, and one whose entries are all of one pass.
use Rattle.std.proofs.Common.{◌≡◌, ℕ, suc, ◌+◌, ◌≤◌, cond, Bool, true, false, List, [], ◌∷◌, map, length, filter, refl, sym, ap, subst, ◌∙◌, arith}
use Rattle.std.specs.Prelude.{◌==◌}
use Rattle.std.proofs.lemmas.Bool.Decides.{nat_tests}
use Rattle.tl_model.specs.declared.journal.Entry.{Entry}
use Rattle.render_core.specs.Calls.{CallOf, entry_of, calls_from, own}
use Rattle.render_core.specs.State.{State}
use Rattle.render_core.specs.Step.{Setup, Reply, AreLegal, step, reply}

-- ---- the entries of one pass

one_fewer : {A : Type 0} (b : Bool) (x : A) (ys : List A) → length (cond b (x ∷ ys) ys) ≤ suc (length ys)
one_fewer true x ys = omega arith
one_fewer false x ys = omega arith

filter_fewer : {A : Type 0} (p : A → Bool) (xs : List A) → length (filter p xs) ≤ length xs
filter_fewer p [] = omega arith
filter_fewer p (x ∷ xs) = let one = one_fewer (p x) x (filter p xs) in let rest = filter_fewer p xs in omega (arith, one, rest)

abbrev rest_of : {A : Type 0} → List A → List A
rest_of [] = []
rest_of (x ∷ xs) = xs

others_by : (pass n : ℕ) (e : Entry) (es : List Entry) (b : Bool) → (e.pass == pass) ≡ b → (n ≡ pass → ⊥) → cond b (e ∷ own pass es) (own pass es) ≡ e ∷ es → (own pass es ≡ es → own n es ≡ []) → own n (e ∷ es) ≡ []
others_by pass n e es true t apart h rest =
    let other : (e.pass == n) ≡ false = grind (arith, nat_tests, t, apart) in
    ap (λ (b : Bool). cond b (e ∷ own n es) (own n es)) other ∙ rest (ap rest_of h)
others_by pass n e es false t apart h rest =
    let fewer = filter_fewer (λ (x : Entry). x.pass == pass) es in
    let as_many : length (own pass es) ≡ suc (length es) = ap length h in
    absurd (omega (arith, fewer, as_many))

-- where all entries are of a pass, another one has none
pub others_none : (pass n : ℕ) (es : List Entry) → (n ≡ pass → ⊥) → own pass es ≡ es → own n es ≡ []
others_none pass n [] apart h = refl
others_none pass n (e ∷ es) apart h = others_by pass n e es (e.pass == pass) refl apart h (others_none pass n es apart)

-- ---- the entries of calls

pub entries_are : {F : Type 0} (setup : Setup F) (count : ℕ) (es : List Entry) (s : State) → map entry_of (calls_from setup count es s) ≡ es
entries_are setup count [] s = refl
entries_are setup count (e ∷ es) s = ap (λ (xs : List Entry). e ∷ xs) (entries_are setup (count + 1) es (step setup (count + 1) e.pass e.act s))

-- These calls may come one after another in a state, and each was told the machine's reply.
pub record AreAnswered {F : Type 0} (setup : Setup F) (count : ℕ) (calls : List (CallOf F)) (s : State) : Type 0 where
  pub legal : AreLegal setup count (map entry_of calls) s
  pub told : calls ≡ calls_from setup count (map entry_of calls) s

abbrev first_told : {F : Type 0} → Reply F → List (CallOf F) → Reply F
first_told other [] = other
first_told other (call ∷ calls) = call.told

pub told_first : {F : Type 0} (setup : Setup F) (count : ℕ) (call : CallOf F) (calls : List (CallOf F)) (s : State) → AreAnswered setup count (call ∷ calls) s → call.told ≡ reply setup.library call.act s
told_first setup count call calls s h = ap (first_told call.told) h.told

pub answered_later : {F : Type 0} (setup : Setup F) (count : ℕ) (call : CallOf F) (calls : List (CallOf F)) (s : State) → AreAnswered setup count (call ∷ calls) s → AreAnswered setup (count + 1) calls (step setup (count + 1) call.pass call.act s)
answered_later setup count call calls s h = record { legal = h.legal.1; told = ap rest_of h.told }

-- the calls of entries that are legal
pub all_answered : {F : Type 0} (setup : Setup F) (count : ℕ) (es : List Entry) (s : State) → AreLegal setup count es s → AreAnswered setup count (calls_from setup count es s) s
all_answered setup count es s legal =
    let is = entries_are setup count es s in
    record { legal = subst (λ (xs : List Entry). AreLegal setup count xs s) (sym is) legal; told = ap (λ (xs : List Entry). calls_from setup count xs s) (sym is) }
