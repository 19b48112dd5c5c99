-- What the calls of a crew cost: nothing beside those of main, but two entries for each worker whose last call gave a job back.
use Rattle.std.proofs.Common.{◌≡◌, ℕ, zero, suc, ◌+◌, ◌*◌, ◌-◌, ◌≤◌, ◌<◌, cond, Bool, true, false, List, [], ◌∷◌, ◌⊎◌, inl, inr, refl, sym, subst, ◌∙◌, arith}
use Rattle.std.specs.Prelude.{◌==◌, nat_lt}
use Rattle.std.proofs.lemmas.Bool.Decides.{nat_tests}
use Rattle.render_core.specs.Calls.{CallOf, own_calls}
use Rattle.run_laws.proofs.Entries.{EndsBack, same_number, spent}
use Rattle.run_laws.proofs.Level.{call_cost}
use Rattle.run_laws.proofs.Turns.{SpendsOnce, spent-cons}

-- what the calls of the passes up to this number cost
abbrev pub spent_to : {F : Type 0} → ℕ → List (CallOf F) → ℕ
spent_to zero calls = spent (own_calls 0 calls)
spent_to (suc n) calls = spent_to n calls + spent (own_calls (suc n) calls)

few_more : (k all main one : ℕ) → all ≤ main + 2 * (suc k - 1) → one ≤ 2 → all + one ≤ main + 2 * (suc (suc k) - 1)
few_more k all main one a b = omega (arith, a, b)

fewer_none : (k all main one : ℕ) → all ≤ main + 2 * (suc k - 1) → one ≡ 0 → 2 + (all + one) ≤ main + 2 * (suc (suc k) - 1)
fewer_none k all main one a b = omega (arith, a, b)

fewer_more : (k all main one : ℕ) → 2 + all ≤ main + 2 * (suc k - 1) → one ≡ 2 → 2 + (all + one) ≤ main + 2 * (suc (suc k) - 1)
fewer_more k all main one a b = omega (arith, a, b)

le_of : (n m : ℕ) → n ≡ m → n ≤ m
le_of n m e = omega (arith, e)

last_or : (k number : ℕ) → number ≤ suc k → (number ≤ k) ⊎ (number ≡ suc k)
last_or k number le = by_test (number == suc k) refl
  where
    by_test : (b : Bool) → (number == suc k) ≡ b → (number ≤ k) ⊎ (number ≡ suc k)
    by_test true t = inr (grind (arith, nat_tests, t))
    by_test false t = inl (grind (arith, nat_tests, t, le))

module _ {F : Type 0} where
  one_more : (b : Bool) (call : CallOf F) (calls : List (CallOf F)) → spent calls ≤ spent (cond b (call ∷ calls) calls)
  one_more true call calls = let all = spent-cons call calls in omega (arith, all)
  one_more false call calls = omega arith

  one_own : (b : Bool) (call : CallOf F) (calls : List (CallOf F)) → b ≡ true → call_cost call.act call.told + spent calls ≤ spent (cond b (call ∷ calls) calls)
  one_own true call calls e = let all = spent-cons call calls in omega (arith, all)
  one_own false call calls e = absurd cc

  more_to : (n : ℕ) (call : CallOf F) (calls : List (CallOf F)) → spent_to n calls ≤ spent_to n (call ∷ calls)
  more_to zero call calls = one_more (call.pass == 0) call (own_calls 0 calls)
  more_to (suc n) call calls =
      let some = more_to n call calls in
      let last = one_more (call.pass == suc n) call (own_calls (suc n) calls) in
      omega (arith, some, last)

  own_to : (n : ℕ) (call : CallOf F) (calls : List (CallOf F)) → call.pass ≤ n → call_cost call.act call.told + spent_to n calls ≤ spent_to n (call ∷ calls)
  own_to zero call calls le =
      let is : (call.pass == 0) ≡ true = grind (arith, nat_tests, le) in
      one_own (call.pass == 0) call (own_calls 0 calls) is
  own_to (suc n) call calls le = by_test (call.pass == suc n) refl (λ below. own_to n call calls below)
    where
      by_test : (b : Bool) → (call.pass == suc n) ≡ b → (call.pass ≤ n → call_cost call.act call.told + spent_to n calls ≤ spent_to n (call ∷ calls))
          → call_cost call.act call.told + spent_to (suc n) calls ≤ spent_to (suc n) (call ∷ calls)
      by_test true is before =
          let some = more_to n call calls in
          let last = one_own (call.pass == suc n) call (own_calls (suc n) calls) is in
          omega (arith, some, last)
      by_test false is before =
          let below : call.pass ≤ n = grind (arith, nat_tests, le, is) in
          let some = before below in
          let last = one_more (call.pass == suc n) call (own_calls (suc n) calls) in
          omega (arith, some, last)

  own_if : (b : Bool) (call : CallOf F) (calls : List (CallOf F)) → cond b (call ∷ calls) calls ≡ [] → (b ≡ false) × (calls ≡ [])
  own_if true call calls e = absurd cc
  own_if false call calls e = (refl, e)

  -- no pass has calls that is above this
  abbrev NoneAbove : ℕ → List (CallOf F) → Type 0
  NoneAbove n calls = (number : ℕ) → n < number → own_calls number calls ≡ []

  is_below : (n : ℕ) (call : CallOf F) (calls : List (CallOf F)) (b : Bool) → nat_lt n call.pass ≡ b → NoneAbove n (call ∷ calls) → call.pass ≤ n
  is_below n call calls true t none =
      let above : n < call.pass = grind (arith, nat_tests, t) in
      let other = own_if (call.pass == call.pass) call (own_calls call.pass calls) (none call.pass above) in
      let same = same_number call.pass in
      let both : true ≡ false = sym same ∙ other.0 in
      absurd cc
  is_below n call calls false t none = grind (arith, nat_tests, t)

  pub all_to : (n : ℕ) (calls : List (CallOf F)) → NoneAbove n calls → spent calls ≤ spent_to n calls
  all_to n [] none = omega arith
  all_to n (call ∷ calls) none =
      let rest = all_to n calls (λ number above. (own_if (call.pass == number) call (own_calls number calls) (none number above)).1) in
      let one = own_to n call calls (is_below n call calls (nat_lt n call.pass) refl none) in
      let all = spent-cons call calls in
      omega (arith, rest, one, all)

  -- ---- main, the exporter and the workers

  -- What calls cost beside main's: at most two entries for each pass but the exporter's, and fewer where some worker's last call gave no
  -- job back.
  pub record SpendsFew (others : ℕ) (calls : List (CallOf F)) : Type 0 where
    pub most : spent_to others calls ≤ spent (own_calls 0 calls) + 2 * (others - 1)
    pub last : (2 + spent_to others calls ≤ spent (own_calls 0 calls) + 2 * (others - 1))
        ⊎ ((number : ℕ) → 2 ≤ number → number ≤ others → EndsBack (own_calls number calls))

  module _ (calls : List (CallOf F)) (exporter : spent (own_calls 1 calls) ≡ 0) (workers : (number : ℕ) → 2 ≤ number → SpendsOnce (own_calls number calls)) where
    back_to : (k : ℕ) → ((number : ℕ) → 2 ≤ number → number ≤ suc k → EndsBack (own_calls number calls)) → EndsBack (own_calls (suc (suc k)) calls)
        → (number : ℕ) → 2 ≤ number → number ≤ suc (suc k) → EndsBack (own_calls number calls)
    back_to k all one number least most = by_last (last_or (suc k) number most)
      where
        by_last : (number ≤ suc k) ⊎ (number ≡ suc (suc k)) → EndsBack (own_calls number calls)
        by_last (inl le) = all number least le
        by_last (inr e) = subst (λ (n : ℕ). EndsBack (own_calls n calls)) (sym e) one

    one_worker : (k : ℕ) → SpendsFew (suc k) calls → SpendsOnce (own_calls (suc (suc k)) calls) → SpendsFew (suc (suc k)) calls
    one_worker k before (inl e) = record {
      most = few_more k (spent_to (suc k) calls) (spent (own_calls 0 calls)) (spent (own_calls (suc (suc k)) calls)) before.most (omega (arith, e));
      last = inl (fewer_none k (spent_to (suc k) calls) (spent (own_calls 0 calls)) (spent (own_calls (suc (suc k)) calls)) before.most e);
    }
    one_worker k before (inr h) = record {
      most = few_more k (spent_to (suc k) calls) (spent (own_calls 0 calls)) (spent (own_calls (suc (suc k)) calls)) before.most (le_of _ _ h.0);
      last = by_last before.last;
    }
      where
        by_last : (2 + spent_to (suc k) calls ≤ spent (own_calls 0 calls) + 2 * (suc k - 1))
            ⊎ ((number : ℕ) → 2 ≤ number → number ≤ suc k → EndsBack (own_calls number calls))
            → (2 + spent_to (suc (suc k)) calls ≤ spent (own_calls 0 calls) + 2 * (suc (suc k) - 1))
            ⊎ ((number : ℕ) → 2 ≤ number → number ≤ suc (suc k) → EndsBack (own_calls number calls))
        by_last (inl few) = inl (fewer_more k (spent_to (suc k) calls) (spent (own_calls 0 calls)) (spent (own_calls (suc (suc k)) calls)) few h.0)
        by_last (inr all) = inr (back_to k all h.1)

    pub crew_spends : (others : ℕ) → SpendsFew others calls
    crew_spends zero = record { most = omega arith; last = inr (λ number least most. absurd (omega (arith, least, most))) }
    crew_spends (suc zero) = record { most = omega (arith, exporter); last = inr (λ number least most. absurd (omega (arith, least, most))) }
    crew_spends (suc (suc k)) = one_worker k (crew_spends (suc k)) (workers (suc (suc k)) (omega arith))
