-- What turns of work cost: two entries where the last one gives its job back while it is open, and else none.
use Rattle.std.proofs.Common.{◌≡◌, ℕ, ◌+◌, cond, Bool, true, false, List, [], ◌∷◌, ◌++◌, ◌⊎◌, inl, inr, refl, ap, subst, ◌∙◌, arith}
use Rattle.std.proofs.lemmas.List.{append-nil}
use Rattle.std.proofs.lemmas.List.Sums.{sum_by-cons}
use Rattle.tl_model.specs.declared.journal.Act.{Act}
use Rattle.tl_model.specs.declared.journal.Act.TheVariants as act
use Rattle.render_core.specs.Calls.{CallOf}
use Rattle.render_core.specs.Step.{Claimed}
use Rattle.play_head.specs.Work.{Turn, AreTurns, IsTurn, turns_calls, is_released}
use Rattle.run_laws.proofs.Level.{call_cost}
use Rattle.run_laws.proofs.Entries.{EndsBack, back_more, spent}

-- Calls that cost nothing; or two entries, and the last of them gives a job back while it is open.
abbrev pub SpendsOnce : {F : Type 0} → List (CallOf F) → Type 0
SpendsOnce calls = (spent calls ≡ 0) ⊎ ((spent calls ≡ 2) × EndsBack calls)

module _ {F : Type 0} where
  abbrev claim_of : (number : ℕ) → Turn F → CallOf F
  claim_of number turn = record { pass = number; act = act.Claim; told = Claimed turn.job turn.recipe }

  abbrev end_of : (number : ℕ) → Turn F → CallOf F
  end_of number turn = record { pass = number; act = turn.end; told = turn.told }

  pub spent-cons : (call : CallOf F) (calls : List (CallOf F)) → spent (call ∷ calls) ≡ call_cost call.act call.told + spent calls
  spent-cons call calls = sum_by-cons (λ (c : CallOf F). call_cost c.act c.told) call calls

  spent_more : (call : CallOf F) (calls : List (CallOf F)) (n : ℕ) → call_cost call.act call.told ≡ 0 → spent calls ≡ n → spent (call ∷ calls) ≡ n
  spent_more call calls n free e = let all = spent-cons call calls in omega (arith, free, e, all)

  once_more : (call : CallOf F) (calls : List (CallOf F)) → call_cost call.act call.told ≡ 0 → SpendsOnce calls → SpendsOnce (call ∷ calls)
  once_more call calls free (inl e) = inl (spent_more call calls 0 free e)
  once_more call calls free (inr h) = inr (spent_more call calls 2 free h.0, back_more call calls h.1)

  -- ---- the end of a turn

  file_cost : (turn : Turn F) → turn.end ≡ act.File turn.job → call_cost turn.end turn.told ≡ 0
  file_cost turn e = ap (λ (what : Act). call_cost what turn.told) e

  release_cost : (turn : Turn F) (b : Bool) → turn.end ≡ act.Release turn.job → is_released turn.told ≡ b → call_cost turn.end turn.told ≡ cond b 2 0
  release_cost turn b e told = ap (λ (what : Act). call_cost what turn.told) e ∙ ap (λ (x : Bool). cond {A = ℕ} x 2 0) told

  ended_cost : (turn : Turn F) → IsTurn turn → is_released turn.told ≡ false → call_cost turn.end turn.told ≡ 0
  ended_cost turn (inl e, told) kept = file_cost turn e
  ended_cost turn (inr e, told) kept = release_cost turn false e kept

  released_once : (number : ℕ) (turn : Turn F) (b : Bool) → turn.end ≡ act.Release turn.job → is_released turn.told ≡ b → SpendsOnce (end_of number turn ∷ [])
  released_once number turn true e told =
      let one = release_cost turn true e told in
      let all = spent-cons (end_of number turn) [] in
      inr (omega (arith, one, all), record { job = turn.job; is = e; told = told })
  released_once number turn false e told = inl (spent_more (end_of number turn) [] 0 (release_cost turn false e told) refl)

  last_once : (number : ℕ) (turn : Turn F) → IsTurn turn → SpendsOnce (end_of number turn ∷ [])
  last_once number turn (inl e, told) = inl (spent_more (end_of number turn) [] 0 (file_cost turn e) refl)
  last_once number turn (inr e, told) = released_once number turn (is_released turn.told) e refl

  -- ---- a front of turns

  none_once : (xs ys : List (CallOf F)) → xs ++ ys ≡ [] → SpendsOnce xs
  none_once [] ys e = inl refl
  none_once (x ∷ xs) ys e = absurd cc

  claim_once : (number : ℕ) (turn : Turn F) (more xs ys : List (CallOf F)) → xs ++ ys ≡ claim_of number turn ∷ more
      → ((zs : List (CallOf F)) → zs ++ ys ≡ more → SpendsOnce zs) → SpendsOnce xs
  claim_once number turn more [] ys e rest = inl refl
  claim_once number turn more (x ∷ xs) ys e rest =
      let is : x ≡ claim_of number turn = cc in
      let later : xs ++ ys ≡ more = cc in
      once_more x xs (ap (λ (c : CallOf F). call_cost c.act c.told) is) (rest xs later)

  end_last : (number : ℕ) (turn : Turn F) → IsTurn turn → (xs ys : List (CallOf F)) → xs ++ ys ≡ end_of number turn ∷ [] → SpendsOnce xs
  end_last number turn h [] ys e = inl refl
  end_last number turn h (x ∷ []) ys e =
      let is : end_of number turn ≡ x = cc in
      subst (λ (c : CallOf F). SpendsOnce (c ∷ [])) is (last_once number turn h)
  end_last number turn h (x ∷ y ∷ xs) ys e = absurd cc

  end_once : (number : ℕ) (turn : Turn F) (more : List (CallOf F)) → IsTurn turn → is_released turn.told ≡ false
      → ((xs ys : List (CallOf F)) → xs ++ ys ≡ more → SpendsOnce xs)
      → (xs ys : List (CallOf F)) → xs ++ ys ≡ end_of number turn ∷ more → SpendsOnce xs
  end_once number turn more h kept rest [] ys e = inl refl
  end_once number turn more h kept rest (x ∷ xs) ys e =
      let is : x ≡ end_of number turn = cc in
      let later : xs ++ ys ≡ more = cc in
      once_more x xs (ap (λ (c : CallOf F). call_cost c.act c.told) is ∙ ended_cost turn h kept) (rest xs ys later)

  pub turns_front : (number : ℕ) (turns : List (Turn F)) → AreTurns turns → (xs ys : List (CallOf F)) → xs ++ ys ≡ turns_calls number turns → SpendsOnce xs
  turns_front number [] h xs ys e = none_once xs ys e
  turns_front number (turn ∷ []) h xs ys e =
      claim_once number turn (end_of number turn ∷ []) xs ys e (λ zs f. end_last number turn h zs ys f)
  turns_front number (turn ∷ next ∷ turns) h xs ys e =
      claim_once number turn (end_of number turn ∷ turns_calls number (next ∷ turns)) xs ys e
      (λ zs f. end_once number turn (turns_calls number (next ∷ turns)) h.0 h.1 (turns_front number (next ∷ turns) h.2) zs ys f)

  pub turns_once : (number : ℕ) (turns : List (Turn F)) → AreTurns turns → SpendsOnce (turns_calls number turns)
  turns_once number turns h = turns_front number turns h (turns_calls number turns) [] (append-nil (turns_calls number turns))
