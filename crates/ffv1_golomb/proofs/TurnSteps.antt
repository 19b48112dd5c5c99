-- Steps in turn: what is true of those that are left is true of all.
use Rattle.std.proofs.Common.{ℕ, ◌+◌, ◌<◌, ◌≤◌, List, length, get_or, drop, refl, sym, subst, inl, inr}
use Rattle.std.proofs.lemmas.List.{drop_more, drop_all}
use Rattle.ffv1_golomb.specs.Turn.{InTurn, FailsInTurn}

-- From some place of a list on its steps are still to be done.
pub record AreLeft {A S : Type 0} (step : A → S → S → Type 0) (fails : A → S → Type 0) (xs : List A) (i : ℕ) (start now : S) : Type 0 where
  pub done : (end : S) → InTurn step (drop i xs) now end → InTurn step xs start end
  pub late : FailsInTurn step fails (drop i xs) now → FailsInTurn step fails xs start

pub all_left : {A S : Type 0} (step : A → S → S → Type 0) (fails : A → S → Type 0) (xs : List A) (start : S) → AreLeft step fails xs 0 start start
all_left step fails xs start = record { done = λ end steps. steps; late = λ late. late }

pub one_done : {A S : Type 0} (step : A → S → S → Type 0) (fails : A → S → Type 0) (xs : List A) (i : ℕ) (d : A) (start now next : S)
    → i < length xs → AreLeft step fails xs i start now → step (get_or xs i d) now next → AreLeft step fails xs (i + 1) start next
one_done step fails xs i d start now next within left here = record {
  done = λ end rest. left.done end (rw (drop_more xs i d within) (next, here, rest));
  late = λ late. left.late (rw (drop_more xs i d within) (inr (next, here, late)));
}

pub fails_here : {A S : Type 0} (step : A → S → S → Type 0) (fails : A → S → Type 0) (xs : List A) (i : ℕ) (d : A) (start now : S)
    → i < length xs → AreLeft step fails xs i start now → fails (get_or xs i d) now → FailsInTurn step fails xs start
fails_here step fails xs i d start now within left here = left.late (rw (drop_more xs i d within) (inl here))

pub all_done : {A S : Type 0} (step : A → S → S → Type 0) (fails : A → S → Type 0) (xs : List A) (i : ℕ) (start now : S)
    → length xs ≤ i → AreLeft step fails xs i start now → InTurn step xs start now
all_done {A} step fails xs i start now over left =
    let P : List A → Type 0 = λ rest. InTurn step rest now now in
    left.done now (subst P (sym (drop_all i xs over)) refl)
