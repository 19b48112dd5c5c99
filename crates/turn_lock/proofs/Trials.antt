-- Two passes that were joined, one of them into the other first.
use Rattle.std.proofs.Common.{◌≡◌, ℕ, ◌≤◌, List, [], ◌∷◌, ◌++◌, sym, refl, ap, ◌∙◌, subst, arith}
use mathlib.Core.Logic.{dite}
use native.Mathlib.Decide.{ℕ_discrete}
use Rattle.turn_lock.specs.declared.view.Joined.{Joined}
use Rattle.turn_lock.specs.Passes.{Names}

pub two_named : (made : ℕ) (joined m o p q : List Joined) (x y : Joined) → joined ≡ m ++ x ∷ o → m ≡ [] → o ≡ p ++ y ∷ q → p ≡ [] → x.number ≡ 1 → y.number ≡ 2 → made ≡ 2
    → (number : ℕ) → 1 ≤ number → number ≤ made → Names joined number
two_named made joined m o p q x y all none then_o none' one two makes number low high =
    let is : joined ≡ x ∷ y ∷ q = all ∙ (ap (λ l. l ++ x ∷ o) none ∙ ap (λ l. x ∷ l) (then_o ∙ ap (λ l. l ++ y ∷ q) none')) in
    subst (λ l. Names l number) (sym is) (dite (ℕ_discrete number 1)
    (λ e. (x, (0, omega arith, refl), one ∙ sym e))
    (λ not. (y, (1, omega arith, refl), two ∙ omega arith)))
