-- Four passes that were joined one after another.
use Rattle.std.proofs.Common.{◌≡◌, ℕ, ◌≤◌, List, [], ◌∷◌, ◌++◌, sym, refl, ap, ◌∙◌, subst, arith}
use mathlib.Core.Logic.{dite}
use native.Mathlib.Decide.{ℕ_discrete}
use Rattle.turn_lock.specs.declared.view.Joined.{Joined}
use Rattle.turn_lock.specs.Passes.{Names}

added : (old new known other : List Joined) (x : Joined) → new ≡ old ++ x ∷ other → old ≡ known → other ≡ [] → new ≡ known ++ x ∷ []
added old new known other x joined is alone =
    joined ∙ (ap (λ l. l ++ x ∷ other) is ∙ ap (λ l. known ++ x ∷ l) alone)

names : (joined : List Joined) (a b c d : Joined) → joined ≡ a ∷ b ∷ c ∷ d ∷ []
    → a.number ≡ 1 → b.number ≡ 2 → c.number ≡ 3 → d.number ≡ 4
    → (number : ℕ) → 1 ≤ number → number ≤ 4 → Names joined number
names joined a b c d is one two three four number low high =
    subst (λ l. Names l number) (sym is) (dite (ℕ_discrete number 1)
    (λ e. (a, (0, omega arith, refl), one ∙ sym e))
    (λ not_1. dite (ℕ_discrete number 2)
    (λ e. (b, (1, omega arith, refl), two ∙ sym e))
    (λ not_2. dite (ℕ_discrete number 3)
    (λ e. (c, (2, omega arith, refl), three ∙ sym e))
    (λ not_3. (d, (3, omega arith, refl), four ∙ omega arith)))))

-- the four lists that were joined named nobody, nor did the first pass before
pub four_named : (made : ℕ) (l0 l1 l2 l3 l4 o1 o2 o3 o4 : List Joined) (a b c d : Joined)
    → l1 ≡ l0 ++ a ∷ o1 → l2 ≡ l1 ++ b ∷ o2 → l3 ≡ l2 ++ c ∷ o3 → l4 ≡ l3 ++ d ∷ o4
    → l0 ≡ [] → o1 ≡ [] → o2 ≡ [] → o3 ≡ [] → o4 ≡ []
    → a.number ≡ 1 → b.number ≡ 2 → c.number ≡ 3 → d.number ≡ 4 → made ≡ 4
    → (number : ℕ) → 1 ≤ number → number ≤ made → Names l4 number
four_named made l0 l1 l2 l3 l4 o1 o2 o3 o4 a b c d j1 j2 j3 j4 none n1 n2 n3 n4 one two three four makes number low high =
    let s1 : l1 ≡ a ∷ [] = added l0 l1 [] o1 a j1 none n1 in
    let s2 : l2 ≡ a ∷ b ∷ [] = added l1 l2 (a ∷ []) o2 b j2 s1 n2 in
    let s3 : l3 ≡ a ∷ b ∷ c ∷ [] = added l2 l3 (a ∷ b ∷ []) o3 c j3 s2 n3 in
    let s4 : l4 ≡ a ∷ b ∷ c ∷ d ∷ [] = added l3 l4 (a ∷ b ∷ c ∷ []) o4 d j4 s3 n4 in
    names l4 a b c d s4 one two three four number low (subst (λ n. number ≤ n) makes high)
