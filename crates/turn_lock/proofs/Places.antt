-- Views in a list: what a view that is put in another's place, or behind the others, leaves as it was.
use Rattle.std.proofs.Common.{◌≡◌, ℕ, zero, suc, ◌<◌, ◌≢◌, ◌⊎◌, Bool, true, false, List, [], ◌∷◌, ◌++◌, length, set, Contains, sym, refl, ap, ◌∙◌, subst, inl, inr, ⊎_elim, true≢false, arith}
use mathlib.Core.Option.{some, some-injective, some-ne-none}
use lib.ListN.{get_elem?}
use Rattle.atomic_table.proofs.Lists.{at_set, set_else, at_longer}
use Rattle.turn_lock.specs.declared.view.Joined.{Joined}
use Rattle.turn_lock.specs.declared.view.View.{View}
use Rattle.turn_lock.specs.Rule.{IsAt, AreApart, AreEnded, NoneHolds, Holds}
use Rattle.tl_model.specs.declared.journal.Entry.{Entry}

module _ {A : Type 0} where
  pub at_inside : (l : List A) (i : ℕ) (a : A) → get_elem? l i ≡ some a → i < length l
  at_inside [] i a e = absurd (some-ne-none a (sym e))
  at_inside (x ∷ xs) zero a e = omega arith
  at_inside (x ∷ xs) (suc i) a e = let h = at_inside xs i a e in omega arith

  pub at_end : (l : List A) (a b : A) (j : ℕ) → get_elem? (l ++ a ∷ []) j ≡ some b → (get_elem? l j ≡ some b) ⊎ ((j ≡ length l) × (a ≡ b))
  at_end [] a b zero e = inr (refl, some-injective a b e)
  at_end [] a b (suc j) e = absurd (some-ne-none b (sym e))
  at_end (x ∷ xs) a b zero e = inl e
  at_end (x ∷ xs) a b (suc j) e = ⊎_elim (λ h. inl h) (λ h. inr (ap suc h.0, h.1)) (at_end xs a b j e)

  pub same_at : (l : List A) (i : ℕ) (a b : A) → get_elem? l i ≡ some a → get_elem? l i ≡ some b → a ≡ b
  same_at l i a b e f = some-injective a b (sym e ∙ f)

pub contains_none : (e : Joined) (l : List Joined) → l ≡ [] → Contains l e → ⊥
contains_none e l none has = let h = has.1 in omega (arith, ap length none)

pub contains_first_or : (x e : Joined) (l : List Joined) → Contains (x ∷ l) e → (x ≡ e) ⊎ Contains l e
contains_first_or x e l (zero, inside, is) = inl is
contains_first_or x e l (suc k, inside, is) = inr (k, omega arith, is)

module _ {B : Type 0} where
  -- what holds at each place of a list, where one view is another
  pub each_set : (P : ℕ → View B → Type 0) (views : List (View B)) (id : ℕ) (w : View B) → P id w → ((i : ℕ) (u : View B) → i ≢ id → IsAt views i u → P i u)
      → (i : ℕ) (u : View B) → IsAt (set views id w) i u → P i u
  each_set P views id w mine others i u e = ⊎_elim (λ (t : (i ≡ id) × (w ≡ u)). subst (λ (x : ℕ × View B). P x.0 x.1) (λ k. (sym t.0 k, t.1 k)) mine)
      (λ (t : (i ≢ id) × IsAt views i u). others i u t.0 t.1) (at_set views id i w u e)

  -- the same with one more view at the end
  pub each_end : (P : ℕ → View B → Type 0) (views : List (View B)) (n : View B) → P (length views) n → ((i : ℕ) (u : View B) → IsAt views i u → P i u)
      → (i : ℕ) (u : View B) → IsAt (views ++ n ∷ []) i u → P i u
  each_end P views n mine others i u e = ⊎_elim (λ (t : IsAt views i u). others i u t)
      (λ (t : (i ≡ length views) × (n ≡ u)). subst (λ (x : ℕ × View B). P x.0 x.1) (λ k. (sym t.0 k, t.1 k)) mine) (at_end views n u i e)

  -- each pass of the new list was one of the old, at its place and with its number
  abbrev pub ArePassesOf : List (View B) → List (View B) → Type 0
  ArePassesOf old new = (i : ℕ) (w : View B) → IsAt new i w → w.named ≡ true → (v : View B) × IsAt old i v × (v.named ≡ true) × (w.number ≡ v.number)

  -- each number that was joined in the new list was so in the old
  abbrev pub AreJoinedOf : List (View B) → List (View B) → Type 0
  AreJoinedOf old new = (i : ℕ) (w : View B) → IsAt new i w → (e : Joined) → Contains w.joined e → (j : ℕ) × (v : View B) × IsAt old j v × Contains v.joined e

  pub apart_of : (old new : List (View B)) → ArePassesOf old new → AreApart old → AreApart new
  apart_of old new passes apart i j v w at_i at_j named_v named_w same =
      let a = passes i v at_i named_v in let b = passes j w at_j named_w in
      apart i j a.0 b.0 a.1 b.1 a.2 b.2 (sym a.3 ∙ same ∙ b.3)

  pub ended_of : (old new : List (View B)) → ArePassesOf old new → AreJoinedOf old new → AreEnded old → AreEnded new
  ended_of old new passes joined ended i j v w at_i at_j named_v e has same =
      let a = passes i v at_i named_v in let b = joined j w at_j e has in
      ended i b.0 a.0 b.1 a.1 b.2 a.2 e b.3 (sym a.3 ∙ same)

  -- a view in place of another with its name and its number, and which names no more than it
  pub passes_set : (views : List (View B)) (id : ℕ) (v w : View B) → IsAt views id v → (w.named ≡ true → (v.named ≡ true) × (w.number ≡ v.number)) → ArePassesOf views (set views id w)
  passes_set views id v w at like = each_set (λ i u. u.named ≡ true → (x : View B) × IsAt views i x × (x.named ≡ true) × (u.number ≡ x.number)) views id w
      (λ named. let l = like named in (v, at, l.0, l.1)) (λ i u _ there named. (u, there, named, refl))

  pub joined_set : (views : List (View B)) (id : ℕ) (w : View B) → ((e : Joined) → Contains w.joined e → (j : ℕ) × (v : View B) × IsAt views j v × Contains v.joined e) → AreJoinedOf views (set views id w)
  joined_set views id w from = each_set (λ i u. (e : Joined) → Contains u.joined e → (j : ℕ) × (v : View B) × IsAt views j v × Contains v.joined e) views id w
      from (λ i u _ there e has. (i, u, there, has))

  -- a view without a number that names none, at the end
  pub passes_end : (views : List (View B)) (n : View B) → n.named ≡ false → ArePassesOf views (views ++ n ∷ [])
  passes_end views n nameless = each_end (λ i u. u.named ≡ true → (x : View B) × IsAt views i x × (x.named ≡ true) × (u.number ≡ x.number)) views n
      (λ named. absurd (true≢false (sym named ∙ nameless))) (λ i u there named. (u, there, named, refl))

  pub joined_end : (views : List (View B)) (n : View B) → n.joined ≡ [] → AreJoinedOf views (views ++ n ∷ [])
  joined_end views n names_none = each_end (λ i u. (e : Joined) → Contains u.joined e → (j : ℕ) × (v : View B) × IsAt views j v × Contains v.joined e) views n
      (λ e has. absurd (contains_none e n.joined names_none has)) (λ i u there e has. (i, u, there, has))

  -- who holds the turn in one of two lists holds it in the other
  abbrev pub HaveOneHolder : List (View B) → List (View B) → Type 0
  HaveOneHolder old new = ((i : ℕ) (u : View B) → IsAt new i u → u.holds ≡ true → IsAt old i u) × ((i : ℕ) (u : View B) → IsAt old i u → u.holds ≡ true → IsAt new i u)

  pub holder_set : (views : List (View B)) (id : ℕ) (v w : View B) → IsAt views id v → v.holds ≡ false → w.holds ≡ false → HaveOneHolder views (set views id w)
  holder_set views id v w at free free_w = (
    each_set (λ i u. u.holds ≡ true → IsAt views i u) views id w (λ holds. absurd (true≢false (sym holds ∙ free_w))) (λ i u _ there _. there),
    λ i u there holds. set_else views id i w (λ same. let e : v ≡ u = same_at views id v u at (subst (λ k. IsAt views k u) same there) in absurd (true≢false (sym holds ∙ (ap (λ (x : View B). x.holds) (sym e) ∙ free)))) ∙ there,
  )

  pub holder_end : (views : List (View B)) (n : View B) → n.holds ≡ false → HaveOneHolder views (views ++ n ∷ [])
  holder_end views n free = (
    each_end (λ i u. u.holds ≡ true → IsAt views i u) views n (λ holds. absurd (true≢false (sym holds ∙ free))) (λ i u there _. there),
    λ i u there _. at_longer views (n ∷ []) i u there,
  )

  pub holder_then : (a b c : List (View B)) → HaveOneHolder a b → HaveOneHolder b c → HaveOneHolder a c
  holder_then a b c f g = ((λ i u at holds. f.0 i u (g.0 i u at holds) holds), (λ i u at holds. g.1 i u (f.1 i u at holds) holds))

  free_or : (P : Type 0) (u : View B) (t : Bool) → u.holds ≡ t → (u.holds ≡ true → P) → (u.holds ≡ false) ⊎ P
  free_or P u true is f = inr (f is)
  free_or P u false is f = inl is

  pub not_held : (u : View B) → (u.holds ≡ true → ⊥) → u.holds ≡ false
  not_held u f = ⊎_elim (λ e. e) (λ e. absurd e) (free_or ⊥ u u.holds refl f)

  pub none_holds_of : (old new : List (View B)) → HaveOneHolder old new → NoneHolds old → NoneHolds new
  none_holds_of old new same none i u at = not_held u (λ holds. true≢false (sym holds ∙ none i u (same.0 i u at holds)))

  pub holds_of : (log : List Entry) (old new : List (View B)) (place : ℕ) (holder : View B) → HaveOneHolder old new → Holds log old place holder → Holds log new place holder
  holds_of log old new place holder same h = (same.1 place holder h.0 h.1, h.1, h.2, λ i w at holds. h.3 i w (same.0 i w at holds) holds)

  pub apart_end : (views : List (View B)) (n : View B) → AreApart views → ((i : ℕ) (u : View B) → IsAt views i u → u.named ≡ true → u.number ≢ n.number) → AreApart (views ++ n ∷ [])
  apart_end views n apart fresh i j v w at_i at_j named_v named_w same = ⊎_elim
      (λ (a : IsAt views i v). ⊎_elim (λ (b : IsAt views j w). apart i j v w a b named_v named_w same)
      (λ (b : (j ≡ length views) × (n ≡ w)). absurd (fresh i v a named_v (same ∙ ap (λ (x : View B). x.number) (sym b.1)))) (at_end views n w j at_j))
      (λ (a : (i ≡ length views) × (n ≡ v)). ⊎_elim (λ (b : IsAt views j w). absurd (fresh j w b named_w (sym same ∙ ap (λ (x : View B). x.number) (sym a.1))))
      (λ (b : (j ≡ length views) × (n ≡ w)). a.0 ∙ sym b.0) (at_end views n w j at_j))
      (at_end views n v i at_i)

  pub ended_end : (views : List (View B)) (n : View B) → AreEnded views → n.joined ≡ [] → ((j : ℕ) (w : View B) → IsAt views j w → (e : Joined) → Contains w.joined e → n.number ≢ e.number) → AreEnded (views ++ n ∷ [])
  ended_end views n ended names_none fresh i j v w at_i at_j named_v e has = ⊎_elim
      (λ (b : IsAt views j w). ⊎_elim (λ (a : IsAt views i v). ended i j v w a b named_v e has)
      (λ (a : (i ≡ length views) × (n ≡ v)). λ is. fresh j w b e has (ap (λ (x : View B). x.number) a.1 ∙ is)) (at_end views n v i at_i))
      (λ (b : (j ≡ length views) × (n ≡ w)). absurd (contains_none e w.joined (ap (λ (x : View B). x.joined) (sym b.1) ∙ names_none) has))
      (at_end views n w j at_j)
