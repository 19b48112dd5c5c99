-- What main knows of the passes that it joined stays, whatever it joins later.
use Rattle.std.proofs.Common.{◌≡◌, ◌<◌, ◌↔◌, List, [], ◌∷◌, ◌++◌, length, Option, Some, None, refl, sym, ap, subst, ◌∙◌, arith}
use Rattle.std.specs.Prelude.{All, Contains, IsSome}
use Rattle.std.proofs.lemmas.List.{append_assoc, append-nil}
use Rattle.std.proofs.lemmas.List.Elements.{All-cons, All-pop, Contains-append_left, Contains-append_right}
use Rattle.tl_model.specs.Media.{Library}
use Rattle.tl_model.specs.declared.journal.Entry.{Entry}
use Rattle.turn_lock.specs.declared.view.Joined.{Joined}
use Rattle.turn_lock.specs.Entries.{IsFront}
use Rattle.turn_lock.specs.Passes.{HasJoined, TurnOf, PassOf, named_by}
use Rattle.render_core.specs.Board.{BoardOf}
use Rattle.studio.specs.Known.{Knows}
use Rattle.crew.specs.declared.task.Slot.{Slot}
use Rattle.crew.specs.declared.task.Slot.TheVariants as slot
use Rattle.crew.specs.Joining.{GaveBack, HasIn, IsIn, Stays}

pub fronts : (one two three : List Entry) → IsFront one two → IsFront two three → IsFront one three
fronts one two three f g = (f.0 ++ g.0, g.1 ∙ ap (λ (es : List Entry). es ++ g.0) f.1 ∙ append_assoc one f.0 g.0)

module _ {M F : Type 0} (library : M → Library F) (studio : TurnOf (BoardOf M)) where
  pub stays_joined : (old other new : PassOf (BoardOf M)) → HasJoined old other new → IsFront old.seen new.seen → Knows library studio new → Stays library studio old new
  stays_joined old other new e front knows = record {
    knows = knows;
    number = ap (λ (p : PassOf (BoardOf M)). p.number) e;
    made = ap (λ (p : PassOf (BoardOf M)). p.made) e;
    own = ap (λ (p : PassOf (BoardOf M)). p.own) e;
    extends = front;
    keeps = λ ended has. subst (λ (js : List Joined). Contains js ended) (sym (ap (λ (p : PassOf (BoardOf M)). p.joined) e))
        (Contains-append_left old.joined (named_by other ∷ other.joined) ended has);
  }

  pub has_joined : (old other new : PassOf (BoardOf M)) → HasJoined old other new → IsFront other.seen new.seen → HasIn new other
  has_joined old other new e front = record {
    front = front;
    named = subst (λ (js : List Joined). Contains js (named_by other)) (sym (ap (λ (p : PassOf (BoardOf M)). p.joined) e))
        (Contains-append_right old.joined (named_by other ∷ other.joined) (named_by other) (0, omega arith, refl));
  }

  pub stays_same : (main : PassOf (BoardOf M)) → Knows library studio main → Stays library studio main main
  stays_same main knows = record { knows = knows; number = refl; made = refl; own = refl; extends = ([], sym (append-nil main.seen)); keeps = λ ended has. has }

  pub stays_then : (old mid new : PassOf (BoardOf M)) → Stays library studio old mid → Stays library studio mid new → Stays library studio old new
  stays_then old mid new h k = record {
    knows = k.knows;
    number = k.number ∙ h.number;
    made = k.made ∙ h.made;
    own = k.own ∙ h.own;
    extends = fronts old.seen mid.seen new.seen h.extends k.extends;
    keeps = λ ended has. k.keeps ended (h.keeps ended has);
  }

  pub has_still : (old new pass : PassOf (BoardOf M)) → Stays library studio old new → HasIn old pass → HasIn new pass
  has_still old new pass s h = record { front = fronts pass.seen old.seen new.seen h.front s.extends; named = s.keeps (named_by pass) h.named }

  in_still : {T A : Type 0} (old new : PassOf (BoardOf M)) (s : Slot T (PassOf (BoardOf M) × A)) → Stays library studio old new → IsIn old s → IsIn new s
  in_still old new (slot.Ready task) s h = h
  in_still old new (slot.Done back) s h = has_still old new back.0 s h
  in_still old new slot.Empty s h = h

  pub all_still : {T A : Type 0} (old new : PassOf (BoardOf M)) (slots : List (Slot T (PassOf (BoardOf M) × A))) → Stays library studio old new → All (IsIn old) slots → All (IsIn new) slots
  all_still old new slots s h k other lt = in_still old new _ s (h k other lt)

-- Of some slots those after these were joined.
abbrev pub HasJoinedRest : {M T A : Type 0} → (main : PassOf (BoardOf M)) → (all now : List (Slot T (PassOf (BoardOf M) × A))) → Type 0
HasJoinedRest {M} {T} {A} main all now = (rest : List (Slot T (PassOf (BoardOf M) × A))) × (all ≡ now ++ rest) × All (IsIn main) rest

module _ {M F T A : Type 0} (library : M → Library F) (studio : TurnOf (BoardOf M)) where
  -- one more of them was joined, the last of those that were left
  pub rest_more : (old new : PassOf (BoardOf M)) (all now next : List (Slot T (PassOf (BoardOf M) × A))) (s : Slot T (PassOf (BoardOf M) × A)) → now ≡ next ++ s ∷ [] → Stays library studio old new → IsIn new s
      → HasJoinedRest old all now → HasJoinedRest new all next
  rest_more old new all now next s e stays has (rest, is, joined) = (
    s ∷ rest,
    is ∙ ap (λ (ss : List (Slot T (PassOf (BoardOf M) × A))). ss ++ rest) e ∙ append_assoc next (s ∷ []) rest,
    All-cons (IsIn new) s rest has (all_still library studio old new rest stays joined),
  )

  pub gave_front : (now next : List (Slot T (PassOf (BoardOf M) × A))) (s : Slot T (PassOf (BoardOf M) × A)) → now ≡ next ++ s ∷ [] → All (GaveBack library studio) now
      → All (GaveBack library studio) next × GaveBack library studio s
  gave_front now next s e h = All-pop (GaveBack library studio) now next (Some s) e h

  -- none is left
  pub rest_all : (main : PassOf (BoardOf M)) (all now : List (Slot T (PassOf (BoardOf M) × A))) → now ≡ [] → HasJoinedRest main all now → All (IsIn main) all
  rest_all main all now none (rest, is, joined) =
      subst (All (IsIn main)) (sym (is ∙ ap (λ (ss : List (Slot T (PassOf (BoardOf M) × A))). ss ++ rest) none)) joined

pub none_left : {X : Type 0} (xs : List X) (r : Option X) → IsSome r ↔ (0 < length xs) → ((x : X) → r ≡ Some x → ⊥) → xs ≡ []
none_left [] r v n = refl
none_left (x ∷ xs) None v n = let e = v.1 (omega arith) in absurd cc
none_left (x ∷ xs) (Some y) v n = absurd (n y refl)
