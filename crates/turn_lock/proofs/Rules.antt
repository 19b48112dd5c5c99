-- The rule of the turn, where views change and the list doesn't.
use Rattle.std.proofs.Common.{◌≡◌, ℕ, ◌+◌, ◌*◌, ◌/◌, ◌≤◌, ◌≢◌, ◌⊎◌, Bool, true, false, List, [], ◌∷◌, ◌++◌, length, get_or, set, Contains, Option, bit_or, sym, refl, ap, ◌∙◌, subst, inl, inr, ⊎_elim, true≢false, arith}
use lib.Seq.{set-get_or}
use Rattle.std.proofs.lemmas.Nat.{or_block, or_shifted}
use lib.Bits.{or_zero_r}
use Rattle.atomic_table.specs.Table.{State, Me, keeps, stepped}
use Rattle.atomic_table.proofs.Lists.{set_again}
use Rattle.tl_model.specs.declared.journal.Entry.{Entry}
use Rattle.turn_lock.specs.declared.view.Joined.{Joined}
use Rattle.turn_lock.specs.declared.view.View.{View}
use Rattle.turn_lock.specs.Entries.{entries_of, IsFront}
use Rattle.turn_lock.specs.Rule.{Telling, IsAt, Fits, AreApart, AreEnded, IsFree, IsTaken, IsTurn}
use Rattle.turn_lock.proofs.Places.{same_at, each_set, each_end, apart_of, ended_of, passes_set, joined_set, passes_end, joined_end, HaveOneHolder, holder_set, holder_end, none_holds_of, holds_of}

pub even_or : (n : ℕ) → bit_or (2 * n) 1 ≡ 2 * n + 1
even_or n = let e : 2 * n ≡ n * 2 = omega arith in let s : bit_or (n * 2) 1 ≡ n * 2 + 1 = or_shifted n 1 1 (omega arith) in
    ap (λ k. bit_or k 1) e ∙ s ∙ omega arith

pub odd_or : (n : ℕ) → bit_or (2 * n + 1) 1 ≡ 2 * n + 1
odd_or n = let e : 2 * n + 1 ≡ n * 2 + 1 = omega arith in let s : bit_or (n * 2 + 1) 1 ≡ bit_or n 0 * 2 + 1 = or_block 1 n 0 1 1 (omega arith) (omega arith) in
    ap (λ k. bit_or k 1) e ∙ s ∙ (ap (λ k. k * 2 + 1) (or_zero_r n) ∙ omega arith)

pub one_up : (n : ℕ) → n ≢ 0 → 1 ≤ n
one_up n not = omega arith

pub named_or : (t : Bool) → (t ≡ true) ⊎ (t ≡ false)
named_or true = inl refl
named_or false = inr refl

pub is_named : {B : Type 0} (v : View B) → (v.named ≡ false → ⊥) → v.named ≡ true
is_named v f = ⊎_elim (λ is. is) (λ not. absurd (f not)) (named_or v.named)

-- the same state, with other views
abbrev pub shown : {B : Type 0} → State (Option B) (View B) → List (View B) → State (Option B) (View B)
shown s views = record { words = s.words; homes = s.homes; views = views }

module _ {B : Type 0} (tells : Telling B) (start : B) where
  abbrev St : Type 0
  St = State (Option B) (View B)

  abbrev Sat : Type 0
  Sat = Me (Option B) (View B)

  abbrev Rule : St → Type 0
  Rule = IsTurn tells start

  -- other views, with the same holder
  pub turn_shown : (s : St) (log : List Entry) (views : List (View B)) → HaveOneHolder s.views views → IsFree tells start log s ⊎ IsTaken log s → IsFree tells start log (shown s views) ⊎ IsTaken log (shown s views)
  turn_shown s log views same (inl f) = inl record { value = f.value; word = f.word; home = f.home; list = f.list; fixed = f.fixed; none_holds = none_holds_of s.views views same f.none_holds }
  turn_shown s log views same (inr t) = inr record { place = t.place; holder = t.holder; word = t.word; home = t.home; holds = holds_of log s.views views t.place t.holder same t.holds }

  -- the rule for other views, with the same list
  pub rule_shown : (s : St) (r : Rule s) (views : List (View B)) → HaveOneHolder s.views views → ((i : ℕ) (u : View B) → IsAt views i u → Fits start r.log r.made u) → AreApart views → AreEnded views → Rule (shown s views)
  rule_shown s r views same fits apart ended = record {
    log = r.log;
    made = r.made;
    few = r.few;
    meets = r.meets;
    turn = turn_shown s r.log views same r.turn;
    fits = fits;
    apart = apart;
    ended = ended;
    beyond = r.beyond;
  }

  -- one view for another with its name, its number and what it names
  pub rule_set : (s : St) (r : Rule s) (id : ℕ) (v w : View B) → IsAt s.views id v → v.holds ≡ false → w.holds ≡ false → (w.named ≡ true → (v.named ≡ true) × (w.number ≡ v.number))
      → ((e : Joined) → Contains w.joined e → Contains v.joined e) → Fits start r.log r.made w → Rule (shown s (set s.views id w))
  rule_set s r id v w at free free_w like joined fits =
      let passes = passes_set s.views id v w at like in
      let names = joined_set s.views id w (λ e has. (id, v, at, joined e has)) in
      rule_shown s r (set s.views id w) (holder_set s.views id v w at free free_w)
      (each_set (λ i u. Fits start r.log r.made u) s.views id w fits (λ i u _ there. r.fits i u there))
      (apart_of s.views (set s.views id w) passes r.apart) (ended_of s.views (set s.views id w) passes names r.ended)

  -- one view more, which has no number and names none
  pub rule_end : (s : St) (r : Rule s) (n : View B) → n.named ≡ false → n.holds ≡ false → n.joined ≡ [] → Fits start r.log r.made n → Rule (shown s (s.views ++ n ∷ []))
  rule_end s r n nameless free names_none fits =
      let passes = passes_end s.views n nameless in
      let names = joined_end s.views n names_none in
      rule_shown s r (s.views ++ n ∷ []) (holder_end s.views n free)
      (each_end (λ i u. Fits start r.log r.made u) s.views n fits (λ i u there. r.fits i u there))
      (apart_of s.views (s.views ++ n ∷ []) passes r.apart) (ended_of s.views (s.views ++ n ∷ []) passes names r.ended)

  -- a step that leaves the word as it was
  pub rule_unmoved : (s : St) (id : ℕ) (cs : List (ℕ × Option B)) (w : View B) → Rule (shown s (set s.views id w)) → Rule (stepped s 0 (get_or s.words 0 0) id cs w keeps)
  rule_unmoved s id cs w r = subst (λ ws. Rule record { words = ws; homes = s.homes; views = set s.views id w }) (sym (set-get_or s.words 0 0)) r

  -- what a pass has seen, and what it names, may change as long as both are fronts of the list
  pub fits_seen : (log : List Entry) (made : ℕ) (v : View B) (seen behind : List Entry) (word : ℕ) (holds : Bool) → v.named ≡ true → Fits start log made v → IsFront seen log → IsFront behind log
      → entries_of v.number seen ≡ v.mine → Fits start log made record v { seen = seen; behind = behind; word = word; holds = holds }
  fits_seen log made v seen behind word holds named f front front' saw = let n = f.named named in record {
    seen = front;
    behind = front';
    starts = f.starts;
    named = λ _. record { starts = n.starts; numbered = n.numbered; counts = n.counts; own = n.own; seen_own = saw; joined = n.joined };
    nameless = λ not. absurd (true≢false (sym named ∙ not));
  }

  -- a step that changes nothing
  pub rule_still : (s : St) (r : Rule s) (id : ℕ) (me : Sat) → IsAt s.views id me.0 → Rule (stepped s 0 (get_or s.words 0 0) id me.1 me.0 keeps)
  rule_still s r id me at = rule_unmoved s id me.1 me.0 (subst (λ views. Rule (shown s views)) (sym (set_again s.views id me.0 at)) r)

  pub half_word : (s : St) (r : Rule s) → length r.log ≡ get_or s.words 0 0 / 2
  half_word s r = ⊎_elim (λ (f : IsFree tells start r.log s). let e : get_or s.words 0 0 ≡ 2 * length r.log = ap (λ ws. get_or ws 0 0) f.word in omega arith)
      (λ (t : IsTaken r.log s). let e : get_or s.words 0 0 ≡ 2 * length r.log + 1 = ap (λ ws. get_or ws 0 0) t.word in omega arith) r.turn

  -- who holds the turn has seen the whole list
  pub holder_saw : (s : St) (r : Rule s) (id : ℕ) (v : View B) → IsAt s.views id v → v.holds ≡ true → v.seen ≡ r.log
  holder_saw s r id v at holds = ⊎_elim (λ (f : IsFree tells start r.log s). absurd (true≢false (sym holds ∙ f.none_holds id v at)))
      (λ (t : IsTaken r.log s). let h = t.holds in let same : id ≡ t.place = h.3 id v at holds in
      ap (λ (u : View B). u.seen) (same_at s.views t.place v t.holder (subst (λ k. IsAt s.views k v) same at) h.0) ∙ h.2) r.turn
