-- The value at the end of a turn.
use Rattle.std.proofs.Common.{◌≡◌, ℕ, ◌<◌, ◌≤◌, ◌≢◌, true, false, List, [], Contains, Option, Some, unwrap_or, sym, ap, ◌∙◌, subst, ⊎_elim, true≢false, arith}
use mathlib.Core.Option.{some, some-injective}
use lib.ListN.{get_elem?}
use Rattle.atomic_table.specs.Seated.{TableId}
use Rattle.atomic_table.specs.Table.{State, Me, Final, Seen}
use Rattle.turn_lock.specs.declared.view.Joined.{Joined}
use Rattle.turn_lock.specs.declared.view.View.{View}
use Rattle.turn_lock.specs.Entries.{entries_of, IsFront}
use Rattle.turn_lock.specs.Rule.{Telling, IsAt, IsFree, IsTaken, IsTurn}
use Rattle.turn_lock.specs.Passes.{Names, PassOf, pass_of}
use Rattle.turn_lock.proofs.Places.{same_at}
use Rattle.turn_lock.proofs.Rules.{one_up, is_named}

module _ {B : Type 0} (tells : Telling B) (start : B) where
  abbrev St : Type 0
  St = State (Option B) (View B)

  abbrev Sat : Type 0
  Sat = Me (Option B) (View B)

  abbrev Rule : St → Type 0
  Rule = IsTurn tells start

  -- once each pass was joined into pass 0, which doesn't hold the turn, nobody holds it
  free_at_end : (s : St) (r : Rule s) (id : ℕ) (v : View B) → IsAt s.views id v → v.named ≡ true → v.holds ≡ false → v.number ≡ 0 → ((number : ℕ) → 1 ≤ number → number ≤ v.made → Names v.joined number)
      → IsTaken r.log s → ⊥
  free_at_end s r id v at named free main all_named t =
      let n = (r.fits id v at).named named in
      let fit = r.fits t.place t.holder t.holds.0 in
      let named_t : t.holder.named ≡ true = is_named t.holder (λ not. true≢false (sym t.holds.1 ∙ (fit.nameless not).0)) in
      let m = fit.named named_t in
      let not_main : t.holder.number ≢ 0 = λ zero_is. let same = r.apart t.place id t.holder v t.holds.0 at named_t named (zero_is ∙ sym main) in
      let e : v ≡ t.holder = same_at s.views id v t.holder at (subst (λ k. IsAt s.views k t.holder) same t.holds.0) in true≢false (sym t.holds.1 ∙ (ap (λ (x : View B). x.holds) (sym e) ∙ free)) in
      let makes : v.made ≡ r.made = n.counts main in
      let low : t.holder.number ≤ v.made = let b = m.numbered in omega arith in
      let named_in = all_named t.holder.number (one_up t.holder.number not_main) low in
      r.ended t.place id t.holder v t.holds.0 at named_t named_in.0 named_in.1 (sym named_in.2)

  -- what the value at the end has, by what pass 0 knows
  pub record Ends (pass : PassOf B) (value : B) : Type 0 where
    pub extends : IsFront pass.seen (tells.entries value)
    pub main : entries_of 0 (tells.entries value) ≡ pass.own
    pub joined : (e : Joined) → Contains pass.joined e → entries_of e.number (tells.entries value) ≡ e.own
    pub others : (number : ℕ) → pass.made < number → entries_of number (tells.entries value) ≡ []
    pub fixed : tells.fixed value ≡ tells.fixed start
    pub meets : tells.meets (tells.fixed start) (tells.entries value)

  ends_free : (s : St) (r : Rule s) (f : IsFree tells start r.log s) (id : ℕ) (turn : TableId) (v : View B) → IsAt s.views id v → v.named ≡ true → v.number ≡ 0 → Ends (pass_of turn v) f.value
  ends_free s r f id turn v at named main = let fit = r.fits id v at in let n = fit.named named in let makes : v.made ≡ r.made = n.counts main in record {
    extends = subst (λ l. IsFront v.seen l) (sym f.list) fit.seen;
    main = ap (entries_of 0) f.list ∙ (ap (λ k. entries_of k r.log) (sym main) ∙ sym n.own);
    joined = λ e has. let j = n.joined e has in ap (entries_of e.number) f.list ∙ sym j.2;
    others = λ number past. ap (entries_of number) f.list ∙ r.beyond number (omega arith);
    fixed = f.fixed;
    meets = subst (λ l. tells.meets (tells.fixed start) l) (sym f.list) r.meets;
  }

  pub ends_ok : (id : ℕ) (turn : TableId) (v : View B) (pass : PassOf B) (words : List ℕ) (slots : List (Option B)) (found : Option B) → v.named ≡ true → pass_of turn v ≡ pass → pass.holds ≡ false
      → pass.number ≡ 0 → ((number : ℕ) → 1 ≤ number → number ≤ pass.made → Names pass.joined number) → Final (Seen Rule id v) words slots → get_elem? slots 0 ≡ some found
      → (value : B) × (found ≡ Some value) × Ends pass value
  ends_ok id turn v pass words slots found named is free main all_named (s, (r, at), _, _, homes) here =
      let free' : v.holds ≡ false = ap (λ (p : PassOf B). p.holds) is ∙ free in
      let main' : v.number ≡ 0 = ap (λ (p : PassOf B). p.number) is ∙ main in
      let named_in = subst (λ (p : PassOf B). (number : ℕ) → 1 ≤ number → number ≤ p.made → Names p.joined number) (sym is) all_named in
      ⊎_elim (λ (f : IsFree tells start r.log s). (
        f.value,
        some-injective found (Some f.value) (sym here ∙ homes 0 (Some f.value) (ap (λ hs. get_elem? hs 0) f.home)),
        subst (λ (p : PassOf B). Ends p f.value) is (ends_free s r f id turn v at named main'),
      ))
      (λ (t : IsTaken r.log s). absurd (free_at_end s r id v at named free' main' named_in t)) r.turn

  -- the same for the value that was found in the slot
  pub ends_at : (id : ℕ) (turn : TableId) (v : View B) (pass : PassOf B) (words : List ℕ) (slots : List (Option B)) (found : Option B) (value : B) → v.named ≡ true → pass_of turn v ≡ pass → pass.holds ≡ false
      → pass.number ≡ 0 → ((number : ℕ) → 1 ≤ number → number ≤ pass.made → Names pass.joined number) → Final (Seen Rule id v) words slots → get_elem? slots 0 ≡ some found
      → found ≡ Some value → Ends pass value
  ends_at id turn v pass words slots found value named is free main all_named final here value_is =
      let end = ends_ok id turn v pass words slots found named is free main all_named final here in
      let same : end.0 ≡ value = ap (λ (o : Option B). unwrap_or o end.0) (sym end.1 ∙ value_is) in
      subst (λ (x : B). Ends pass x) same end.2
