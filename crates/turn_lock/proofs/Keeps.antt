-- Each step on the word keeps the rule of the turn, and tells what it is to tell.
use Rattle.std.proofs.Common.{◌≡◌, ℕ, ◌+◌, ◌*◌, ◌^◌, ◌<◌, ◌≢◌, Bool, true, false, List, [], ◌∷◌, ◌++◌, length, get_or, set, All, Contains, Option, Some, IfSome, unwrap_or, bit_or, sym, refl, ap, ◌∙◌, subst, inl, inr, ⊎_elim, true≢false, arith}
use mathlib.Core.Option.{none}
use lib.ListN.{get_elem?}
use Rattle.atomic_table.specs.Table.{State, Me, Step, step, keeps, takes as taking, gives, stepped, Allows, Splits, Joins, Final, Seen}
use Rattle.atomic_table.proofs.Lists.{set_here}
use Rattle.tl_model.specs.declared.journal.Entry.{Entry}
use Rattle.turn_lock.specs.declared.view.Joined.{Joined}
use Rattle.turn_lock.specs.declared.view.View.{View}
use Rattle.turn_lock.specs.Entries.{entries_of, IsFront, Adds}
use Rattle.turn_lock.specs.Views.{with_look, with_word, with_turn, with_leave}
use Rattle.turn_lock.specs.Rule.{Telling, IsAt, Fits, IsFree, IsTaken, IsTurn}
use Rattle.turn_lock.specs.Steps.{takes, leaves, looks, compares}
use Rattle.turn_lock.proofs.Fronts.{front_self, front_on, entries_stay}
use Rattle.turn_lock.proofs.Places.{at_inside, each_set, apart_of, ended_of, passes_set, joined_set, not_held}
use Rattle.turn_lock.proofs.Rules.{even_or, odd_or, rule_set, rule_unmoved, fits_seen, rule_still, half_word, holder_saw}

module _ {B : Type 0} (tells : Telling B) (start : B) where
  abbrev St : Type 0
  St = State (Option B) (View B)

  abbrev Sat : Type 0
  Sat = Me (Option B) (View B)

  abbrev Rule : St → Type 0
  Rule = IsTurn tells start

  module _ (fronts : (part : tells.Fixed) (front rest : List Entry) → tells.meets part (front ++ rest) → tells.meets part front) where
    meets_for : (v : View B) (log front : List Entry) → v.start ≡ Some start → IsFront front log → tells.meets (tells.fixed start) log → IfSome v.start (λ b. tells.meets (tells.fixed b) front)
    meets_for v log front is f m =
        subst (λ (o : Option B). IfSome o (λ b. tells.meets (tells.fixed b) front)) (sym is) (fronts (tells.fixed start) front f.0 (subst (λ l. tells.meets (tells.fixed start) l) f.1 m))

    abbrev Taken : St → ℕ → ℕ → Sat → Type 0
    Taken s slots id me =
        (w : View B) × (a : _) × Rattle.atomic_table.specs.Table.Valid s.homes me.1 a × Rule (stepped s 0 (bit_or (get_or s.words 0 0) 1) id me.1 w a)
        × takes tells (step slots 0 1 0 none) me (get_or s.words 0 0) (w, Rattle.atomic_table.specs.Table.carried_after me.1 a)

    take_free : (s : St) (r : Rule s) (f : IsFree tells start r.log s) (slots id : ℕ) (me : Sat) → me.0.named ≡ true → me.1 ≡ [] → IsAt s.views id me.0 → Taken s slots id me
    take_free s r f slots id me named empty at =
        let v : View B = me.0 in
        let word : ℕ = get_or s.words 0 0 in
        let word_is : word ≡ 2 * length r.log = ap (λ ws. get_or ws 0 0) f.word in
        let fit = r.fits id v at in
        let n = fit.named named in
        let w : View B = with_turn (tells.entries f.value) v in
        let passes = passes_set s.views id v w at (λ _. (named, refl)) in
        let names = joined_set s.views id w (λ e has. (id, v, at, has)) in (
          w,
          taking 0 (Some f.value),
          ap (λ hs. get_elem? hs 0) f.home,
          record {
            log = r.log;
            made = r.made;
            few = r.few;
            meets = r.meets;
            turn = inr record {
              place = id;
              holder = w;
              word = ap (λ ws. set ws 0 (bit_or (get_or ws 0 0) 1)) f.word ∙ ap (λ k. k ∷ []) (even_or (length r.log));
              home = ap (λ hs. set hs 0 none) f.home;
              holds = (
                set_here s.views id w (at_inside s.views id v at),
                refl,
                f.list,
                each_set (λ i u. u.holds ≡ true → i ≡ id) s.views id w (λ _. refl) (λ i u _ there holds. absurd (true≢false (sym holds ∙ f.none_holds i u there))),
              );
            };
            fits = each_set (λ i u. Fits start r.log r.made u) s.views id w
                (fits_seen tells start r.log r.made v (tells.entries f.value) v.behind (2 * length (tells.entries f.value)) true named fit (subst (λ l. IsFront l r.log) (sym f.list) (front_self r.log)) fit.behind
                (ap (λ l. entries_of v.number l) f.list ∙ sym n.own))
                (λ i u _ there. r.fits i u there);
            apart = apart_of s.views (set s.views id w) passes r.apart;
            ended = ended_of s.views (set s.views id w) passes names r.ended;
            beyond = r.beyond;
          },
          (
            (λ _. (
              f.value,
              (λ k. (w, (0, Some f.value) ∷ empty k)),
              word_is ∙ ap (λ l. 2 * length l) (sym f.list),
              record {
                extends = subst (λ l. IsFront v.seen l) (sym f.list) fit.seen;
                own = ap (λ l. entries_of v.number l) f.list ∙ sym n.own;
                fixed = subst (λ (o : Option B). IfSome o (λ b. tells.fixed f.value ≡ tells.fixed b)) (sym n.starts) f.fixed;
                meets = meets_for v r.log (tells.entries f.value) n.starts (subst (λ l. IsFront l r.log) (sym f.list) (front_self r.log)) r.meets;
              },
            )),
            (λ odd. absurd (omega arith)),
          ),
        )

    take_taken : (s : St) (r : Rule s) (t : IsTaken r.log s) (slots id : ℕ) (me : Sat) → me.0.named ≡ true → me.0.holds ≡ false → IsAt s.views id me.0 → Taken s slots id me
    take_taken s r t slots id me named free at =
        let v : View B = me.0 in
        let word : ℕ = get_or s.words 0 0 in
        let word_is : word ≡ 2 * length r.log + 1 = ap (λ ws. get_or ws 0 0) t.word in
        let fit = r.fits id v at in
        let n = fit.named named in
        let w : View B = with_word word v in
        let same : bit_or word 1 ≡ word = ap (λ k. bit_or k 1) word_is ∙ odd_or (length r.log) ∙ sym word_is in (
          w,
          keeps,
          tt,
          subst (λ k. Rule (stepped s 0 k id me.1 w keeps)) (sym same)
              (rule_unmoved tells start s id me.1 w (rule_set tells start s r id v w at free free (λ _. (named, refl)) (λ e has. has) (fits_seen tells start r.log r.made v v.seen v.behind word v.holds named fit fit.seen fit.behind n.seen_own))),
          ((λ even. absurd (omega arith)), (λ _. (refl, meets_for v r.log v.seen n.starts fit.seen r.meets))),
        )

    pub takes_ok : (slots id : ℕ) (me : Sat) → me.0.named ≡ true → me.0.holds ≡ false → me.1 ≡ [] → Allows Rule slots id me 0 (λ n. bit_or n 1) (takes tells (step slots 0 1 0 none) me)
    takes_ok slots id me named free empty s r _ at _ = ⊎_elim (λ f. take_free s r f slots id me named empty at) (λ t. take_taken s r t slots id me named free at) r.turn

    pub compares_ok : (slots id : ℕ) (me : Sat) → me.0.named ≡ true → Allows Rule slots id me 0 (λ n. n) (compares tells (step slots 0 0 0 none) me)
    compares_ok slots id me named s r _ at _ = let fit = r.fits id me.0 at in let n = fit.named named in
        (me.0, keeps, tt, rule_still tells start s r id me at, (refl, (r.log, fit.seen, fit.behind), meets_for me.0 r.log me.0.seen n.starts fit.seen r.meets, n.seen_own))

    abbrev Looked : St → ℕ → ℕ → Sat → Type 0
    Looked s slots id me =
        (w : View B) × (a : _) × Rattle.atomic_table.specs.Table.Valid s.homes me.1 a × Rule (stepped s 0 (get_or s.words 0 0) id me.1 w a)
        × looks tells (step slots 0 0 0 none) me (get_or s.words 0 0) (w, Rattle.atomic_table.specs.Table.carried_after me.1 a)

    look_at : (s : St) (r : Rule s) (slots id : ℕ) (me : Sat) → me.0.named ≡ true → IsAt s.views id me.0 → (t : Bool) → me.0.holds ≡ t → Looked s slots id me
    look_at s r slots id me named at true holds = let fit = r.fits id me.0 at in let n = fit.named named in let saw = holder_saw tells start s r id me.0 at holds in (
      me.0,
      keeps,
      tt,
      rule_still tells start s r id me at,
      (r.log, (λ k. (with_look (saw k) me.0, me.1)), half_word tells start s r, fit.seen, sym n.own, (λ _. sym saw), meets_for me.0 r.log r.log n.starts (front_self r.log) r.meets),
    )
    look_at s r slots id me named at false free = let v : View B = me.0 in let fit = r.fits id v at in let n = fit.named named in let w : View B = with_look r.log v in (
      w,
      keeps,
      tt,
      rule_unmoved tells start s id me.1 w (rule_set tells start s r id v w at free free (λ _. (named, refl)) (λ e has. has) (fits_seen tells start r.log r.made v r.log v.behind v.word v.holds named fit (front_self r.log) fit.behind (sym n.own))),
      (r.log, refl, half_word tells start s r, fit.seen, sym n.own, (λ holds. absurd (true≢false (sym holds ∙ free))), meets_for v r.log r.log n.starts (front_self r.log) r.meets),
    )

    pub looks_ok : (slots id : ℕ) (me : Sat) → me.0.named ≡ true → Allows Rule slots id me 0 (λ n. n) (looks tells (step slots 0 0 0 none) me)
    looks_ok slots id me named s r _ at _ = look_at s r slots id me named at me.0.holds refl

  -- a front of the list at the take is one of the longer list, and the entries of others stay
  fits_longer : (log more : List Entry) (made number : ℕ) (u : View B) → All (λ e. e.pass ≡ number) more → (u.named ≡ true → u.number ≢ number)
      → ((e : Joined) → Contains u.joined e → e.number ≢ number) → Fits start log made u → Fits start (log ++ more) made u
  fits_longer log more made number u all apart ended f = record {
    seen = front_on u.seen log more f.seen;
    behind = front_on u.behind log more f.behind;
    starts = f.starts;
    named = λ named. let n = f.named named in record {
      starts = n.starts;
      numbered = n.numbered;
      counts = n.counts;
      own = n.own ∙ sym (entries_stay number u.number log more all (apart named));
      seen_own = n.seen_own;
      joined = λ e has. let j = n.joined e has in (j.0, j.1, j.2 ∙ sym (entries_stay number e.number log more all (ended e has)));
    };
    nameless = f.nameless;
  }

  abbrev value_in : B → List (ℕ × Option B) → B
  value_in d [] = d
  value_in d (x ∷ xs) = unwrap_or x.1 d

  abbrev Left : St → ℕ → ℕ → Sat → ℕ → Type 0
  Left s slots id me new =
      (w : View B) × (a : _) × Rattle.atomic_table.specs.Table.Valid s.homes me.1 a × Rule (stepped s 0 new id me.1 w a)
      × leaves tells (step slots 0 new 0 none) me new (w, Rattle.atomic_table.specs.Table.carried_after me.1 a)

  leave_at : (s : St) (r : Rule s) (slots id : ℕ) (me : Sat) (value : B) (more : List Entry) (new : ℕ) → me.0.named ≡ true → me.0.holds ≡ true → IsAt s.views id me.0
      → me.1 ≡ (0, Some value) ∷ [] → tells.entries value ≡ r.log ++ more → All (λ e. e.pass ≡ me.0.number) more → tells.fixed value ≡ tells.fixed start
      → length (tells.entries value) < 2 ^ 62 → tells.meets (tells.fixed value) (tells.entries value) → new ≡ 2 * length (tells.entries value) → (t : IsTaken r.log s) → Left s slots id me new
  leave_at s r slots id me value more new named holds at has list all fixed few meets word t =
      let v : View B = me.0 in
      let number : ℕ = v.number in
      let log : List Entry = tells.entries value in
      let fit = r.fits id v at in
      let n = fit.named named in
      let w : View B = with_leave log (entries_of number log) v in
      let same : id ≡ t.place = t.holds.3 id v at holds in
      let passes = passes_set s.views id v w at (λ _. (named, refl)) in
      let names = joined_set s.views id w (λ e has. (id, v, at, has)) in
      let longer_fit : (u : View B) → Fits start (r.log ++ more) r.made u → Fits start log r.made u = λ u. subst (λ l. Fits start l r.made u) (sym list) in (
        w,
        gives,
        tt,
        record {
          log = log;
          made = r.made;
          few = few;
          meets = subst (λ part. tells.meets part log) fixed meets;
          turn = inl record {
            value = value;
            word = ap (λ ws. set ws 0 new) t.word ∙ ap (λ k. k ∷ []) word;
            home = (λ k. Rattle.atomic_table.specs.Table.put_back (t.home k) (has k));
            list = refl;
            fixed = fixed;
            none_holds = each_set (λ i u. u.holds ≡ false) s.views id w refl (λ i u other there. not_held u (λ held. other (t.holds.3 i u there held ∙ sym same)));
          };
          fits = each_set (λ i u. Fits start log r.made u) s.views id w
              record {
                seen = front_self log;
                behind = subst (λ l. IsFront v.behind l) (sym list) (front_on v.behind r.log more fit.behind);
                starts = fit.starts;
                named = λ _. record {
                  starts = n.starts;
                  numbered = n.numbered;
                  counts = n.counts;
                  own = refl;
                  seen_own = refl;
                  joined = λ e in_it. let j = n.joined e in_it in
                      (j.0, j.1, j.2 ∙ sym (ap (entries_of e.number) list ∙ entries_stay number e.number r.log more all (λ is. r.ended id id v v at at named e in_it (sym is))));
                };
                nameless = λ not. absurd (true≢false (sym named ∙ not));
              }
              (λ i u other there. longer_fit u (fits_longer r.log more r.made number u all
              (λ named_u is. other (r.apart i id u v there at named_u named is))
              (λ e in_it is. r.ended id i v u at there named e in_it (sym is)) (r.fits i u there)));
          apart = apart_of s.views (set s.views id w) passes r.apart;
          ended = ended_of s.views (set s.views id w) passes names r.ended;
          beyond = λ k past. ap (entries_of k) list ∙ entries_stay number k r.log more all (λ is. let b = n.numbered in omega arith) ∙ r.beyond k past;
        },
        λ value' has'. let v_is : value ≡ value' = ap (value_in value) (sym has ∙ has') in
            λ k. (with_leave (tells.entries (v_is k)) (entries_of number (tells.entries (v_is k))) v, Rattle.atomic_table.specs.Table.rest (has k)),
      )

  pub leaves_ok : (slots id : ℕ) (me : Sat) (value : B) (new : ℕ) → me.0.named ≡ true → me.0.holds ≡ true → me.1 ≡ (0, Some value) ∷ [] → Adds me.0.number me.0.seen (tells.entries value)
      → tells.fixed value ≡ tells.fixed start → length (tells.entries value) < 2 ^ 62 → tells.meets (tells.fixed value) (tells.entries value) → new ≡ 2 * length (tells.entries value)
      → Allows Rule slots id me 0 (λ _. new) (λ _. leaves tells (step slots 0 new 0 none) me new)
  leaves_ok slots id me value new named holds has adds fixed few meets word s r _ at _ =
      let saw = holder_saw tells start s r id me.0 at holds in
      ⊎_elim (λ (f : IsFree tells start r.log s). absurd (true≢false (sym holds ∙ f.none_holds id me.0 at)))
      (λ (t : IsTaken r.log s). leave_at s r slots id me value adds.0 new named holds at has (adds.1 ∙ ap (λ l. l ++ adds.0) saw) adds.2 fixed few meets word t) r.turn
