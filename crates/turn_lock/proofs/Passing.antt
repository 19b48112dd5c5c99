-- Splits and joins, of passes and of notes, keep the rule of the turn.
use Rattle.std.proofs.Common.{◌≡◌, ℕ, ◌+◌, ◌<◌, ◌≤◌, ◌≢◌, true, false, ltb, List, [], ◌∷◌, ◌++◌, length, set, Contains, Option, sym, refl, ap, ◌∙◌, subst, ⊎_elim, true≢false, arith}
use Rattle.std.proofs.lemmas.List.Elements.{Contains-append_cases}
use Rattle.atomic_table.specs.Table.{State, Me, Splits, Joins}
use Rattle.atomic_table.proofs.Lists.{set_again, set_here, set_else}
use Rattle.tl_model.specs.declared.journal.Entry.{Entry}
use Rattle.turn_lock.specs.declared.view.Joined.{Joined}
use Rattle.turn_lock.specs.declared.view.View.{View}
use Rattle.turn_lock.specs.Entries.{entries_of, IsFront, longer, shorter}
use Rattle.turn_lock.specs.Views.{as_joined, split_from, split_off, note_of, with_seen, with_joined, spent}
use Rattle.turn_lock.specs.Rule.{Telling, IsAt, Fits, IsTurn}
use Rattle.turn_lock.proofs.Fronts.{either_front, entries_front_none, entries-longer}
use Rattle.turn_lock.proofs.Places.{at_inside, same_at, contains_none, each_set, each_end, ArePassesOf, apart_of, ended_of, passes_set, joined_set, contains_first_or, apart_end, ended_end, holder_set, holder_end, holder_then}
use Rattle.turn_lock.proofs.Rules.{shown, one_up, named_or, turn_shown, rule_set, rule_end, fits_seen}

module _ {B : Type 0} (tells : Telling B) (start : B) where
  abbrev St : Type 0
  St = State (Option B) (View B)

  abbrev Sat : Type 0
  Sat = Me (Option B) (View B)

  abbrev Rule : St → Type 0
  Rule = IsTurn tells start

  -- a note
  pub notes_ok : (id : ℕ) (v : View B) → v.named ≡ true → v.holds ≡ false → Splits Rule id v v (note_of v)
  notes_ok id v named free s r at = let fit = r.fits id v at in let n = fit.named named in
      subst (λ views. Rule (shown s (views ++ note_of v ∷ []))) (sym (set_again s.views id v at))
      (rule_end tells start s r (note_of v) refl refl refl record {
        seen = fit.seen;
        behind = (r.log, refl);
        starts = fit.starts;
        named = λ is. absurd (true≢false (sym is));
        nameless = λ _. (refl, refl, refl);
      })

  -- the number of a pass that was joined is that of one that was made
  ended_number : (s : St) (r : Rule s) (i : ℕ) (u : View B) → IsAt s.views i u → (e : Joined) → Contains u.joined e → (number : ℕ) → r.made < number → number ≡ e.number → ⊥
  ended_number s r i u there e has number past is = ⊎_elim (λ (named : u.named ≡ true). let low = (((r.fits i u there).named named).joined e has).1 in absurd (omega arith))
      (λ (nameless : u.named ≡ false). contains_none e u.joined ((r.fits i u there).nameless nameless).2 has) (named_or u.named)

  -- what a pass names after a join
  joined_both : (v w : View B) (P : Joined → Type 0) → ((e : Joined) → Contains v.joined e → P e) → ((e : Joined) → Contains w.joined e → P e) → P (as_joined w)
      → (e : Joined) → Contains (with_joined v w).joined e → P e
  joined_both v w P old new one e has = ⊎_elim (old e)
      (λ (h : Contains (as_joined w ∷ w.joined) e). ⊎_elim (λ (is : as_joined w ≡ e). subst P is one) (new e) (contains_first_or (as_joined w) e w.joined h))
      (Contains-append_cases v.joined (as_joined w ∷ w.joined) e has)

  -- a pass that pass 0 makes
  split_fits : (log : List Entry) (made : ℕ) (u : View B) → (u.named ≡ true → u.number ≢ 0) → Fits start log made u → Fits start log (made + 1) u
  split_fits log made u not_main f = record {
    seen = f.seen;
    behind = f.behind;
    starts = f.starts;
    named = λ named. let n = f.named named in record {
      starts = n.starts;
      numbered = let b = n.numbered in omega arith;
      counts = λ is. absurd (not_main named is);
      own = n.own;
      seen_own = n.seen_own;
      joined = λ e has. let j = n.joined e has in let b = j.1 in (j.0, omega arith, j.2);
    };
    nameless = f.nameless;
  }

  pub splits_ok : (id : ℕ) (v : View B) → v.named ≡ true → v.holds ≡ false → v.number ≡ 0 → Splits Rule id v (split_from v) (split_off v)
  splits_ok id v named free main s r at =
      let fit = r.fits id v at in
      let n = fit.named named in
      let makes : v.made ≡ r.made = n.counts main in
      let first : List (View B) = set s.views id (split_from v) in
      let all : List (View B) = first ++ split_off v ∷ [] in
      let same = holder_then s.views first all (holder_set s.views id v (split_from v) at free free) (holder_end first (split_off v) refl) in
      let passes = passes_set s.views id v (split_from v) at (λ _. (named, refl)) in
      let names = joined_set s.views id (split_from v) (λ e has. (id, v, at, has)) in
      let low : (i : ℕ) (u : View B) → IsAt first i u → u.named ≡ true → u.number ≤ r.made = each_set (λ i u. u.named ≡ true → u.number ≤ r.made) s.views id (split_from v)
      (λ _. n.numbered) (λ i u _ there named_u. ((r.fits i u there).named named_u).numbered) in
      let ended_low : (j : ℕ) (u : View B) → IsAt first j u → (e : Joined) → Contains u.joined e → v.made + 1 ≢ e.number = λ j u there e has is.
      let from = names j u there e has in ended_number s r from.0 from.1 from.2 e from.3 (v.made + 1) (omega arith) is in
      record {
        log = r.log;
        made = r.made + 1;
        few = r.few;
        meets = r.meets;
        turn = turn_shown tells start s r.log all same r.turn;
        fits = each_end (λ i u. Fits start r.log (r.made + 1) u) first (split_off v)
            record {
              seen = fit.seen;
              behind = (r.log, refl);
              starts = fit.starts;
              named = λ _. record {
                starts = n.starts;
                numbered = omega arith;
                counts = λ is. absurd (omega arith);
                own = sym (r.beyond (v.made + 1) (omega arith));
                seen_own = entries_front_none (v.made + 1) v.seen r.log fit.seen (r.beyond (v.made + 1) (omega arith));
                joined = λ e has. absurd (contains_none e [] refl has);
              };
              nameless = λ not. absurd (true≢false (sym named ∙ not));
            }
            (each_set (λ i u. Fits start r.log (r.made + 1) u) s.views id (split_from v)
            record {
              seen = fit.seen;
              behind = fit.behind;
              starts = fit.starts;
              named = λ _. record {
                starts = n.starts;
                numbered = let b = n.numbered in omega arith;
                counts = λ _. ap (λ k. k + 1) makes;
                own = n.own;
                seen_own = n.seen_own;
                joined = λ e has. let j = n.joined e has in let b = j.1 in (j.0, omega arith, j.2);
              };
              nameless = λ not. absurd (true≢false (sym named ∙ not));
            }
            (λ i u other there. split_fits r.log r.made u (λ named_u is. other (r.apart i id u v there at named_u named (is ∙ sym main))) (r.fits i u there)));
        apart = apart_end first (split_off v) (apart_of s.views first passes r.apart) (λ i u there named_u is. let b = low i u there named_u in omega arith);
        ended = ended_end first (split_off v) (ended_of s.views first passes names r.ended) refl ended_low;
        beyond = λ k past. r.beyond k (omega arith);
      }

  spent_fits : (log : List Entry) (made : ℕ) → Fits start log made spent
  spent_fits log made = record {
    seen = (log, refl);
    behind = (log, refl);
    starts = tt;
    named = λ is. absurd (true≢false (sym is));
    nameless = λ _. (refl, refl, refl);
  }

  -- of two fronts the longer has all of a pass's entries
  saw_own : (log : List Entry) (v w : View B) → v.mine ≡ entries_of v.number log → entries_of v.number v.seen ≡ v.mine → IsFront v.seen log → IsFront w.seen log → entries_of v.number (longer v.seen w.seen) ≡ v.mine
  saw_own log v w own saw front front' =
      entries-longer v.number v.seen w.seen log (either_front w.seen v.seen log (ltb (length v.seen) (length w.seen)) front' front)
      (either_front v.seen w.seen log (ltb (length v.seen) (length w.seen)) front front') (saw ∙ own) ∙ sym own

  pub takes_note_ok : (id : ℕ) (v : View B) (other : ℕ) (w : View B) → v.named ≡ true → v.holds ≡ false → w.named ≡ false → Joins Rule id v other w (with_seen v w) spent
  takes_note_ok id v other w named free nameless s r at apart there =
      let there' : IsAt s.views other w = sym (set_else s.views id other (with_seen v w) apart) ∙ there in
      let fit = r.fits id v at in
      let fit_w = r.fits other w there' in
      let free_w = fit_w.nameless nameless in
      let first = rule_set tells start s r id v (with_seen v w) at free free (λ _. (named, refl)) (λ e has. has)
      (fits_seen tells start r.log r.made v (longer v.seen w.seen) (shorter v.seen w.seen) v.word v.holds named fit
      (either_front w.seen v.seen r.log (ltb (length v.seen) (length w.seen)) fit_w.seen fit.seen) (either_front v.seen w.seen r.log (ltb (length v.seen) (length w.seen)) fit.seen fit_w.seen) (saw_own r.log v w (fit.named named).own (fit.named named).seen_own fit.seen fit_w.seen)) in
      rule_set tells start (shown s (set s.views id (with_seen v w))) first other w spent there free_w.0 refl (λ is. absurd (true≢false (sym is))) (λ e has. absurd (contains_none e [] refl has)) (spent_fits first.log first.made)

  pub joins_ok : (id : ℕ) (v : View B) (other : ℕ) (w : View B) → v.named ≡ true → v.holds ≡ false → w.named ≡ true → w.holds ≡ false → w.number ≢ 0 → Joins Rule id v other w (with_joined v w) spent
  joins_ok id v other w named free named_w free_w not_main s r at apart there =
      let both : View B = with_joined v w in
      let there' : IsAt s.views other w = sym (set_else s.views id other both apart) ∙ there in
      let fit = r.fits id v at in
      let fit_w = r.fits other w there' in
      let n = fit.named named in
      let m = fit_w.named named_w in
      let first : List (View B) = set s.views id both in
      let all : List (View B) = set first other spent in
      let same = holder_then s.views first all (holder_set s.views id v both at free free) (holder_set first other w spent there free_w refl) in
      let passes : ArePassesOf s.views all = λ i u at_i named_u. each_set (λ i u. u.named ≡ true → (x : View B) × IsAt s.views i x × (x.named ≡ true) × (u.number ≡ x.number)) first other spent
      (λ is. absurd (true≢false (sym is))) (λ i u _ t. passes_set s.views id v both at (λ _. (named, refl)) i u t) i u at_i named_u in
      record {
        log = r.log;
        made = r.made;
        few = r.few;
        meets = r.meets;
        turn = turn_shown tells start s r.log all same r.turn;
        fits = each_set (λ i u. Fits start r.log r.made u) first other spent (spent_fits r.log r.made) (λ i u _ t. each_set (λ i u. Fits start r.log r.made u) s.views id both
            record {
              seen = either_front w.seen v.seen r.log (ltb (length v.seen) (length w.seen)) fit_w.seen fit.seen;
              behind = either_front v.seen w.seen r.log (ltb (length v.seen) (length w.seen)) fit.seen fit_w.seen;
              starts = fit.starts;
              named = λ _. record {
                starts = n.starts;
                numbered = n.numbered;
                counts = n.counts;
                own = n.own;
                seen_own = saw_own r.log v w n.own n.seen_own fit.seen fit_w.seen;
                joined = λ e has. joined_both v w (λ e. (1 ≤ e.number) × (e.number ≤ r.made) × (e.own ≡ entries_of e.number r.log)) n.joined m.joined (one_up w.number not_main, m.numbered, m.own) e has;
              };
              nameless = λ not. absurd (true≢false (sym named ∙ not));
            }
            (λ i u _ t. r.fits i u t) i u t);
        apart = apart_of s.views all passes r.apart;
        ended = λ i j u x at_i at_j named_u e has is.
            let p = passes i u at_i named_u in
            let elsewhere : i ≢ other = λ here. let spent_is : spent ≡ u = same_at all other spent u (set_here first other spent (at_inside first other w there)) (subst (λ k. IsAt all k u) here at_i) in
            true≢false (sym named_u ∙ ap (λ (y : View B). y.named) (sym spent_is)) in
            let q = each_set (λ j x. (e : Joined) → Contains x.joined e → p.0.number ≢ e.number) first other spent (λ e has. absurd (contains_none e [] refl has))
            (λ j x _ t. each_set (λ j x. (e : Joined) → Contains x.joined e → p.0.number ≢ e.number) s.views id both
            (joined_both v w (λ e. p.0.number ≢ e.number) (λ e has. r.ended i id p.0 v p.1 at p.2 e has) (λ e has. r.ended i other p.0 w p.1 there' p.2 e has) (λ same_number. elsewhere (r.apart i other p.0 w p.1 there' p.2 named_w same_number)))
            (λ j x _ t e has. r.ended i j p.0 x p.1 t p.2 e has) j x t) in
            q j x at_j e has (sym p.3 ∙ is);
        beyond = r.beyond;
      }
