-- From a pass to the board that it entered with, and back.
use Rattle.std.proofs.Common.{◌≡◌, ℕ, ◌*◌, true, false, List, [], ◌∷◌, ◌++◌, length, refl, sym, ap, subst, ◌∙◌}
use Rattle.tl_model.specs.Media.{Library}
use Rattle.tl_model.specs.declared.journal.Entry.{Entry}
use Rattle.turn_lock.specs.declared.pass.Held.{Held}
use Rattle.turn_lock.specs.Entering.{entered_by}
use Rattle.turn_lock.specs.Entries.{entries_of, IsFront, Adds}
use Rattle.turn_lock.specs.Passes.{TurnOf, PassOf, IsOf, HasTaken, HasLeft}
use Rattle.turn_lock.proofs.Fronts.{entries-append}
use Rattle.render_core.specs.Board.{BoardOf}
use Rattle.edit_desk.specs.Alone.{at_board, desk_of}
use Rattle.edit_desk.specs.Desk.{FixedOf, DeskOf, Learns, IsDesk}
use Rattle.studio.specs.Grows.{Grows}
use Rattle.studio.specs.Known.{KeptOf, kept_by, desk_at, Knows, Holds}

no_more : (xs ys : List Entry) → xs ++ ys ≡ xs → ys ≡ []
no_more [] ys e = e
no_more (x ∷ xs) ys e = let tail : xs ++ ys ≡ xs = cc in no_more xs ys tail

-- where a front has all entries of a number, none are in the rest
none_in_rest : (number : ℕ) (front rest log own : List Entry) → log ≡ front ++ rest → entries_of number front ≡ own → entries_of number log ≡ own → entries_of number rest ≡ []
none_in_rest number front rest log own is f l =
    no_more (entries_of number front) (entries_of number rest) (sym (entries-append number front rest) ∙ ap (entries_of number) (sym is) ∙ l ∙ sym f)

module _ {M F : Type 0} (library : M → Library F) (studio : TurnOf (BoardOf M)) where
  -- the board as the pass's desk
  pub board_is : (pass : PassOf (BoardOf M)) (b : BoardOf M) → (desk_of b).fixed ≡ (desk_of studio.start).fixed → b.journal ≡ pass.seen → at_board pass.number (kept_by studio pass) b ≡ desk_at studio pass
  board_is pass b f j =
      ap (λ (x : FixedOf M (Unit {0})). record (desk_at studio pass) { fixed = record (desk_at studio pass).fixed { library = x.library; cache = x.cache; limit = x.limit }; seen = b.journal }) f
      ∙ ap (λ (es : List Entry). record (desk_at studio pass) { seen = es }) j

  -- a journal that meets the test under the start is known
  pub is_known : (pass : PassOf (BoardOf M)) → IsDesk library (record { fixed = (desk_of studio.start).fixed; seen = pass.seen }) → IsDesk library (desk_at studio pass)
  is_known pass m = record { legal = m.legal; within = m.within; few = m.few }

  -- what a pass learns where its list alone grew
  pub learns_seen : (old new : PassOf (BoardOf M)) → (desk_at studio new).fixed ≡ (desk_at studio old).fixed → IsFront old.seen new.seen → entries_of old.number old.seen ≡ old.own → entries_of old.number new.seen ≡ old.own → Learns (desk_at studio old) (desk_at studio new)
  learns_seen old new same front saw own = record {
    fixed = same;
    others = front.0;
    apart = none_in_rest old.number old.seen front.0 new.seen old.own front.1 saw own;
    seen = front.1;
  }

  -- what a pass that has entered can ask of the board
  pub asks_at : (Asks : DeskOf M (KeptOf M) → Type 0) (by : ℕ) (pass : PassOf (BoardOf M)) (held : Held (BoardOf M)) → Holds library studio pass held → by ≡ pass.number → Asks (desk_at studio pass) → (kept : KeptOf M) × Asks (at_board by kept held.value)
  asks_at Asks by pass held h n asks = (
    kept_by studio pass,
    subst Asks (sym (ap (λ (k : ℕ). at_board k (kept_by studio pass) held.value) n ∙ board_is pass held.value h.fixed h.journal)) asks,
  )

  pub adds_at : (by : ℕ) (pass : PassOf (BoardOf M)) (held : Held (BoardOf M)) (b : BoardOf M) → Holds library studio pass held → by ≡ pass.number → Grows by held.value b → Adds pass.number pass.seen b.journal
  adds_at by pass held b h n g =
      subst (λ (es : List Entry). Adds pass.number es b.journal) h.journal (subst (λ (k : ℕ). Adds k held.value.journal b.journal) n g.adds)

  pub fixed_at : (by : ℕ) (pass : PassOf (BoardOf M)) (held : Held (BoardOf M)) (b : BoardOf M) → Holds library studio pass held → Grows by held.value b → (desk_of b).fixed ≡ (desk_of studio.start).fixed
  fixed_at by pass held b h g = g.fixed ∙ h.fixed

  -- what is told of the board is told of the pass that left
  pub told_at : (Told : DeskOf M (KeptOf M) → DeskOf M (KeptOf M) → Type 0) (by : ℕ) (pass new : PassOf (BoardOf M)) (held : Held (BoardOf M)) (b : BoardOf M) → Holds library studio pass held → by ≡ pass.number → Grows by held.value b → HasLeft pass new b.journal
      → ((kept : KeptOf M) → Told (at_board by kept held.value) (at_board by kept b)) → Told (desk_at studio pass) (desk_at studio new)
  told_at Told by pass new held b h n g left told =
      let kept = kept_by studio pass in
      let gone : PassOf (BoardOf M) = record pass { seen = b.journal; own = entries_of pass.number b.journal; holds = false } in
      let before = ap (λ (k : ℕ). at_board k kept held.value) n ∙ board_is pass held.value h.fixed h.journal in
      let after = ap (λ (k : ℕ). at_board k kept b) n ∙ board_is gone b (g.fixed ∙ h.fixed) refl ∙ ap (desk_at studio) (sym left) in
      subst (λ (d : DeskOf M (KeptOf M)). Told d (desk_at studio new)) before (subst (Told (at_board by kept held.value)) after (told kept))

  pub knows_at : (pass new : PassOf (BoardOf M)) (held : Held (BoardOf M)) (log : List Entry) → Holds library studio pass held → HasLeft pass new log → IsDesk library (record { fixed = (desk_of studio.start).fixed; seen = new.seen }) → Knows library studio new
  knows_at pass new held log h left meets = record {
    is_of = subst (λ (p : PassOf (BoardOf M)). IsOf studio p) (sym left) h.is_of;
    free = ap (λ (p : PassOf (BoardOf M)). p.holds) left;
    own = subst (λ (p : PassOf (BoardOf M)). entries_of p.number p.seen ≡ p.own) (sym left) refl;
    known = is_known new meets;
  }

  -- the pass that has entered, from the one before
  pub holds_at : (old new : PassOf (BoardOf M)) (held : Held (BoardOf M)) → Knows library studio old → HasTaken old new held.value.journal → entered_by held ≡ new → entries_of old.number held.value.journal ≡ old.own
      → (desk_of held.value).fixed ≡ (desk_of studio.start).fixed → IsDesk library (record { fixed = (desk_of studio.start).fixed; seen = new.seen }) → Holds library studio new held
  holds_at old new held knows taken entered own fixed meets = record {
    is_of = subst (λ (p : PassOf (BoardOf M)). IsOf studio p) (sym taken) knows.is_of;
    holds = ap (λ (p : PassOf (BoardOf M)). p.holds) taken;
    entered = entered;
    own = subst (λ (p : PassOf (BoardOf M)). entries_of p.number p.seen ≡ p.own) (sym taken) own;
    known = is_known new meets;
    journal = sym (ap (λ (p : PassOf (BoardOf M)). p.seen) taken);
    fixed = fixed;
  }

  pub learns_at : (old new : PassOf (BoardOf M)) (held : Held (BoardOf M)) → Knows library studio old → HasTaken old new held.value.journal → IsFront old.seen held.value.journal → entries_of old.number held.value.journal ≡ old.own → Learns (desk_at studio old) (desk_at studio new)
  learns_at old new held knows taken front own =
      let P : PassOf (BoardOf M) → Type 0 = λ p. Learns (desk_at studio old) (desk_at studio p) in
      subst P (sym taken) (learns_seen old (record old { seen = held.value.journal; word = 2 * length held.value.journal; holds = true }) refl front knows.own own)
