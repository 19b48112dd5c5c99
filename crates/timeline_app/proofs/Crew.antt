-- The crew of a journal: nobody, or an exporter and workers that were joined.
use Rattle.std.proofs.Common.{◌≡◌, ℕ, ◌+◌, ◌≤◌, cond, Bool, true, List, [], ◌∷◌, ◌++◌, length, refl, sym, ap, ◌∙◌, arith}
use Rattle.std.specs.Prelude.{◌==◌}
use Rattle.std.proofs.lemmas.Bool.Decides.{nat_tests}
use Rattle.std.proofs.lemmas.List.{append-nil, append_cancel_left}
use Rattle.std.proofs.lemmas.List.Elements.{filter-append}
use Rattle.tl_model.specs.Media.{Library}
use Rattle.tl_model.specs.declared.journal.Entry.{Entry}
use Rattle.render_core.specs.Calls.{CallOf, calls_from, calls_of, own, own_calls}
use Rattle.render_core.specs.State.{start}
use Rattle.render_core.specs.Step.{Setup, state_after}
use Rattle.render_core.proofs.Journals.{calls-append, own_calls-others}
use Rattle.edit_desk.specs.Desk.{DeskOf, Learns, setup_of}
use Rattle.play_head.specs.Work.{Turn, AreEnded, AreTurns, IsTurn}
use Rattle.timeline_app.specs.Course.{IsCrew}
use Rattle.timeline_app.proofs.Entered.{others_none}

pub learns_nothing : {M K : Type 0} (d : DeskOf M K) → Learns d d
learns_nothing d = record { fixed = refl; others = []; apart = refl; seen = sym (append-nil d.seen) }

-- ---- the entries of one pass, in two parts

nothing_second : {A : Type 0} (xs ys : List A) → xs ++ ys ≡ [] → ys ≡ []
nothing_second [] ys e = e
nothing_second (x ∷ xs) ys e = absurd cc

pub own_rest : (number : ℕ) (front rest : List Entry) → own number (front ++ rest) ≡ [] → own number rest ≡ []
own_rest number front rest e = nothing_second (own number front) (own number rest) (sym (filter-append (λ (x : Entry). x.pass == number) front rest) ∙ e)

-- what a pass had seen that ended has all its entries
pub own_after : (number : ℕ) (front rest : List Entry) → own number (front ++ rest) ≡ own number front → own number rest ≡ []
own_after number front rest e =
    append_cancel_left (own number front) (own number rest) []
    (sym (filter-append (λ (x : Entry). x.pass == number) front rest) ∙ e ∙ sym (append-nil (own number front)))

-- and so all its calls, with what each was told
pub calls_there : {F : Type 0} (setup : Setup F) (number : ℕ) (front rest : List Entry) → own number (front ++ rest) ≡ own number front → own_calls number (calls_of setup (front ++ rest)) ≡ own_calls number (calls_of setup front)
calls_there {F} setup number front rest e =
    let more = calls_from setup (0 + length front) rest (state_after setup front) in
    ap (own_calls number) (calls-append setup 0 front rest start)
    ∙ filter-append (λ (x : CallOf F). x.pass == number) (calls_of setup front) more
    ∙ ap (λ (cs : List (CallOf F)). own_calls number (calls_of setup front) ++ cs)
    (own_calls-others setup number (0 + length front) rest (state_after setup front) (own_after number front rest e))
    ∙ append-nil (own_calls number (calls_of setup front))

same_number : (n : ℕ) → (n == n) ≡ true
same_number n = grind (arith, nat_tests)

-- entries of which none is of any pass
pub nothing_more : (rest : List Entry) → ((number : ℕ) → own number rest ≡ []) → rest ≡ []
nothing_more [] h = refl
nothing_more (e ∷ rest) h =
    let found : e ∷ own e.pass rest ≡ [] = sym (ap (λ (b : Bool). cond b (e ∷ own e.pass rest) (own e.pass rest)) (same_number e.pass)) ∙ h e.pass in
    absurd cc

-- ---- turns of work

pub ended_turns : {F : Type 0} (turns : List (Turn F)) → AreEnded turns → AreTurns turns
ended_turns [] h = tt
ended_turns (turn ∷ []) h = h.0
ended_turns (turn ∷ next ∷ turns) h = (h.0, h.1, ended_turns (next ∷ turns) h.2)

-- a last turn may be given back
pub ended_then : {F : Type 0} (turns : List (Turn F)) (last : Turn F) → AreEnded turns → IsTurn last → AreTurns (turns ++ last ∷ [])
ended_then [] last h k = k
ended_then (turn ∷ []) last h k = (h.0, h.1, k)
ended_then (turn ∷ next ∷ turns) last h k = (h.0, h.1, ended_then (next ∷ turns) last h.2 k)

-- ---- nobody

module _ {M K F : Type 0} (library : M → Library F) (d : DeskOf M K) (others : ℕ) (alone : own 0 d.seen ≡ d.seen) where
  none_of : (number : ℕ) → 1 ≤ number → own number d.seen ≡ []
  none_of number le = others_none 0 number d.seen (λ e. omega (arith, le, e)) alone

  no_calls : (number : ℕ) → 1 ≤ number → own_calls number (calls_of (setup_of library d) d.seen) ≡ []
  no_calls number le = own_calls-others (setup_of library d) number 0 d.seen start (none_of number le)

  -- where all entries are main's
  pub no_crew : IsCrew library d others []
  no_crew = record {
    exporter = no_calls 1 (omega arith);
    workers = λ number le. record { turns = []; are_turns = tt; calls = no_calls number (omega (arith, le)) };
    few = λ number le. none_of number (omega (arith, le));
  }
