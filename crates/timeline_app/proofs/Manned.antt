-- One journal of several passes: main's script, the exporter and the workers.
use Rattle.std.proofs.Common.{◌≡◌, ℕ, zero, suc, ◌+◌, false, List, [], ◌∷◌, ◌++◌, length, map, None, refl, sym, ap, subst, ◌∙◌, arith, true≢false}
use Rattle.std.specs.Prelude.{◌==◌}
use Rattle.std.specs.List.{flat_map, position}
use Rattle.std.proofs.lemmas.Bool.Decides.{nat_tests}
use Rattle.std.proofs.lemmas.List.{append-nil, append_assoc, append_cancel_left}
use Rattle.std.proofs.lemmas.List.Concat.{flat_map-append}
use Rattle.std.proofs.lemmas.List.Elements.{filter-append}
use Rattle.tl_model.specs.Media.{Library}
use Rattle.tl_model.specs.declared.journal.Entry.{Entry}
use Rattle.render_core.specs.Calls.{CallOf, calls_from, calls_of, entry_of, own, own_calls}
use Rattle.render_core.specs.Export.{is_untaken}
use Rattle.render_core.specs.State.{State, start}
use Rattle.render_core.specs.Step.{IsJournal, after, state_after}
use Rattle.render_core.proofs.Journals.{after_rest, calls-append, legal_front, legal_rest, own_calls-others}
use Rattle.edit_desk.specs.Desk.{DeskOf, IsDesk, heard, setup_of, state_of}
use Rattle.edit_desk.proofs.Holding.{HasNone}
use Rattle.play_head.specs.Carrying.{carried_calls}
use Rattle.timeline_app.specs.Course.{Course, IsCrew, all_carried, calls_by, course_calls, script_calls, stop_call}
use Rattle.timeline_app.proofs.Among.{Carries, Each, IsQuiet, carried_each, carrying_calls, each-append, each_front, each_pass, each_rest, each_so, filter_same, flat_filter, none_carrying, turns_quiet}
use Rattle.timeline_app.proofs.AskedNames.{asked_names, is_carrying, names_of}
use Rattle.timeline_app.proofs.Entered.{all_answered, entries_are}
use Rattle.timeline_app.proofs.Exports.{EndsAll, HasEnded, Reaches, Stands, ends_all, none_left, reaches}
use Rattle.timeline_app.proofs.Files.{names_carried}
use Rattle.timeline_app.proofs.Kept.{IsApart}

-- A legal journal of main, number 0, and its crew. Main made the calls of a course: by the front of the journal that it had seen when
-- the exporter had ended, those of the script and the stop, and after it those of the exports that were left. Then none is left that
-- nobody took.
pub record IsManned {M K F : Type 0} (library : M → Library F) (d : DeskOf M K) (others : ℕ) (c : Course F) : Type 0 where
  pub known : IsDesk library d
  pub number : d.fixed.number ≡ 0
  pub front : List Entry
  pub rest : List Entry
  pub seen : d.seen ≡ front ++ rest
  pub before : heard library (record d { seen = front }) ≡ script_calls c ++ stop_call ∷ []
  pub over : own 1 rest ≡ []
  pub calls : heard library d ≡ course_calls c
  pub crew : IsCrew library d others c.early
  pub script : HasNone IsApart (script_calls c)
  pub done : position is_untaken (state_of library d).exports ≡ None

nothing_asked : {F : Type 0} (calls : List (CallOf F)) → Each (λ (x : CallOf F). asked_names x ≡ []) calls → flat_map asked_names calls ≡ []
nothing_asked [] h = refl
nothing_asked (x ∷ calls) h = ap (λ (ns : List (List ℕ)). ns ++ flat_map asked_names calls) h.0 ∙ nothing_asked calls h.1

each_trivial : {F : Type 0} (P : CallOf F → Type 0) (calls : List (CallOf F)) → ((x : CallOf F) → P x) → Each P calls
each_trivial P [] h = tt
each_trivial P (x ∷ calls) h = (h x, each_trivial P calls h)

apart_main : (n : ℕ) → (suc n == 0) ≡ false
apart_main n = grind (arith, nat_tests)

apart_exporter : (n : ℕ) → (suc (suc n) == 1) ≡ false
apart_exporter n = grind (arith, nat_tests)

module _ {M K F : Type 0} (library : M → Library F) (d : DeskOf M K) (others : ℕ) (c : Course F) (a : IsManned library d others c) where
  -- the journal's calls, up to the exporter's end and after it
  abbrev pub first_calls : List (CallOf F)
  first_calls = calls_from (setup_of library d) 0 a.front start

  abbrev between : State
  between = after (setup_of library d) 0 a.front start

  abbrev pub then_calls : List (CallOf F)
  then_calls = calls_from (setup_of library d) (0 + length a.front) a.rest between

  pub all_calls : calls_of (setup_of library d) d.seen ≡ first_calls ++ then_calls
  all_calls = ap (calls_of (setup_of library d)) a.seen ∙ calls-append (setup_of library d) 0 a.front a.rest start

  own_halves : (n : ℕ) → own_calls n first_calls ++ own_calls n then_calls ≡ calls_by library d n
  own_halves n = sym (filter-append (λ (x : CallOf F). x.pass == n) first_calls then_calls) ∙ ap (own_calls n) (sym all_calls)

  main_first : own_calls 0 first_calls ≡ script_calls c ++ stop_call ∷ []
  main_first = subst (λ (n : ℕ). own_calls n first_calls ≡ script_calls c ++ stop_call ∷ []) a.number a.before

  main_all : calls_by library d 0 ≡ course_calls c
  main_all = subst (λ (n : ℕ). calls_by library d n ≡ course_calls c) a.number a.calls

  main_then : own_calls 0 then_calls ≡ flat_map (carried_calls 0) c.late
  main_then =
      append_cancel_left (script_calls c ++ stop_call ∷ []) (own_calls 0 then_calls) (flat_map (carried_calls 0) c.late)
      (ap (λ (cs : List (CallOf F)). cs ++ own_calls 0 then_calls) (sym main_first) ∙ own_halves 0 ∙ main_all
      ∙ sym (append_assoc (script_calls c) (stop_call ∷ []) (flat_map (carried_calls 0) c.late)))

  exporter_then : own_calls 1 then_calls ≡ []
  exporter_then = own_calls-others (setup_of library d) 1 (0 + length a.front) a.rest between a.over

  exporter_first : own_calls 1 first_calls ≡ flat_map (carried_calls 1) c.early
  exporter_first =
      sym (append-nil (own_calls 1 first_calls)) ∙ ap (λ (cs : List (CallOf F)). own_calls 1 first_calls ++ cs) (sym exporter_then)
      ∙ own_halves 1 ∙ a.crew.exporter

  others_quiet : (n : ℕ) → Each IsQuiet (own_calls (suc (suc n)) first_calls ++ own_calls (suc (suc n)) then_calls)
  others_quiet n =
      let worker = a.crew.workers (suc (suc n)) (omega arith) in
      subst (Each IsQuiet) (sym (own_halves (suc (suc n)) ∙ worker.calls)) (turns_quiet (suc (suc n)) worker.turns worker.are_turns)

  quiet_first : (n : ℕ) → Each IsQuiet (own_calls (suc (suc n)) first_calls)
  quiet_first n = each_front IsQuiet (own_calls (suc (suc n)) first_calls) (own_calls (suc (suc n)) then_calls) (others_quiet n)

  quiet_then : (n : ℕ) → Each IsQuiet (own_calls (suc (suc n)) then_calls)
  quiet_then n = each_rest IsQuiet (own_calls (suc (suc n)) first_calls) (own_calls (suc (suc n)) then_calls) (others_quiet n)

  -- ---- who carries exports out

  abbrev CarriesBy : ℕ → ℕ → CallOf F → Type 0
  CarriesBy by n x = is_carrying x.act ≡ (n == by)

  first_by : (n : ℕ) → Each (CarriesBy 1 n) (own_calls n first_calls)
  first_by zero =
      subst (Each (CarriesBy 1 0)) (sym main_first)
      (each-append (CarriesBy 1 0) (script_calls c) (stop_call ∷ []) (none_carrying (script_calls c) a.script) (refl, tt))
  first_by (suc zero) =
      subst (Each (CarriesBy 1 1)) (sym exporter_first) (each_so Carries (CarriesBy 1 1) (flat_map (carried_calls 1) c.early) (λ x h. h.0) (carried_each F 1 c.early))
  first_by (suc (suc n)) =
      each_so IsQuiet (CarriesBy 1 (suc (suc n))) (own_calls (suc (suc n)) first_calls) (λ x h. h.0 ∙ sym (apart_exporter n)) (quiet_first n)

  then_by : (n : ℕ) → Each (CarriesBy 0 n) (own_calls n then_calls)
  then_by zero =
      subst (Each (CarriesBy 0 0)) (sym main_then) (each_so Carries (CarriesBy 0 0) (flat_map (carried_calls 0) c.late) (λ x h. h.0) (carried_each F 0 c.late))
  then_by (suc zero) = subst (Each (CarriesBy 0 1)) (sym exporter_then) tt
  then_by (suc (suc n)) =
      each_so IsQuiet (CarriesBy 0 (suc (suc n))) (own_calls (suc (suc n)) then_calls) (λ x h. h.0 ∙ sym (apart_main (suc n))) (quiet_then n)

  pub first_carrying : carrying_calls first_calls ≡ flat_map (carried_calls 1) c.early
  first_carrying =
      filter_same (λ (x : CallOf F). is_carrying x.act) (λ (x : CallOf F). x.pass == 1) first_calls (each_pass (CarriesBy 1) first_calls first_by) ∙ exporter_first

  pub then_carrying : carrying_calls then_calls ≡ flat_map (carried_calls 0) c.late
  then_carrying =
      filter_same (λ (x : CallOf F). is_carrying x.act) (λ (x : CallOf F). x.pass == 0) then_calls (each_pass (CarriesBy 0) then_calls then_by) ∙ main_then

  -- ---- who asks for exports

  abbrev AsksMain : ℕ → CallOf F → Type 0
  AsksMain n x = (n == 0) ≡ false → asked_names x ≡ []

  first_asks : (n : ℕ) → Each (AsksMain n) (own_calls n first_calls)
  first_asks zero = each_trivial (AsksMain 0) (own_calls 0 first_calls) (λ x e. absurd (true≢false e))
  first_asks (suc zero) =
      subst (Each (AsksMain 1)) (sym exporter_first) (each_so Carries (AsksMain 1) (flat_map (carried_calls 1) c.early) (λ x h e. h.1) (carried_each F 1 c.early))
  first_asks (suc (suc n)) = each_so IsQuiet (AsksMain (suc (suc n))) (own_calls (suc (suc n)) first_calls) (λ x h e. h.1) (quiet_first n)

  then_asks : (n : ℕ) → Each (AsksMain n) (own_calls n then_calls)
  then_asks zero = each_trivial (AsksMain 0) (own_calls 0 then_calls) (λ x e. absurd (true≢false e))
  then_asks (suc zero) = subst (Each (AsksMain 1)) (sym exporter_then) tt
  then_asks (suc (suc n)) = each_so IsQuiet (AsksMain (suc (suc n))) (own_calls (suc (suc n)) then_calls) (λ x h e. h.1) (quiet_then n)

  asked_first : flat_map asked_names first_calls ≡ flat_map asked_names (script_calls c)
  asked_first =
      flat_filter (λ (x : CallOf F). x.pass == 0) asked_names first_calls (each_pass AsksMain first_calls first_asks)
      ∙ ap (flat_map asked_names) main_first
      ∙ flat_map-append asked_names (script_calls c) (stop_call ∷ [])
      ∙ append-nil (flat_map asked_names (script_calls c))

  asked_then : flat_map asked_names then_calls ≡ []
  asked_then =
      flat_filter (λ (x : CallOf F). x.pass == 0) asked_names then_calls (each_pass AsksMain then_calls then_asks)
      ∙ ap (flat_map asked_names) main_then
      ∙ nothing_asked (flat_map (carried_calls 0) c.late) (each_so Carries (λ (x : CallOf F). asked_names x ≡ []) (flat_map (carried_calls 0) c.late) (λ x h. h.1) (carried_each F 0 c.late))

  -- ---- the exports

  legal_halves : IsJournal (setup_of library d) (a.front ++ a.rest)
  legal_halves = subst (IsJournal (setup_of library d)) a.seen a.known.legal

  none_yet : Stands 1 (record { ended = []; now = None; left = [] }) start
  none_yet = record { exports = refl; untaken = tt; numbers = tt }

  first_ends : EndsAll 1 [] [] c.early (flat_map asked_names first_calls) between
  first_ends =
      subst (λ (es : List Entry). EndsAll 1 [] [] c.early (flat_map asked_names first_calls) (after (setup_of library d) 0 es start)) (entries_are (setup_of library d) 0 a.front start)
      (ends_all (setup_of library d) 1 0 first_calls start [] [] c.early none_yet
      (all_answered (setup_of library d) 0 a.front start (legal_front (setup_of library d) 0 a.front a.rest start legal_halves)) first_carrying)

  last_state : after (setup_of library d) (0 + length a.front) (map entry_of then_calls) between ≡ state_of library d
  last_state =
      ap (λ (es : List Entry). after (setup_of library d) (0 + length a.front) es between) (entries_are (setup_of library d) (0 + length a.front) a.rest between)
      ∙ sym (after_rest (setup_of library d) 0 a.front a.rest start)
      ∙ sym (ap (state_after (setup_of library d)) a.seen)

  last_ends : EndsAll 0 c.early first_ends.over c.late (flat_map asked_names then_calls) (state_of library d)
  last_ends =
      subst (EndsAll 0 c.early first_ends.over c.late (flat_map asked_names then_calls)) last_state
      (ends_all (setup_of library d) 0 (0 + length a.front) then_calls between c.early first_ends.over c.late
      (record { exports = first_ends.stands.exports; untaken = first_ends.stands.untaken; numbers = first_ends.stands.numbers })
      (all_answered (setup_of library d) (0 + length a.front) a.rest between (legal_rest (setup_of library d) 0 a.front a.rest start legal_halves)) then_carrying)

  -- the exports that were asked for are those that the exporter and main carried out, in order
  pub has_exports : HasEnded (all_carried c) (flat_map asked_names (script_calls c)) (state_of library d)
  has_exports =
      none_left 0 (all_carried c) last_ends.over (flat_map asked_names (script_calls c)) (state_of library d) last_ends.stands
      (sym asked_first ∙ first_ends.names ∙ sym (append-nil (names_carried c.early ++ names_of first_ends.over))
      ∙ ap (λ (ns : List (List ℕ)). (names_carried c.early ++ names_of first_ends.over) ++ ns) (sym asked_then) ∙ last_ends.names) a.done

  -- At each front up to the exporter's end its calls so far are those of the exports that stand as ended, and at most one take; the
  -- exports are these, the one that it took, and those that nobody took, in the order of the asks so far.
  pub stands_at : (front rest : List Entry) → a.front ≡ front ++ rest
      → Reaches {F = F} 1 (record { ended = []; now = None; left = [] }) c.early (flat_map asked_names (calls_of (setup_of library d) front))
      (carrying_calls (calls_from (setup_of library d) (0 + length front) rest (state_after (setup_of library d) front))) (state_after (setup_of library d) front)
  stands_at front rest e =
      let setup = setup_of library d in
      let there = state_after setup front in
      let more = calls_from setup (0 + length front) rest there in
      let parts : first_calls ≡ calls_of setup front ++ more = ap (λ (es : List Entry). calls_from setup 0 es start) e ∙ calls-append setup 0 front rest start in
      let carrying : carrying_calls (calls_of setup front) ++ carrying_calls more ≡ flat_map (carried_calls 1) c.early =
      sym (filter-append (λ (x : CallOf F). is_carrying x.act) (calls_of setup front) more) ∙ ap carrying_calls (sym parts) ∙ first_carrying in
      let all : IsJournal setup (front ++ rest) = subst (IsJournal setup) e (legal_front setup 0 a.front a.rest start legal_halves) in
      subst (λ (es : List Entry). Reaches {F = F} 1 (record { ended = []; now = None; left = [] }) c.early (flat_map asked_names (calls_of setup front)) (carrying_calls more) (after setup 0 es start)) (entries_are setup 0 front start)
      (reaches setup 1 0 (calls_of setup front) (carrying_calls more) start (record { ended = []; now = None; left = [] }) c.early none_yet (all_answered setup 0 front start (legal_front setup 0 front rest start all)) carrying)
