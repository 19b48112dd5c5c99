-- A session whose script and crew have room in their journal has no call of main that is refused since the journal is full.
use Rattle.std.proofs.Common.{◌≡◌, ℕ, zero, suc, ◌+◌, ◌*◌, ◌-◌, ◌≤◌, ◌<◌, cond, Bool, true, false, List, [], ◌∷◌, ◌++◌, map, length, ◌⊎◌, inl, inr, Some, refl, sym, ap, subst, ◌∙◌, arith}
use Rattle.std.specs.Prelude.{◌==◌, nat_lt, sum_by, flat_map}
use Rattle.std.proofs.lemmas.Bool.Decides.{nat_tests}
use Rattle.std.proofs.lemmas.List.Elements.{filter-append}
use Rattle.std.proofs.lemmas.List.Sums.{sum_by-cons, sum_by-append}
use Rattle.tl_model.specs.Media.{Library}
use Rattle.tl_model.specs.declared.journal.Act.{Act}
use Rattle.tl_model.specs.declared.journal.Entry.{Entry}
use Rattle.render_core.specs.Calls.{CallOf, calls_from, calls_of, own, own_calls}
use Rattle.render_core.specs.State.{State, start, owed}
use Rattle.render_core.specs.Step.{AreLegal, state_after}
use Rattle.render_core.proofs.Journals.{calls-append, legal_front, own_calls-others}
use Rattle.edit_desk.specs.Desk.{DeskOf, IsDesk, setup_of}
use Rattle.script_lang.specs.declared.script.BodyLine.{BodyLine}
use Rattle.play_head.specs.Carrying.{Carried, carried_calls}
use Rattle.play_head.specs.Playing.{Setting, Played, AreWhole}
use Rattle.play_head.specs.PlayingLine.{next_need}
use Rattle.timeline_app.specs.Course.{Halted, IsBegun, IsCrew, IsRefused, calls_by}
use Rattle.run_laws.specs.Room.{room, workers_in, call_count, wanted, is_work, is_export}
use Rattle.run_laws.proofs.Level.{call_cost, level, queued_count}
use Rattle.run_laws.proofs.Entries.{AreOfExports, EndsBack, EndsFree, IsOfExport, back_apart, back_more, own_exports, some_queued, spent, spent_after}
use Rattle.run_laws.proofs.Turns.{SpendsOnce, spent-cons, turns_front}
use Rattle.run_laws.proofs.Passes.{SpendsFew, all_to, crew_spends, spent_to}
use Rattle.run_laws.proofs.Lines.{Begins, begun_costs, line_room, played_costs}

-- ---- the lines

abbrev lines_room : List BodyLine → ℕ
lines_room body = sum_by (λ (line : BodyLine). line_room line.call) body

abbrev lines_in : {F : Type 0} → List (Played F) → List BodyLine
lines_in ps = map (λ p. p.line) ps

abbrev calls_in : {F : Type 0} → List (Played F) → List (CallOf F)
calls_in ps = flat_map (λ p. p.calls) ps

room_is : (workers : ℕ) (body : List BodyLine) → room workers body ≡ 1 + 2 * workers + lines_room body
room_is workers [] = omega arith
room_is workers (line ∷ body) =
    let rest = room_is workers body in
    let all = sum_by-cons (λ (l : BodyLine). line_room l.call) line body in
    let a = sum_by-cons (λ (l : BodyLine). call_count l.call) line body in
    let b = sum_by-cons (λ (l : BodyLine). wanted l.call) line body in
    let c = sum_by-cons (λ (l : BodyLine). cond {A = ℕ} (is_work l.call) 1 0) line body in
    let d = sum_by-cons (λ (l : BodyLine). cond {A = ℕ} (is_export l.call) 1 0) line body in
    omega (arith, rest, all, a, b, c, d)

module _ {F : Type 0} where
  spent-append : (xs ys : List (CallOf F)) → spent (xs ++ ys) ≡ spent xs + spent ys
  spent-append xs ys = sum_by-append (λ (c : CallOf F). call_cost c.act c.told) xs ys

  back_last : (xs ys : List (CallOf F)) → EndsBack ys → EndsBack (xs ++ ys)
  back_last [] ys h = h
  back_last (x ∷ xs) ys h = back_more x (xs ++ ys) (back_last xs ys h)

module _ {M K F : Type 0} (s : Setting M F) where
  lines_cost : (d : DeskOf M K) (before : List (CallOf F)) (ps : List (Played F)) → AreWhole s d before ps → spent (calls_in ps) ≤ lines_room (lines_in ps)
  lines_cost d before [] h = omega arith
  lines_cost d before (p ∷ ps) h =
      let one = played_costs s d before p p.line.call h.0.calls in
      let rest = lines_cost d (before ++ p.calls) ps h.1 in
      let parts = spent-append p.calls (calls_in ps) in
      let all = sum_by-cons (λ (l : BodyLine). line_room l.call) p.line (lines_in ps) in
      omega (arith, one, rest, parts, all)

-- ---- the exporter

carried_exports : (F : Type 0) (number : ℕ) (carried : List Carried) → AreOfExports (flat_map (carried_calls {F = F} number) carried)
carried_exports F number [] = tt
carried_exports F number (c ∷ carried) = (inl refl, (inr (c.export, c.ending, refl), carried_exports F number carried))

module _ {F : Type 0} where
  exports_front : (xs ys : List (CallOf F)) → AreOfExports (xs ++ ys) → AreOfExports xs
  exports_front [] ys h = tt
  exports_front (x ∷ xs) ys h = (h.0, exports_front xs ys h.1)

  export_cost : (call : CallOf F) → IsOfExport call.act → call_cost call.act call.told ≡ 0
  export_cost call (inl e) = ap (λ (what : Act). call_cost what call.told) e
  export_cost call (inr (export, why, e)) = ap (λ (what : Act). call_cost what call.told) e

  exports_cost : (calls : List (CallOf F)) → AreOfExports calls → spent calls ≡ 0
  exports_cost [] h = refl
  exports_cost (call ∷ calls) h =
      let one = export_cost call h.0 in
      let rest = exports_cost calls h.1 in
      let all = spent-cons call calls in
      omega (arith, one, rest, all)

-- ---- a front of a journal

nothing_first : {A : Type 0} (xs ys : List A) → xs ++ ys ≡ [] → xs ≡ []
nothing_first [] ys e = refl
nothing_first (x ∷ xs) ys e = absurd cc

total_of : (len owing queued all some : ℕ) → len + (owing + 2 * queued) ≤ 1 + all → all ≤ some → len + (owing + 2 * queued) ≤ 1 + some
total_of len owing queued all some a b = omega (arith, a, b)

module _ {M K F : Type 0} (library : M → Library F) (d : DeskOf M K) (others : ℕ) (early : List Carried) (known : IsDesk library d) (crew : IsCrew library d others early) where
  module _ (front rest : List Entry) (seen : d.seen ≡ front ++ rest) where
    abbrev there : State
    there = state_after (setup_of library d) front

    abbrev these : List (CallOf F)
    these = calls_of (setup_of library d) front

    abbrev later : List (CallOf F)
    later = calls_from (setup_of library d) (0 + length front) rest there

    parts : (n : ℕ) → own_calls n these ++ own_calls n later ≡ calls_by library d n
    parts n =
        sym (filter-append (λ (x : CallOf F). x.pass == n) these later)
        ∙ ap (own_calls n) (sym (ap (calls_of (setup_of library d)) seen ∙ calls-append (setup_of library d) 0 front rest start))

    legal : AreLegal (setup_of library d) 0 front start
    legal = legal_front (setup_of library d) 0 front rest start (subst (λ (es : List Entry). AreLegal (setup_of library d) 0 es start) seen known.legal)

    none_above : (n : ℕ) → others < n → own_calls n these ≡ []
    none_above n above =
        own_calls-others (setup_of library d) n 0 front start
        (nothing_first (own n front) (own n rest) (sym (filter-append (λ (x : Entry). x.pass == n) front rest) ∙ ap (own n) (sym seen) ∙ crew.few n above))

    exporter : AreOfExports (own_calls 1 these)
    exporter = exports_front (own_calls 1 these) (own_calls 1 later) (subst AreOfExports (sym (parts 1 ∙ crew.exporter)) (carried_exports F 1 early))

    workers : (n : ℕ) → 2 ≤ n → SpendsOnce (own_calls n these)
    workers n least =
        let worker = crew.workers n least in
        turns_front n worker.turns worker.are_turns (own_calls n these) (own_calls n later) (parts n ∙ worker.calls)

    pub spends : SpendsFew others these
    spends = crew_spends these (exports_cost (own_calls 1 these) exporter) workers others

    pub total : length front + level there ≤ 1 + spent_to others these
    total =
        total_of (length front) (owed there) (queued_count there) (spent these) (spent_to others these)
        (spent_after (setup_of library d) 0 front start legal) (all_to others these none_above)

    -- where main's last call and each worker's gave a job back while it was open, a job is queued
    pub gives_back : EndsBack (own_calls 0 these) → ((n : ℕ) → 2 ≤ n → n ≤ others → EndsBack (own_calls n these)) → 1 ≤ queued_count there
    gives_back main all = by_queued (some_queued (setup_of library d) 0 front start legal free)
      where
        free_by : (n : ℕ) → 2 ≤ n → (b : Bool) → nat_lt others n ≡ b → EndsFree (own_calls n these)
        free_by n least true t = inr (subst AreOfExports (sym (none_above n (grind (arith, nat_tests, t)))) tt)
        free_by n least false t = inl (all n least (grind (arith, nat_tests, t)))

        free : (n : ℕ) → EndsFree (own_calls n these)
        free zero = inl main
        free (suc zero) = inr exporter
        free (suc (suc n)) = free_by (suc (suc n)) (omega arith) (nat_lt others (suc (suc n))) refl

        by_queued : (1 ≤ queued_count there) ⊎ AreOfExports these → 1 ≤ queued_count there
        by_queued (inl some) = some
        by_queued (inr exports) = absurd (back_apart (own_calls 0 these) main (own_exports 0 these exports))

-- ---- a call that is refused

-- What comes together where a call is next: the entries so far, what is owed and how many jobs are queued then, what the calls of all
-- passes and those of main cost, how many workers there are, the room of the lines before, what the last line's calls cost, its room, and
-- what the next call needs.
record Count : Type 0 where
  len : ℕ
  owing : ℕ
  queued : ℕ
  all : ℕ
  main : ℕ
  crew : ℕ
  before : ℕ
  calls : ℕ
  line : ℕ
  needs : ℕ
  total : len + (owing + 2 * queued) ≤ 1 + all
  most : all ≤ main + 2 * crew
  mains : main ≤ before + calls

abbrev IsWithin : Count → Type 0
IsWithin c = c.len + c.owing + c.needs ≤ 1 + 2 * c.crew + (c.before + c.line)

within_line : (c : Count) → c.calls + c.needs ≤ c.line → IsWithin c
within_line c fits = let a = c.total in let b = c.most in let d = c.mains in omega (arith, a, b, d, fits)

within_crew : (c : Count) → 2 + c.all ≤ c.main + 2 * c.crew → c.calls ≤ c.line → c.needs ≤ 2 → IsWithin c
within_crew c fewer fits two = let a = c.total in let d = c.mains in omega (arith, a, d, fewer, fits, two)

within_queued : (c : Count) → 1 ≤ c.queued → c.calls ≤ c.line → c.needs ≤ 2 → IsWithin c
within_queued c some fits two = let a = c.total in let b = c.most in let d = c.mains in omega (arith, a, b, d, some, fits, two)

too_many : (c : Count) (limit room rest told told' : ℕ) → room ≡ 1 + 2 * c.crew + (c.before + (c.line + rest)) → room ≤ limit → IsWithin c
    → told ≡ c.len → told' ≡ c.owing → limit < told + told' + c.needs → ⊥
too_many c limit room rest told told' is fits within e f over = omega (arith, is, fits, within, e, f, over)

-- A session's lines that were played, and the one that stopped.
pub record HasStopped {M K F : Type 0} (s : Setting M F) (d : DeskOf M K) (others : ℕ) (body : List BodyLine) : Type 0 where
  pub known : IsDesk s.library d
  pub number : d.fixed.number ≡ 0
  pub early : List Carried
  pub crew : IsCrew s.library d others early
  pub played : List (Played F)
  pub last : Halted F
  pub rest : List BodyLine
  pub lines : body ≡ map (λ p. p.line) played ++ last.played.line ∷ rest
  pub whole : AreWhole s d [] played
  pub begun : IsBegun s d (Some last)
  pub fits : room (workers_in others) body ≤ d.fixed.limit

module _ {M K F : Type 0} (s : Setting M F) (d : DeskOf M K) (others : ℕ) (body : List BodyLine) (h : HasStopped s d others body) where
  all_room : room (others - 1) body ≡ 1 + 2 * (others - 1) + (lines_room (lines_in h.played) + (line_room h.last.played.line.call + lines_room h.rest))
  all_room =
      room_is (others - 1) body ∙ ap (λ (ls : List BodyLine). 1 + 2 * (others - 1) + lines_room ls) h.lines
      ∙ ap (λ (n : ℕ). 1 + 2 * (others - 1) + n) (sum_by-append (λ (l : BodyLine). line_room l.call) (lines_in h.played) (h.last.played.line ∷ h.rest)
      ∙ ap (λ (n : ℕ). lines_room (lines_in h.played) + n) (sum_by-cons (λ (l : BodyLine). line_room l.call) h.last.played.line h.rest))

  module _ (told : ℕ × ℕ) (r : IsRefused s d (calls_in h.played ++ h.last.played.calls) h.last.left told) where
    abbrev reached : State
    reached = there s.library d others h.early h.known h.crew r.front r.rest r.seen

    abbrev so_far : List (CallOf F)
    so_far = these s.library d others h.early h.known h.crew r.front r.rest r.seen

    mains : own_calls 0 so_far ≡ calls_in h.played ++ h.last.played.calls
    mains = subst (λ (n : ℕ). own_calls n so_far ≡ calls_in h.played ++ h.last.played.calls) h.number r.heard

    few : SpendsFew others so_far
    few = spends s.library d others h.early h.known h.crew r.front r.rest r.seen

    main_cost : spent (own_calls 0 so_far) ≤ lines_room (lines_in h.played) + spent h.last.played.calls
    main_cost =
        let is = ap spent mains ∙ spent-append (calls_in h.played) h.last.played.calls in
        let some = lines_cost s d [] h.played h.whole in
        omega (arith, is, some)

    abbrev count : Count
    count = record {
      len = length r.front;
      owing = owed reached;
      queued = queued_count reached;
      all = spent_to others so_far;
      main = spent (own_calls 0 so_far);
      crew = others - 1;
      before = lines_room (lines_in h.played);
      calls = spent h.last.played.calls;
      line = line_room h.last.played.line.call;
      needs = next_need h.last.left reached;
      total = total s.library d others h.early h.known h.crew r.front r.rest r.seen;
      most = few.most;
      mains = main_cost;
    }

    within : Begins h.last.played.calls h.last.left (line_room h.last.played.line.call) → IsWithin count
    within (inl fits) = within_line count (fits reached)
    within (inr (line, two, back)) = by_last few.last
      where
        by_last : (2 + count.all ≤ count.main + 2 * count.crew) ⊎ ((n : ℕ) → 2 ≤ n → n ≤ others → EndsBack (own_calls n so_far)) → IsWithin count
        by_last (inl fewer) = within_crew count fewer line (two reached)
        by_last (inr ended) =
            let back = subst EndsBack (sym mains) (back_last (calls_in h.played) h.last.played.calls back) in
            within_queued count (gives_back s.library d others h.early h.known h.crew r.front r.rest r.seen back ended) line (two reached)

    -- no call of main is refused after these
    pub not_refused : ⊥
    not_refused =
        let fits = within (begun_costs s d h.last.played h.last.played.line.call h.last.left h.begun.0) in
        too_many count d.fixed.limit (room (others - 1) body) (lines_room h.rest) told.0 told.1 all_room h.fits fits r.len r.owing r.full
