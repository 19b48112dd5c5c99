-- Lines of work.
use Rattle.std.proofs.Common.{◌≡◌, ℕ, ◌+◌, ◌<◌, ◌≤◌, cond, Bool, true, false, List, [], ◌∷◌, ◌++◌, length, map, Option, Some, None, Result, Ok, Err, ◌⊎◌, inl, inr, refl, sym, ap, subst, ◌∙◌, arith}
use Rattle.std.specs.Prelude.{IsTrue}
use Rattle.std.specs.List.{count_by, flat_map}
use Rattle.std.proofs.lemmas.List.Elements.{filter-append}
use Rattle.std.proofs.lemmas.List.Sums.{sum_by-cons}
use Rattle.tl_model.specs.Media.{Library}
use Rattle.tl_model.specs.declared.journal.Act.{Act}
use Rattle.tl_model.specs.declared.journal.Act.TheVariants as act
use Rattle.tl_model.specs.declared.segment.Segment.{Segment}
use Rattle.tl_ports.specs.Seen.{StoreSeen, SinkSeen}
use Rattle.render_core.specs.declared.reply.Full.{Full}
use Rattle.render_core.specs.declared.reply.Full.TheVariants as full
use Rattle.render_core.specs.Calls.{CallOf}
use Rattle.render_core.specs.State.{State}
use Rattle.render_core.specs.Step.{Reply, Edited, Wanted, Cancelled, PastEnd, Claimed, Filed, Released, Closed, Picture, Fault, Pending, Render, Asked, EmptyTimeline, Taken, Silent}
use Rattle.edit_desk.specs.Desk.{DeskOf, Hears, state_of, heard}
use Rattle.edit_desk.specs.Was.{Was}
use Rattle.edit_desk.proofs.Heard.{hears_on}
use Rattle.edit_desk.proofs.Times.{was_now}
use Rattle.edl_text.specs.declared.fault.EdlFault.{EdlFault}
use Rattle.script_lang.specs.declared.out_line.OutLine.{OutLine}
use Rattle.script_lang.specs.declared.out_line.OutLine.TheVariants as out
use Rattle.script_lang.specs.declared.script.BodyLine.{BodyLine}
use Rattle.script_lang.specs.declared.script.Call.{Call}
use Rattle.script_lang.specs.declared.script.Call.TheVariants as call
use Rattle.script_lang.specs.Line.{fields, is_listed, line_text}
use Rattle.play_head.specs.declared.halt.Halt.{Halt}
use Rattle.play_head.specs.declared.halt.Halt.TheVariants as halt
use Rattle.play_head.specs.declared.work.Worked.{Worked}
use Rattle.play_head.specs.Halting.{halt_for}
use Rattle.play_head.specs.Marking.{EndsWork, Marks, RefusesMark, MarksAndSays, SaysWork}
use Rattle.play_head.specs.Playing.{Setting, Player, Played, HasTurns, HasReason, player, is_kept, kept, mark_call, act_line, lines_of, rows_given, rows_of}
use Rattle.play_head.specs.PlayingLine.{PutsAll, PutsSome, Lasts, StopsLine, PlaysLine, output_of, texts}
use Rattle.play_head.specs.Putting.{IsFront, GotAll, GotFront}
use Rattle.play_head.specs.Saying.{Speaks, RefusedBy, place}
use Rattle.play_head.specs.Work.{Turn, turn_calls, turns_calls, is_filed, filed_count, IsEndReply, IsTurn, AreTurns, EndsReleased, IsIdle}
use Rattle.play_head.specs.Working.{HearsAct, HasCause, Works}
use Rattle.play_head.proofs.Desks.{number-hears}
use Rattle.play_head.proofs.Pieces.{got_nothing, front_nothing}

pub worked-listed : (count : ℕ) → IsTrue (is_listed (out.Worked count))
unfolding fields
worked-listed count = refl

-- ---- the calls of turns put nothing

abbrev pub AreEach : {F : Type 0} → List (Turn F) → Type 0
AreEach [] = Unit {0}
AreEach (turn ∷ turns) = IsTurn turn × AreEach turns

each_turn : {F : Type 0} (turns : List (Turn F)) → AreTurns turns → AreEach turns
each_turn [] h = tt
each_turn (t ∷ []) h = (h, tt)
each_turn (t ∷ u ∷ us) h = (h.0, each_turn (u ∷ us) h.2)

end-kept : (what : Act) (job : ℕ) → (what ≡ act.File job) ⊎ (what ≡ act.Release job) → is_kept what ≡ false
end-kept what job (inl e) = ap is_kept e
end-kept what job (inr e) = ap is_kept e

turns-kept : {F : Type 0} (number : ℕ) (turns : List (Turn F)) → AreEach turns → kept (turns_calls number turns) ≡ []
turns-kept number [] h = refl
turns-kept {F} number (t ∷ ts) h =
    let end : CallOf F = record { pass = number; act = t.end; told = t.told } in
    ap (λ (b : Bool). cond b (end ∷ kept (turns_calls number ts)) (kept (turns_calls number ts))) (end-kept t.end t.job h.0.0) ∙ turns-kept number ts h.1

turns-filed : {F : Type 0} (number : ℕ) (turns : List (Turn F)) → count_by (λ (c : CallOf F). is_filed c.told) (turns_calls number turns) ≡ filed_count turns
turns-filed number [] = refl
turns-filed {F} number (t ∷ ts) =
    let claim : CallOf F = record { pass = number; act = act.Claim; told = Claimed t.job t.recipe } in
    let end : CallOf F = record { pass = number; act = t.end; told = t.told } in
    let rest : List (CallOf F) = turns_calls number ts in
    let weigh : CallOf F → ℕ = λ c. cond (is_filed c.told) 1 0 in
    let one : ℕ = cond (is_filed t.told) 1 0 in
    let a : count_by (λ (c : CallOf F). is_filed c.told) (claim ∷ end ∷ rest) ≡ 0 + count_by (λ (c : CallOf F). is_filed c.told) (end ∷ rest) = sum_by-cons weigh claim (end ∷ rest) in
    let b : count_by (λ (c : CallOf F). is_filed c.told) (end ∷ rest) ≡ one + count_by (λ (c : CallOf F). is_filed c.told) rest = sum_by-cons weigh end rest in
    let c : filed_count (t ∷ ts) ≡ one + filed_count ts = sum_by-cons (λ (x : Turn F). cond (is_filed x.told) 1 0) t ts in
    let d : count_by (λ (c : CallOf F). is_filed c.told) rest ≡ filed_count ts = turns-filed number ts in
    omega (arith, a, b, c, d)

work-filed : {F : Type 0} (number turns : ℕ) (done : List (Turn F)) → count_by (λ (c : CallOf F). is_filed c.told) (mark_call number turns ∷ turns_calls number done) ≡ filed_count done
work-filed {F} number turns done =
    let a : count_by (λ (c : CallOf F). is_filed c.told) (mark_call number turns ∷ turns_calls number done) ≡ 0 + count_by (λ (c : CallOf F). is_filed c.told) (turns_calls number done) = sum_by-cons (λ (c : CallOf F). cond (is_filed c.told) 1 0) (mark_call number turns) (turns_calls number done) in
    let d = turns-filed number done in
    omega (arith, a, d)

-- the one line of a line of work
work-lines : {F : Type 0} (lib : Library F) (line : BodyLine) (list : Result (List Segment) EdlFault) (number turns : ℕ) (done : List (Turn F)) → AreEach done → lines_of lib (record { line = line; list = list; calls = mark_call number turns ∷ turns_calls number done }) ≡ out.Worked (filed_count done) ∷ []
work-lines {F} lib line list number turns done h =
    let p : Played F = record { line = line; list = list; calls = mark_call number turns ∷ turns_calls number done } in
    ap (λ (cs : List (CallOf F)). act_line lib p (act.Mark turns) Silent ∷ map (λ (c : CallOf F). act_line lib p c.act c.told) cs) (turns-kept number done h)
    ∙ ap (λ (n : ℕ). out.Worked n ∷ []) (work-filed number turns done)

all_front : (pieces : List (List ℕ)) → IsFront pieces pieces
all_front [] = tt
all_front (p ∷ ps) = inl (refl, all_front ps)

pub got_front : (tells : Bool) (old new : SinkSeen) (pieces : List (List ℕ)) → GotAll tells old new pieces → GotFront tells old new pieces
got_front tells old new pieces h = λ t. (pieces, h t, all_front pieces)

module _ {M F : Type 0} (s : Setting M F) (lib : Library F) where
  end-rows : (told : Reply F) → IsEndReply told → rows_given s lib told ≡ []
  end-rows Filed h = refl
  end-rows Released h = refl
  end-rows (Closed at) h = refl
  end-rows (Edited reply) h = absurd h
  end-rows (Wanted count) h = absurd h
  end-rows (Cancelled count) h = absurd h
  end-rows (PastEnd len) h = absurd h
  end-rows (Claimed job recipe) h = absurd h
  end-rows (Picture frame) h = absurd h
  end-rows (Fault why) h = absurd h
  end-rows (Pending recipe) h = absurd h
  end-rows (Render recipe) h = absurd h
  end-rows (Asked export) h = absurd h
  end-rows EmptyTimeline h = absurd h
  end-rows (Taken export name line) h = absurd h
  end-rows Silent h = absurd h

  turns-rows : (number : ℕ) (turns : List (Turn F)) → AreEach turns → flat_map (λ (c : CallOf F). rows_given s lib c.told) (turns_calls number turns) ≡ []
  turns-rows number [] h = refl
  turns-rows number (t ∷ ts) h =
      ap (λ (rs : List (List ℕ)). rs ++ flat_map (λ (c : CallOf F). rows_given s lib c.told) (turns_calls number ts)) (end-rows t.told h.0.1) ∙ turns-rows number ts h.1

-- ---- what a line of work heard

module _ {M K F : Type 0} (library : M → Library F) where
  pub marked : (old mid new : DeskOf M K) (turns : ℕ) (worked : Worked) → HearsAct library old mid (act.Mark turns) Silent → Works library mid new turns worked → Marks library old new turns worked
  marked old mid new turns worked h w = record {
    done = w.done;
    hears = hears_on library old mid new (mark_call old.fixed.number turns ∷ []) (turns_calls old.fixed.number w.done) h
        (subst (λ (n : ℕ). Hears library mid new (turns_calls n w.done)) (number-hears library old mid (mark_call old.fixed.number turns ∷ []) h) w.hears);
    are_turns = w.are_turns;
    filed = w.filed;
    few = w.few;
    cause = w.cause;
  }

-- ---- a line of work

module _ {M K F : Type 0} (s : Setting M F) (desk now : DeskOf M K) (store : StoreSeen) (screen before after : SinkSeen) (n turns : ℕ) where
  abbrev Plays : Result Unit Halt → Type 0
  Plays r = PlaysLine s (player desk store screen before) (player now store screen after) (record { n = n; call = call.Work turns }) r

  lasts_by : before.faults ≤ after.faults → Lasts (player desk store screen before) (player now store screen after)
  lasts_by h = record { files = refl; store = omega arith; screen = omega arith; out = h }

  abbrev unmarked_played : Played F
  unmarked_played = record { line = record { n = n; call = call.Work turns }; list = Ok []; calls = [] }

  -- the mark wasn't made, and nothing was put
  unmarked : (why : Halt) → Hears s.library desk now [] → after ≡ before → StopsLine s (player desk store screen before) (player now store screen after) (unmarked_played, act.Mark turns ∷ []) why → Plays (Err why)
  unmarked why h same stops = (
    record { played = unmarked_played; is = refl; left = act.Mark turns ∷ []; begun = inl (refl, refl); list = inl refl; hears = h; stops = stops },
    lasts_by (let e = ap (λ (o : SinkSeen). o.faults) same in omega (arith, e)),
  )

  nothing_put : after ≡ before → GotAll s.tells.out before after []
  nothing_put same = subst (λ (o : SinkSeen). GotAll s.tells.out before o []) (sym same) (got_nothing s.tells.out before)

  refused : (why : Full) → RefusedBy s.library (place desk before) (place now after) (act.Mark turns) why → Plays (Err (halt_for why))
  refused full.NoMemory h =
      let all = nothing_put h.1 in
      unmarked halt.NoMemory h.0.0 h.1 (inl ((got_front s.tells.out before after [] all, front_nothing s.tells.screen screen []), all))
  refused (full.JournalFull len owing) h =
      unmarked (halt.JournalFull len owing) h.0.0 h.1 ((nothing_put h.1, got_nothing s.tells.screen screen), h.0.1)

  module _ (worked : Worked) (m : Marks s.library desk now turns worked) where
    abbrev lib : Library F
    lib = s.library desk.fixed.library

    abbrev calls : List (CallOf F)
    calls = mark_call desk.fixed.number turns ∷ turns_calls desk.fixed.number m.done

    abbrev the_played : Played F
    the_played = record { line = record { n = n; call = call.Work turns }; list = Ok []; calls = calls }

    has_turns : HasTurns now.fixed.number turns calls m.done
    has_turns = subst (λ (k : ℕ). HasTurns k turns calls m.done) (sym (number-hears s.library desk now calls m.hears)) (record { is = refl; are_turns = m.are_turns; few = m.few })

    the_lines : (filed : ℕ) → filed ≡ filed_count m.done → (line_text (out.Worked filed) ∷ []) ≡ texts (lines_of lib the_played)
    the_lines filed e =
        ap (λ (k : ℕ). line_text (out.Worked k) ∷ []) e
        ∙ ap texts (sym (work-lines lib (record { n = n; call = call.Work turns }) (Ok []) desk.fixed.number turns m.done (each_turn m.done m.are_turns)))

    lines_all : GotAll s.tells.out before after (line_text (out.Worked worked.filed) ∷ []) → GotAll s.tells.out before after (texts (lines_of lib the_played))
    lines_all h = subst (GotAll s.tells.out before after) (the_lines worked.filed m.filed) h

    lines_front : GotFront s.tells.out before after (line_text (out.Worked worked.filed) ∷ []) → GotFront s.tells.out before after (texts (lines_of lib the_played))
    lines_front h = subst (GotFront s.tells.out before after) (the_lines worked.filed m.filed) h

    rows_all : GotAll s.tells.screen screen screen (rows_of s lib the_played)
    rows_all = subst (GotAll s.tells.screen screen screen) (sym (turns-rows s lib desk.fixed.number m.done (each_turn m.done m.are_turns))) (got_nothing s.tells.screen screen)

    rows_front : GotFront s.tells.screen screen screen (rows_of s lib the_played)
    rows_front = front_nothing s.tells.screen screen (rows_of s lib the_played)

    was : (fact : State → Type 0) → fact (state_of s.library now) → Was s.library now (heard s.library desk ++ calls) fact
    was fact h = subst (λ (cs : List (CallOf F)). Was s.library now cs fact) m.hears.heard (was_now s.library now fact h)

    reason : HasCause s.library now turns m.done None → HasReason s now (heard s.library desk ++ calls) turns m.done
    reason (inl h) = inl h
    reason (inr (inl h)) = inr (inl h)
    reason (inr (inr (inl h))) = inr (inr (inl (was IsIdle h)))
    reason (inr (inr (inr h))) = inr (inr (inr (was (λ (state : State). IsTrue state.is_stopped) h)))

    cause_of : (why : Option Full) → worked.refused ≡ why → HasCause s.library now turns m.done why
    cause_of why e = subst (HasCause s.library now turns m.done) e m.cause

    ends : (r : Result Unit Halt) → EndsWork s.tells.out before after worked r → Plays r
    ends (Ok done) h = (
      record {
        played = the_played;
        is = refl;
        whole = record { calls = (m.done, has_turns, reason (cause_of None h.0)); list = tt };
        hears = m.hears;
        puts = (lines_all h.1.0, rows_all);
      },
      lasts_by (let e = h.1.1 in omega (arith, e)),
    )
    ends (Err halt.Out) h = (
      record {
        played = the_played;
        is = refl;
        left = [];
        begun = inr (m.done, has_turns, inl refl);
        list = inr tt;
        hears = m.hears;
        stops = ((lines_front h.0, rows_front), h.1);
      },
      lasts_by h.2,
    )
    ends (Err halt.OutMemory) h = (
      record {
        played = the_played;
        is = refl;
        left = [];
        begun = inr (m.done, has_turns, inl refl);
        list = inr tt;
        hears = m.hears;
        stops = (lines_front h.0, rows_front);
      },
      lasts_by (let e = h.1 in omega (arith, e)),
    )
    ends (Err halt.NoMemory) h =
        let cause = cause_of (Some full.NoMemory) h.0 in
        let all = lines_all h.1.0 in (
          record {
            played = the_played;
            is = refl;
            left = act.Claim ∷ [];
            begun = inr (m.done, has_turns, inr (cause.0, refl));
            list = inr tt;
            hears = m.hears;
            stops = inl ((got_front s.tells.out before after (texts (lines_of lib the_played)) all, rows_front), all);
          },
          lasts_by (let e = h.1.1 in omega (arith, e)),
        )
    ends (Err (halt.JournalFull len owing)) h =
        let cause = cause_of (Some (full.JournalFull len owing)) h.0 in (
          record {
            played = the_played;
            is = refl;
            left = act.Claim ∷ [];
            begun = inr (m.done, has_turns, inr (cause.0, refl));
            list = inr tt;
            hears = m.hears;
            stops = ((lines_all h.1.0, rows_all), cause.1);
          },
          lasts_by (let e = h.1.1 in omega (arith, e)),
        )
    ends (Err (halt.Store fault)) h = absurd h
    ends (Err halt.Screen) h = absurd h

  work_at : (r : Result Unit Halt) → SaysWork s.library s.tells.out (place desk before) (place now after) (turns, r) → Plays r
  work_at r (inl h) = subst Plays (sym h.is) (refused h.why h.refused)
  work_at r (inr h) = ends h.worked h.marks r h.says

-- what a line of work does is what its line is to do
pub work_plays : {M K F : Type 0} (s : Setting M F) (desk now : DeskOf M K) (store : StoreSeen) (screen before after : SinkSeen) (line : BodyLine) (turns : ℕ) (r : Result Unit Halt) → line.call ≡ call.Work turns → SaysWork s.library s.tells.out (place desk before) (place now after) (turns, r) → PlaysLine s (player desk store screen before) (player now store screen after) line r
work_plays s desk now store screen before after line turns r e h =
    subst (λ (l : BodyLine). PlaysLine s (player desk store screen before) (player now store screen after) l r) (sym (ap (λ (c : Call). record line { call = c }) e))
    (work_at s desk now store screen before after line.n turns r h)
