-- A line whose calls have a line of output each.
use Rattle.std.proofs.Common.{◌≡◌, ℕ, ◌≤◌, Bool, true, cond, List, [], ◌∷◌, ◌++◌, map, Result, Ok, Err, ◌⊎◌, inl, inr, refl, sym, ap, subst, ◌∙◌, arith}
use Rattle.std.specs.List.{flat_map}
use Rattle.std.proofs.lemmas.List.{append-nil}
use Rattle.tl_model.specs.Media.{Library}
use Rattle.tl_model.specs.declared.journal.Act.{Act}
use Rattle.tl_model.specs.declared.journal.Act.TheVariants as act
use Rattle.tl_model.specs.declared.segment.Segment.{Segment}
use Rattle.tl_ports.specs.Seen.{StoreSeen}
use Rattle.edl_text.specs.declared.fault.EdlFault.{EdlFault}
use Rattle.render_core.specs.Calls.{CallOf}
use Rattle.render_core.specs.Step.{Reply, Edited, Wanted, Cancelled, PastEnd, Claimed, Filed, Released, Closed, Picture, Fault, Pending, Render, Asked, EmptyTimeline, Taken, Silent}
use Rattle.edit_desk.specs.Desk.{DeskOf, heard}
use Rattle.script_lang.specs.declared.out_line.OutLine.{OutLine}
use Rattle.script_lang.specs.declared.script.BodyLine.{BodyLine}
use Rattle.script_lang.specs.declared.script.Call.{Call}
use Rattle.script_lang.specs.declared.script.Call.TheVariants as call
use Rattle.play_head.specs.declared.halt.Halt.{Halt}
use Rattle.play_head.specs.declared.halt.Halt.TheVariants as halt
use Rattle.play_head.specs.Acts.{line_acts}
use Rattle.play_head.specs.Playing.{Setting, Player, Played, is_kept, kept, acts_of, ReadsList, HasCalls, HasSomeCalls, act_line, lines_of, rows_given, rows_of}
use Rattle.play_head.specs.PlayingActs.{Manner, Scene, IsSaid, IsAnswer, AllSpoken, PlaysActs, GivesAll, GivesSome, HasNoRoom, StopsActs, told_rows, call_line, calls_output}
use Rattle.play_head.specs.PlayingLine.{Output, texts, output_of, PutsAll, PutsSome, Lasts, StopsLine, PlaysLine}
use Rattle.play_head.specs.Putting.{GotAll, GotFront}
use Rattle.play_head.specs.Told.{line_of, frame_of}

said_kept : (a : Act) → IsSaid a → is_kept a ≡ true
said_kept (act.Edit edit) h = refl
said_kept act.Undo h = refl
said_kept act.Redo h = refl
said_kept (act.Want first len) h = refl
said_kept (act.Cancel first len) h = refl
said_kept act.Claim h = absurd h
said_kept (act.File job) h = absurd h
said_kept (act.Release job) h = absurd h
said_kept (act.Play n) h = refl
said_kept (act.Show n) h = refl
said_kept (act.Ask name) h = refl
said_kept act.Take h = absurd h
said_kept (act.End export ending) h = absurd h
said_kept (act.Mark turns) h = absurd h
said_kept act.Skip h = absurd h
said_kept act.Stop h = absurd h

answer_line : {F : Type 0} (lib : Library F) (n filed : ℕ) (told : Reply F) → IsAnswer told → line_of lib n filed told ≡ line_of lib n 0 told
answer_line lib n filed (Edited reply) h = refl
answer_line lib n filed (Wanted count) h = refl
answer_line lib n filed (Cancelled count) h = refl
answer_line lib n filed (PastEnd len) h = refl
answer_line lib n filed (Claimed job recipe) h = absurd h
answer_line lib n filed Filed h = absurd h
answer_line lib n filed Released h = absurd h
answer_line lib n filed (Closed at) h = absurd h
answer_line lib n filed (Picture frame) h = refl
answer_line lib n filed (Fault why) h = refl
answer_line lib n filed (Pending recipe) h = refl
answer_line lib n filed (Render recipe) h = refl
answer_line lib n filed (Asked export) h = refl
answer_line lib n filed EmptyTimeline h = refl
answer_line lib n filed (Taken export name line) h = absurd h
answer_line lib n filed Silent h = absurd h

said_line : {F : Type 0} (lib : Library F) (p : Played F) (a : Act) (told : Reply F) → IsSaid a → IsAnswer told → act_line lib p a told ≡ line_of lib (frame_of a) 0 told
said_line lib p (act.Edit edit) told h k = answer_line lib _ _ told k
said_line lib p act.Undo told h k = answer_line lib _ _ told k
said_line lib p act.Redo told h k = answer_line lib _ _ told k
said_line lib p (act.Want first len) told h k = answer_line lib _ _ told k
said_line lib p (act.Cancel first len) told h k = answer_line lib _ _ told k
said_line lib p act.Claim told h k = absurd h
said_line lib p (act.File job) told h k = absurd h
said_line lib p (act.Release job) told h k = absurd h
said_line lib p (act.Play n) told h k = answer_line lib _ _ told k
said_line lib p (act.Show n) told h k = answer_line lib _ _ told k
said_line lib p (act.Ask name) told h k = answer_line lib _ _ told k
said_line lib p act.Take told h k = absurd h
said_line lib p (act.End export ending) told h k = absurd h
said_line lib p (act.Mark turns) told h k = absurd h
said_line lib p act.Skip told h k = absurd h
said_line lib p act.Stop told h k = absurd h

given_rows : {M F : Type 0} (s : Setting M F) (lib : Library F) (told : Reply F) → rows_given s lib told ≡ told_rows s.rows lib told
given_rows s lib (Edited reply) = refl
given_rows s lib (Wanted count) = refl
given_rows s lib (Cancelled count) = refl
given_rows s lib (PastEnd len) = refl
given_rows s lib (Claimed job recipe) = refl
given_rows s lib Filed = refl
given_rows s lib Released = refl
given_rows s lib (Closed at) = refl
given_rows s lib (Picture frame) = refl
given_rows s lib (Fault why) = refl
given_rows s lib (Pending recipe) = refl
given_rows s lib (Render recipe) = refl
given_rows s lib (Asked export) = refl
given_rows s lib EmptyTimeline = refl
given_rows s lib (Taken export name line) = refl
given_rows s lib Silent = refl

-- the lines of calls that are all spoken
spoken_lines : {F : Type 0} (lib : Library F) (p : Played F) (calls : List (CallOf F)) → AllSpoken calls → map (λ (c : CallOf F). act_line lib p c.act c.told) (kept calls) ≡ map (call_line lib) calls
spoken_lines lib p [] h = refl
spoken_lines {F} lib p (c ∷ calls) h =
    ap (λ (b : Bool). map (λ (x : CallOf F). act_line lib p x.act x.told) (cond b (c ∷ kept calls) (kept calls))) (said_kept c.act h.0.said)
    ∙ ap (λ (l : OutLine). l ∷ map (λ (x : CallOf F). act_line lib p x.act x.told) (kept calls)) (said_line lib p c.act c.told h.0.said h.0.told)
    ∙ ap (λ (ls : List OutLine). call_line lib c ∷ ls) (spoken_lines lib p calls h.1)

spoken_rows : {M F : Type 0} (s : Setting M F) (lib : Library F) (calls : List (CallOf F)) → flat_map (λ (c : CallOf F). rows_given s lib c.told) calls ≡ flat_map (λ (c : CallOf F). told_rows s.rows lib c.told) calls
spoken_rows s lib [] = refl
spoken_rows {M} {F} s lib (c ∷ calls) =
    ap (λ (rows : List (List ℕ)). rows ++ flat_map (λ (x : CallOf F). rows_given s lib x.told) calls) (given_rows s lib c.told)
    ∙ ap (λ (rows : List (List ℕ)). told_rows s.rows lib c.told ++ rows) (spoken_rows s lib calls)

-- A line other than one of work.
abbrev pub IsNoWork : Call → Type 0
IsNoWork (call.Work turns) = ⊥
IsNoWork other = Unit {0}

-- how its calls are given out
abbrev pub manner_of : {M F : Type 0} → Setting M F → Manner M F
manner_of s = record { library = s.library; rows = s.rows; screen = s.tells.screen; out = s.tells.out }

lines_are : {M F : Type 0} (s : Setting M F) (lib : Library F) (p : Played F) → AllSpoken p.calls → lines_of lib p ≡ (calls_output (manner_of s) lib p.calls).lines
lines_are s lib p h = spoken_lines lib p p.calls h

rows_are : {M F : Type 0} (s : Setting M F) (lib : Library F) (p : Played F) → rows_of s lib p ≡ (calls_output (manner_of s) lib p.calls).rows
rows_are s lib p = spoken_rows s lib p.calls

module _ {M K F : Type 0} (s : Setting M F) where
  abbrev pub scene_of : Player M K → Scene M K
  scene_of p = record { desk = p.desk; screen = p.screen; out = p.out }

  has_calls : (d : DeskOf M K) (before : List (CallOf F)) (p : Played F) (line : Call) → IsNoWork line → acts_of p.calls ≡ line_acts s.clips line p.list → HasCalls s d before p line
  has_calls d before p (call.Insert at name first len) u e = e
  has_calls d before p (call.Overwrite at name first len) u e = e
  has_calls d before p (call.Extract at len) u e = e
  has_calls d before p (call.Lift at len) u e = e
  has_calls d before p (call.Split at) u e = e
  has_calls d before p (call.TrimIn at by) u e = e
  has_calls d before p (call.TrimOut at by) u e = e
  has_calls d before p (call.Slip at by) u e = e
  has_calls d before p (call.Dissolve at len) u e = e
  has_calls d before p (call.Relink at name first) u e = e
  has_calls d before p (call.Edl file) u e = e
  has_calls d before p call.Undo u e = e
  has_calls d before p call.Redo u e = e
  has_calls d before p (call.Want first len) u e = e
  has_calls d before p (call.Cancel first len) u e = e
  has_calls d before p (call.Play n) u e = e
  has_calls d before p (call.Show n) u e = e
  has_calls d before p (call.Roll first len) u e = e
  has_calls d before p (call.Work turns) u e = absurd u
  has_calls d before p (call.Export file) u e = e

  has_some : (d : DeskOf M K) (p : Played F) (line : Call) (left : List Act) → IsNoWork line → line_acts s.clips line p.list ≡ acts_of p.calls ++ left → HasSomeCalls s d p line left
  has_some d p (call.Insert at name first len) left u e = e
  has_some d p (call.Overwrite at name first len) left u e = e
  has_some d p (call.Extract at len) left u e = e
  has_some d p (call.Lift at len) left u e = e
  has_some d p (call.Split at) left u e = e
  has_some d p (call.TrimIn at by) left u e = e
  has_some d p (call.TrimOut at by) left u e = e
  has_some d p (call.Slip at by) left u e = e
  has_some d p (call.Dissolve at len) left u e = e
  has_some d p (call.Relink at name first) left u e = e
  has_some d p (call.Edl file) left u e = e
  has_some d p call.Undo left u e = e
  has_some d p call.Redo left u e = e
  has_some d p (call.Want first len) left u e = e
  has_some d p (call.Cancel first len) left u e = e
  has_some d p (call.Play n) left u e = e
  has_some d p (call.Show n) left u e = e
  has_some d p (call.Roll first len) left u e = e
  has_some d p (call.Work turns) left u e = absurd u
  has_some d p (call.Export file) left u e = e

  puts_all : (lib : Library F) (old new : Player M K) (p : Played F) → AllSpoken p.calls → GivesAll (manner_of s) (scene_of old) (scene_of new) (calls_output (manner_of s) lib p.calls) → PutsAll s old new (output_of s lib p)
  puts_all lib old new p h k = (
    subst (λ (ls : List OutLine). GotAll s.tells.out old.out new.out (texts ls)) (sym (lines_are s lib p h)) k.0,
    subst (GotAll s.tells.screen old.screen new.screen) (sym (rows_are s lib p)) k.1,
  )

  puts_some : (lib : Library F) (old new : Player M K) (p : Played F) → AllSpoken p.calls → GivesSome (manner_of s) (scene_of old) (scene_of new) (calls_output (manner_of s) lib p.calls) → PutsSome s old new (output_of s lib p)
  puts_some lib old new p h k = (
    subst (λ (ls : List OutLine). GotFront s.tells.out old.out new.out (texts ls)) (sym (lines_are s lib p h)) k.0,
    subst (GotFront s.tells.screen old.screen new.screen) (sym (rows_are s lib p)) k.1,
  )

  puts_lines : (lib : Library F) (old new : Player M K) (p : Played F) → AllSpoken p.calls → GotAll s.tells.out old.out new.out (texts (calls_output (manner_of s) lib p.calls).lines) → GotAll s.tells.out old.out new.out (texts (lines_of lib p))
  puts_lines lib old new p h k = subst (λ (ls : List OutLine). GotAll s.tells.out old.out new.out (texts ls)) (sym (lines_are s lib p h)) k

  stops_line : (old new : Player M K) (p : Played F) (left : List Act) (why : Halt) → AllSpoken p.calls → StopsActs (manner_of s) (scene_of old) (scene_of new) (p.calls, left) why → StopsLine s old new (p, left) why
  stops_line old new p left (halt.Store fault) h k = absurd k
  stops_line old new p left halt.Screen h k = (puts_some (s.library old.desk.fixed.library) old new p h k.0, puts_lines (s.library old.desk.fixed.library) old new p h k.1, k.2)
  stops_line old new p left halt.Out h k = (puts_some (s.library old.desk.fixed.library) old new p h k.0, k.1)
  stops_line old new p left halt.OutMemory h k = puts_some (s.library old.desk.fixed.library) old new p h k
  stops_line old new p left halt.NoMemory h (inl k) = inl (puts_some (s.library old.desk.fixed.library) old new p h k.0, puts_lines (s.library old.desk.fixed.library) old new p h k.1)
  stops_line old new p left halt.NoMemory h (inr k) = inr k
  stops_line old new p [] (halt.JournalFull len owing) h k = absurd k.1
  stops_line old new p (a ∷ left) (halt.JournalFull len owing) h k = (puts_all (s.library old.desk.fixed.library) old new p h k.0, k.1)

  lasts : (old new : Player M K) (acts : List Act) (r : Result Unit Halt) → new.store ≡ old.store → PlaysActs (manner_of s) (scene_of old) (scene_of new) acts r → Lasts old new
  lasts old new acts r e h =
      let same : new.store.faults ≡ old.store.faults = ap (λ (x : StoreSeen). x.faults) e in
      record {
        files = ap (λ (x : StoreSeen). x.file) e;
        store = omega (arith, same);
        screen = h.screen;
        out = h.out;
      }

  -- the calls of the line, each with its line of output
  acts_line_is : (old new : Player M K) (line : BodyLine) (list : Result (List Segment) EdlFault) (r : Result Unit Halt) → IsNoWork line.call → ReadsList s line.call list → new.store ≡ old.store → PlaysActs (manner_of s) (scene_of old) (scene_of new) (line_acts s.clips line.call list) r → PlaysLine s old new line r
  acts_line_is old new line list (Ok done) u reads e h =
      let p : Played F = record { line = line; list = list; calls = h.calls } in
      let all : acts_of h.calls ≡ line_acts s.clips line.call list = sym (h.is ∙ ap (λ (those : List Act). acts_of h.calls ++ those) h.ends.0 ∙ append-nil (acts_of h.calls)) in (
        record {
          played = p;
          is = refl;
          whole = record { calls = has_calls new.desk (heard s.library old.desk) p line.call u all; list = reads };
          hears = h.hears;
          puts = puts_all (s.library old.desk.fixed.library) old new p h.spoken h.ends.1;
        },
        lasts old new (line_acts s.clips line.call list) (Ok done) e h,
      )
  acts_line_is old new line list (Err why) u reads e h =
      let p : Played F = record { line = line; list = list; calls = h.calls } in (
        record {
          played = p;
          is = refl;
          left = h.left;
          begun = has_some new.desk p line.call h.left u h.is;
          list = inr reads;
          hears = h.hears;
          stops = stops_line old new p h.left why h.spoken h.ends;
        },
        lasts old new (line_acts s.clips line.call list) (Err why) e h,
      )

  -- of a line whose call is known
  pub acts_line : (old new : Player M K) (line : BodyLine) (is : Call) (list : Result (List Segment) EdlFault) (acts : List Act) (r : Result Unit Halt) → line.call ≡ is → IsNoWork is → ReadsList s is list → acts ≡ line_acts s.clips is list → new.store ≡ old.store → PlaysActs (manner_of s) (scene_of old) (scene_of new) acts r → PlaysLine s old new line r
  acts_line old new line is list acts r e u reads same store h =
      acts_line_is old new line list r (subst IsNoWork (sym e) u) (subst (λ (c : Call). ReadsList s c list) (sym e) reads) store
      (subst (λ (those : List Act). PlaysActs (manner_of s) (scene_of old) (scene_of new) those r) (same ∙ ap (λ (c : Call). line_acts s.clips c list) (sym e)) h)
