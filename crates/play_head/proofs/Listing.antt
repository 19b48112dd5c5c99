-- The line of an edit list.
use Rattle.std.proofs.Common.{◌≡◌, ℕ, ◌+◌, ◌<◌, ◌≤◌, ◌^◌, Bool, true, false, cond, List, [], ◌∷◌, ◌++◌, length, map, Option, Some, Result, Ok, Err, ◌⊎◌, inl, inr, refl, sym, ap, subst, ◌∙◌, arith, nat_eq}
use Rattle.std.specs.Prelude.{IsTrue}
use Rattle.std.specs.List.{slice_split}
use Rattle.std.specs.Str.Lines.{lines, lines_of_parts}
use Rattle.std.proofs.lemmas.List.{append-nil}
use Rattle.std.proofs.lemmas.List.Splits.{length-slice_split}
use Rattle.std.proofs.lemmas.List.Sums.{count_by-le-length}
use Rattle.tl_limits.specs.Limits.{max_text_bytes}
use Rattle.tl_model.specs.Media.{Library}
use Rattle.tl_model.specs.declared.edit.Edit.TheVariants as edits
use Rattle.tl_model.specs.declared.journal.Act.{Act}
use Rattle.tl_model.specs.declared.journal.Act.TheVariants as act
use Rattle.tl_model.specs.declared.segment.Segment.{Segment}
use Rattle.tl_ports.specs.declared.fault.FetchFault.{FetchFault}
use Rattle.tl_ports.specs.declared.fault.FetchFault.TheVariants as fetching
use Rattle.std.specs.Global.{Vec}
use Rattle.tl_ports.specs.Outside.{AddsFile, IsFetched, FetchHasCause}
use Rattle.tl_ports.specs.Seen.{StoreSeen, SinkSeen}
use Rattle.render_core.specs.Calls.{CallOf}
use Rattle.render_core.specs.declared.reply.Full.{Full}
use Rattle.render_core.specs.declared.reply.Full.TheVariants as full
use Rattle.render_core.specs.Step.{need, Silent}
use Rattle.edit_desk.specs.Desk.{DeskOf, Hears, heard, state_of}
use Rattle.edl_text.specs.declared.event.Edl.{Edl}
use Rattle.edl_text.specs.declared.fault.EdlFault.{EdlFault}
use Rattle.edl_text.specs.declared.fault.EdlFault.TheVariants as faults
use Rattle.edl_text.specs.declared.fault.EdlWhy.{EdlWhy}
use Rattle.edl_text.specs.declared.fault.EdlWhy.TheVariants as why
use Rattle.edl_text.specs.List.{edl, Gives}
use Rattle.edl_build.specs.Build.{IsBuilt}
use Rattle.script_lang.specs.declared.out_line.OutLine.{OutLine}
use Rattle.script_lang.specs.declared.script.BodyLine.{BodyLine}
use Rattle.script_lang.specs.declared.script.Call.{Call}
use Rattle.script_lang.specs.declared.script.Call.TheVariants as call
use Rattle.script_lang.specs.Line.{fields, is_listed}
use Rattle.play_head.specs.declared.halt.Halt.{Halt}
use Rattle.play_head.specs.declared.halt.Halt.TheVariants as halt
use Rattle.play_head.specs.Acts.{line_acts, BuildsTo}
use Rattle.play_head.specs.Halting.{halt_for}
use Rattle.play_head.specs.Heard.{Refused}
use Rattle.play_head.specs.Listing.{list_wanted, FetchesList, ReadsAs, Skips}
use Rattle.play_head.specs.Playing.{Setting, Player, Played, list_line, IsRead, ReadsList, HasCalls, HasSomeCalls}
use Rattle.play_head.specs.PlayingLine.{Output, file_wanted, no_output, output_of, PutsAll, PutsSome, Lasts, StopsLine, PlaysLine}
use Rattle.play_head.specs.Putting.{GotAll, GotFront}
use Rattle.play_head.specs.Saying.{Speaks, SaysCall, place}
use Rattle.play_head.specs.Working.{HearsAct}
use Rattle.play_head.proofs.Acting.{front_all, same_all, same_front, says_acts}
use Rattle.play_head.proofs.Desks.{hears_nothing}
use Rattle.play_head.proofs.Lining.{manner_of, scene_of, acts_line}

-- ---- few lines

parts-length : (parts : List (List ℕ)) → length (lines_of_parts parts) ≤ length parts
parts-length [] = omega arith
parts-length (x ∷ []) = short (nat_eq (length x) 0)
  where
    short : (b : Bool) → length (cond b [] (x ∷ [])) ≤ length (x ∷ [])
    short true = omega arith
    short false = omega arith
parts-length (x ∷ y ∷ more) = omega (arith, parts-length (y ∷ more))

-- a text within its limit has few lines
pub few_lines : (text : List ℕ) → length text ≤ max_text_bytes → length (lines text) < 2 ^ 32
few_lines text h =
    let is_feed : ℕ → Bool = λ byte. nat_eq byte 10 in
    omega (arith, h, parts-length (slice_split is_feed text), length-slice_split is_feed text, count_by-le-length is_feed text)

-- ---- what a list is read as

pub reads_fault : (clips : List (List ℕ × ℕ)) (rate : ℕ) (text : List ℕ) (fault : EdlFault) → Gives {X = Edl} {Y = Edl} (λ (list : Edl). list) (Err fault) (edl rate text) → ReadsAs clips rate text (Err fault)
reads_fault clips rate text faults.NoMemory h = tt
reads_fault clips rate text (faults.Line n why) h = subst (λ (r : Result Edl EdlFault). BuildsTo clips r (Err (faults.Line n why))) (sym h) refl

pub reads_list : (clips : List (List ℕ × ℕ)) (rate : ℕ) (text : List ℕ) (list : Edl) (answer : Result (List Segment) EdlFault) → edl rate text ≡ Ok list → IsBuilt clips list.events answer → ReadsAs clips rate text answer
reads_list clips rate text list (Ok segments) e h = subst (λ (r : Result Edl EdlFault). BuildsTo clips r (Ok segments)) (sym e) h
reads_list clips rate text list (Err (faults.Line n why)) e h = subst (λ (r : Result Edl EdlFault). BuildsTo clips r (Err (faults.Line n why))) (sym e) h
reads_list clips rate text list (Err faults.NoMemory) e h = tt

pub list_line-listed : (n : ℕ) (w : EdlWhy) → IsTrue (is_listed (list_line (Err (faults.Line n w))))
unfolding fields
list_line-listed n why.Drop = refl
list_line-listed n why.Speed = refl
list_line-listed n why.Wipe = refl
list_line-listed n why.Key = refl
list_line-listed n why.Unknown = refl
list_line-listed n why.Timecode = refl
list_line-listed n why.PairMissing = refl
list_line-listed n why.UnknownClip = refl
list_line-listed n why.Span = refl
list_line-listed n why.OutsideClip = refl
list_line-listed n why.Overlap = refl

-- ---- the whole line

pub same_store : (old new : StoreSeen) → new.file ≡ old.file → new.faults ≡ old.faults → new ≡ old
same_store old new e f = ap (λ (file : List ℕ → Option (List ℕ)). record { file = file; faults = new.faults }) e ∙ ap (λ (n : ℕ). record { file = old.file; faults = n }) f

-- the text of a file that was fetched into nothing
pub fetched : (tells : Bool) (old new : StoreSeen) (file : List ℕ) (text : Vec ℕ) → AddsFile tells old (list_wanted file) [] text.items → FetchHasCause tells old new (list_wanted file) (Ok tt) → new.file ≡ old.file → FetchesList tells old new file (Ok text)
fetched tells old new file text h cause files = (same_store old new files cause, subst (IsFetched tells old (list_wanted file)) (sym h.1) h.2)

-- a skip that was made, and its line; or one that was refused
pub skips : {M K F : Type 0} (library : M → Library F) (tells : Bool) (old new : DeskOf M K) (before after : SinkSeen) (line : OutLine) (r : Result Unit Halt) → HearsAct library old new act.Skip Silent → Speaks tells before after line r → Skips library tells (place old before) (place new after) (line, r)
skips library tells old new before after line (Ok done) h k = (h, k)
skips library tells old new before after line (Err halt.Out) h k = (h, k)
skips library tells old new before after line (Err halt.OutMemory) h k = (h, k)
skips library tells old new before after line (Err halt.NoMemory) h k = absurd k
skips library tells old new before after line (Err (halt.JournalFull len owing)) h k = absurd k
skips library tells old new before after line (Err (halt.Store fault)) h k = absurd k
skips library tells old new before after line (Err halt.Screen) h k = absurd k

unskipped : {M K F : Type 0} (library : M → Library F) (tells : Bool) (old new : DeskOf M K) (out : SinkSeen) (line : OutLine) (w : Full) → Refused library old new (need act.Skip (state_of library new)) w → Skips library tells (place old out) (place new out) (line, Err (halt_for w))
unskipped library tells old new out line (full.JournalFull len owing) h = (h, refl)
unskipped library tells old new out line full.NoMemory h = (h, refl)

pub skip_refused : {M K F : Type 0} (library : M → Library F) (tells : Bool) (old new : DeskOf M K) (out : SinkSeen) (line : OutLine) (w : Full) (stop : Halt) → stop ≡ halt_for w → Refused library old new (need act.Skip (state_of library new)) w → Skips library tells (place old out) (place new out) (line, Err stop)
skip_refused library tells old new out line w stop e h = subst (λ (x : Halt). Skips library tells (place old out) (place new out) (line, Err x)) (sym e) (unskipped library tells old new out line w h)

same_count : (a b : ℕ) → b ≡ a → a ≤ b
same_count a b e = omega (arith, e)

abbrev no_calls : {F : Type 0} → BodyLine → Played F
no_calls line = record { line = line; list = Err faults.NoMemory; calls = [] }

abbrev pub HasText : {M F : Type 0} → Setting M F → (file text : List ℕ) → Type 0
HasText s file text = (length text ≤ max_text_bytes) × (IsTrue s.tells.store → s.files file ≡ Some text)

pub has_text : {M F : Type 0} (s : Setting M F) (file text items : List ℕ) → text ≡ items → HasText s file items → HasText s file text
has_text s file text items e h = subst (HasText s file) (sym e) h

module _ {M K F : Type 0} (s : Setting M F) where
  nothing_all : (old new : Player M K) → new.screen ≡ old.screen → new.out ≡ old.out → PutsAll s old new no_output
  nothing_all old new e f = (same_all s.tells.out old.out new.out f, same_all s.tells.screen old.screen new.screen e)

  nothing_some : (old new : Player M K) → new.screen ≡ old.screen → new.out ≡ old.out → PutsSome s old new no_output
  nothing_some old new e f = (same_front s.tells.out old.out new.out [] f, same_front s.tells.screen old.screen new.screen [] e)

  -- the line stopped before its call
  unbegun : (old new : Player M K) (line : BodyLine) (file : List ℕ) (why : Halt) → line.call ≡ call.Edl file → Hears s.library old.desk new.desk [] → Lasts old new → StopsLine s old new (no_calls line, act.Skip ∷ []) why → PlaysLine s old new line (Err why)
  unbegun old new line file why is h lasts stops = (
    record {
      played = no_calls line;
      is = refl;
      left = act.Skip ∷ [];
      begun = subst (λ (c : Call). HasSomeCalls s new.desk (no_calls line) c (act.Skip ∷ [])) (sym is) refl;
      list = inl refl;
      hears = h;
      stops = stops;
    },
    lasts,
  )

  lasts_as : (old new : Player M K) → new.store ≡ old.store → new.screen ≡ old.screen → new.out ≡ old.out → Lasts old new
  lasts_as old new e f g = record {
    files = ap (λ (x : StoreSeen). x.file) e;
    store = same_count _ _ (ap (λ (x : StoreSeen). x.faults) e);
    screen = same_count _ _ (ap (λ (x : SinkSeen). x.faults) f);
    out = same_count _ _ (ap (λ (x : SinkSeen). x.faults) g);
  }

  -- its text wasn't fetched
  pub unfetched : (desk : DeskOf M K) (before after : StoreSeen) (screen out : SinkSeen) (line : BodyLine) (file : List ℕ) (why : Halt) → line.call ≡ call.Edl file → FetchesList s.tells.store before after file (Err why) → PlaysLine s (record { desk = desk; store = before; screen = screen; out = out }) (record { desk = desk; store = after; screen = screen; out = out }) line (Err why)
  unfetched desk before after screen out line file (halt.Store fault) is h =
      let old : Player M K = record { desk = desk; store = before; screen = screen; out = out } in
      let new : Player M K = record { desk = desk; store = after; screen = screen; out = out } in
      unbegun old new line file (halt.Store fault) is (hears_nothing s.library desk)
      (record { files = h.2; store = h.3; screen = omega arith; out = omega arith })
      (nothing_all old new refl refl, subst (λ (c : Call). FetchHasCause s.tells.store before after (file_wanted c) (Err fault)) (sym is) h.0, h.1, (file, is), refl)
  unfetched desk before after screen out line file halt.NoMemory is h =
      let old : Player M K = record { desk = desk; store = before; screen = screen; out = out } in
      let new : Player M K = record { desk = desk; store = after; screen = screen; out = out } in
      unbegun old new line file halt.NoMemory is (hears_nothing s.library desk) (lasts_as old new h refl refl)
      (inl (nothing_some old new refl refl, (nothing_all old new refl refl).0))
  unfetched desk before after screen out line file halt.Screen is h = absurd h
  unfetched desk before after screen out line file halt.Out is h = absurd h
  unfetched desk before after screen out line file halt.OutMemory is h = absurd h
  unfetched desk before after screen out line file (halt.JournalFull len owing) is h = absurd h

  -- it took the timeline's place, or was to
  pub replaced : (old new : Player M K) (line : BodyLine) (file text : List ℕ) (segments : List Segment) (r : Result Unit Halt) → line.call ≡ call.Edl file → new.store ≡ old.store → new.screen ≡ old.screen → HasText s file text → ReadsAs s.clips s.rate text (Ok segments) → SaysCall s.library s.tells.out (place old.desk old.out) (place new.desk new.out) (act.Edit (edits.Replace segments), r) → PlaysLine s old new line r
  replaced old new line file text segments r is store screen has reads h =
      acts_line s old new line (call.Edl file) (Ok segments) (act.Edit (edits.Replace segments) ∷ []) r is tt (text, has.0, has.1, reads) refl store
      (says_acts (manner_of s) (scene_of s old) (scene_of s new) (act.Edit (edits.Replace segments)) r tt screen h)

  abbrev skip_call : DeskOf M K → CallOf F
  skip_call d = record { pass = d.fixed.number; act = act.Skip; told = Silent }

  abbrev passed : Player M K → BodyLine → EdlFault → Played F
  passed old line fault = record { line = line; list = Err fault; calls = skip_call old.desk ∷ [] }

  -- it was passed over, and its line wasn't put whole
  half_passed : (old new : Player M K) (line : BodyLine) (file : List ℕ) (fault : EdlFault) (why : Halt) → line.call ≡ call.Edl file → IsRead s file (Err fault) → Hears s.library old.desk new.desk (skip_call old.desk ∷ []) → Lasts old new → StopsLine s old new (passed old line fault, []) why → PlaysLine s old new line (Err why)
  half_passed old new line file fault why is read h lasts stops = (
    record {
      played = passed old line fault;
      is = refl;
      left = [];
      begun = subst (λ (c : Call). HasSomeCalls s new.desk (passed old line fault) c []) (sym is) refl;
      list = inr (subst (λ (c : Call). ReadsList s c (Err fault)) (sym is) read);
      hears = h;
      stops = stops;
    },
    lasts,
  )

  lasts_out : (old new : Player M K) → new.store ≡ old.store → new.screen ≡ old.screen → old.out.faults ≤ new.out.faults → Lasts old new
  lasts_out old new e f g = record {
    files = ap (λ (x : StoreSeen). x.file) e;
    store = same_count _ _ (ap (λ (x : StoreSeen). x.faults) e);
    screen = same_count _ _ (ap (λ (x : SinkSeen). x.faults) f);
    out = g;
  }

  passed_over : (old new : Player M K) (line : BodyLine) (file : List ℕ) (fault : EdlFault) (r : Result Unit Halt) → line.call ≡ call.Edl file → new.store ≡ old.store → new.screen ≡ old.screen → IsRead s file (Err fault) → Skips s.library s.tells.out (place old.desk old.out) (place new.desk new.out) (list_line (Err fault), r) → PlaysLine s old new line r
  passed_over old new line file fault (Ok done) is store screen read h = (
    record {
      played = passed old line fault;
      is = refl;
      whole = record {
        calls = subst (λ (c : Call). HasCalls s new.desk (heard s.library old.desk) (passed old line fault) c) (sym is) refl;
        list = subst (λ (c : Call). ReadsList s c (Err fault)) (sym is) read;
      };
      hears = h.0;
      puts = (h.1.0, same_all s.tells.screen old.screen new.screen screen);
    },
    lasts_out old new store screen (same_count _ _ h.1.1),
  )
  passed_over old new line file fault (Err halt.Out) is store screen read h =
      half_passed old new line file fault halt.Out is read h.0 (lasts_out old new store screen h.1.2)
      ((h.1.0, same_front s.tells.screen old.screen new.screen [] screen), h.1.1)
  passed_over old new line file fault (Err halt.OutMemory) is store screen read h =
      half_passed old new line file fault halt.OutMemory is read h.0 (lasts_out old new store screen (same_count _ _ h.1.1))
      (h.1.0, same_front s.tells.screen old.screen new.screen [] screen)
  passed_over old new line file fault (Err halt.NoMemory) is store screen read h =
      unbegun old new line file halt.NoMemory is h.0.0 (lasts_as old new store screen h.1)
      (inl (nothing_some old new screen h.1, (nothing_all old new screen h.1).0))
  passed_over old new line file fault (Err (halt.JournalFull len owing)) is store screen read h =
      unbegun old new line file (halt.JournalFull len owing) is h.0.0 (lasts_as old new store screen h.1)
      (nothing_all old new screen h.1, h.0.1)
  passed_over old new line file fault (Err (halt.Store why)) is store screen read h = absurd h
  passed_over old new line file fault (Err halt.Screen) is store screen read h = absurd h

  pub skipped : (old new : Player M K) (line : BodyLine) (file text : List ℕ) (fault : EdlFault) (n : ℕ) (w : EdlWhy) (r : Result Unit Halt) → fault ≡ faults.Line n w → line.call ≡ call.Edl file → new.store ≡ old.store → new.screen ≡ old.screen → HasText s file text → ReadsAs s.clips s.rate text (Err fault) → Skips s.library s.tells.out (place old.desk old.out) (place new.desk new.out) (list_line (Err (faults.Line n w)), r) → PlaysLine s old new line r
  skipped old new line file text fault n w r e is store screen has reads h =
      passed_over old new line file (faults.Line n w) r is store screen (text, has.0, has.1, subst (λ (f : EdlFault). ReadsAs s.clips s.rate text (Err f)) e reads) h

  -- memory ran out for its segments
  pub unread : (desk : DeskOf M K) (before after : StoreSeen) (screen out : SinkSeen) (line : BodyLine) (file : List ℕ) → line.call ≡ call.Edl file → after ≡ before → PlaysLine s (record { desk = desk; store = before; screen = screen; out = out }) (record { desk = desk; store = after; screen = screen; out = out }) line (Err halt.NoMemory)
  unread desk before after screen out line file is e = unfetched desk before after screen out line file halt.NoMemory is e
