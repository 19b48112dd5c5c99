-- Calls with their lines and rows, one after another.
use Rattle.std.proofs.Common.{◌≡◌, ℕ, ◌≤◌, Bool, List, [], ◌∷◌, ◌++◌, map, Result, Ok, Err, ◌⊎◌, inl, inr, refl, sym, ap, subst, ◌∙◌, arith}
use Rattle.std.specs.List.{flat_map}
use Rattle.std.proofs.lemmas.List.{append-nil, append_assoc, map-append}
use Rattle.std.proofs.lemmas.List.Concat.{flat_map-append}
use Rattle.tl_model.specs.Media.{Library}
use Rattle.tl_model.specs.declared.journal.Act.{Act}
use Rattle.tl_model.specs.declared.journal.Act.TheVariants as act
use Rattle.tl_ports.specs.Seen.{SinkSeen}
use Rattle.tl_ports.specs.Outside.{Rose}
use Rattle.tl_ports.specs.declared.fault.PutFault.TheVariants as putting
use Rattle.render_core.specs.Calls.{CallOf}
use Rattle.render_core.specs.Step.{Reply, need, Edited, Wanted, Cancelled, PastEnd, Claimed, Filed, Released, Closed, Picture, Fault, Pending, Render, Asked, EmptyTimeline, Taken, Silent}
use Rattle.render_core.specs.declared.reply.Full.{Full}
use Rattle.render_core.specs.declared.reply.Full.TheVariants as full
use Rattle.edit_desk.specs.Desk.{FixedOf, DeskOf, Hears, Shows, state_of}
use Rattle.edit_desk.proofs.Heard.{hears_on, hears_learns, hears_enters}
use Rattle.script_lang.specs.declared.out_line.OutLine.{OutLine}
use Rattle.script_lang.specs.Line.{line_text}
use Rattle.play_head.specs.declared.halt.Halt.{Halt}
use Rattle.play_head.specs.declared.halt.Halt.TheVariants as halt
use Rattle.play_head.specs.Giving.{Screens}
use Rattle.play_head.specs.Halting.{halt_for}
use Rattle.play_head.specs.Heard.{Refused}
use Rattle.play_head.specs.Playing.{acts_of}
use Rattle.play_head.specs.PlayingActs.{Manner, Scene, IsSaid, IsAnswer, IsSpoken, AllSpoken, IsLostShow, PlaysActs, GivesAll, GivesSome, HasNoRoom, EndsActs, StopsActs, told_rows, call_line, calls_output}
use Rattle.play_head.specs.PlayingLine.{Output, no_output, texts}
use Rattle.play_head.specs.Putting.{IsFront, GotAll, GotFront}
use Rattle.play_head.specs.Saying.{Speaks, IsPlain, SaysCall, place}
use Rattle.play_head.specs.Told.{line_of, frame_of}
use Rattle.play_head.specs.Roll.{IsRollCall}
use Rattle.play_head.specs.Working.{HearsAct}
use Rattle.play_head.proofs.Desks.{hears_nothing}
use Rattle.play_head.proofs.Pieces.{got_nothing, front_nothing, all_then}

-- ---- fronts

front_whole : (pieces : List (List ℕ)) → IsFront pieces pieces
front_whole [] = tt
front_whole (piece ∷ pieces) = inl (refl, front_whole pieces)

-- what was got whole is a front of it
pub front_all : (tells : Bool) (old new : SinkSeen) (pieces : List (List ℕ)) → GotAll tells old new pieces → GotFront tells old new pieces
front_all tells old new pieces h = λ t. (pieces, h t, front_whole pieces)

pub same_all : (tells : Bool) (old new : SinkSeen) → new ≡ old → GotAll tells old new []
same_all tells old new e = subst (λ (s : SinkSeen). GotAll tells old s []) (sym e) (got_nothing tells old)

pub same_front : (tells : Bool) (old new : SinkSeen) (pieces : List (List ℕ)) → new ≡ old → GotFront tells old new pieces
same_front tells old new pieces e = subst (λ (s : SinkSeen). GotFront tells old s pieces) (sym e) (front_nothing tells old pieces)

pub all_on : (tells : Bool) (old mid new : SinkSeen) (first more : List (List ℕ)) → GotAll tells old mid first → GotAll tells mid new more → GotAll tells old new (first ++ more)
all_on tells old mid new first more h k = all_then tells old mid new first more (Ok tt) h k

pub front_on : (tells : Bool) (old mid new : SinkSeen) (first more : List (List ℕ)) → GotAll tells old mid first → GotFront tells mid new more → GotFront tells old new (first ++ more)
front_on tells old mid new first more h k = all_then tells old mid new first more (Err putting.Failed) h k

not_more : (before now : ℕ) → now ≡ before → before ≤ now
not_more before now e = omega (arith, e)

-- a count that rose, where it was no higher before
pub rose_later : (before between now : ℕ) → before ≤ between → Rose between now → Rose before now
rose_later before between now le rose = omega arith

-- ---- replies

pub plain_answer : {F : Type 0} (told : Reply F) → IsPlain told → IsAnswer told
plain_answer (Edited reply) h = tt
plain_answer (Wanted count) h = tt
plain_answer (Cancelled count) h = tt
plain_answer (PastEnd len) h = tt
plain_answer (Claimed job recipe) h = absurd h
plain_answer Filed h = absurd h
plain_answer Released h = absurd h
plain_answer (Closed at) h = absurd h
plain_answer (Picture frame) h = absurd h
plain_answer (Fault why) h = absurd h
plain_answer (Pending recipe) h = absurd h
plain_answer (Render recipe) h = absurd h
plain_answer (Asked export) h = tt
plain_answer EmptyTimeline h = tt
plain_answer (Taken export name line) h = absurd h
plain_answer Silent h = absurd h

pub plain_rows : {F : Type 0} (rows : F → List (List ℕ)) (lib : Library F) (told : Reply F) → IsPlain told → told_rows rows lib told ≡ []
plain_rows rows lib (Edited reply) h = refl
plain_rows rows lib (Wanted count) h = refl
plain_rows rows lib (Cancelled count) h = refl
plain_rows rows lib (PastEnd len) h = refl
plain_rows rows lib (Claimed job recipe) h = absurd h
plain_rows rows lib Filed h = absurd h
plain_rows rows lib Released h = absurd h
plain_rows rows lib (Closed at) h = absurd h
plain_rows rows lib (Picture frame) h = absurd h
plain_rows rows lib (Fault why) h = absurd h
plain_rows rows lib (Pending recipe) h = absurd h
plain_rows rows lib (Render recipe) h = absurd h
plain_rows rows lib (Asked export) h = refl
plain_rows rows lib EmptyTimeline h = refl
plain_rows rows lib (Taken export name line) h = absurd h
plain_rows rows lib Silent h = absurd h

-- ---- lists of calls

acts-append : {F : Type 0} (calls more : List (CallOf F)) → acts_of (calls ++ more) ≡ acts_of calls ++ acts_of more
acts-append {F} calls more = map-append (λ (call : CallOf F). call.act) calls more

spoken-append : {F : Type 0} (calls more : List (CallOf F)) → AllSpoken calls → AllSpoken more → AllSpoken (calls ++ more)
spoken-append [] more h k = k
spoken-append (call ∷ calls) more h k = (h.0, spoken-append calls more h.1 k)

lines-append : {M F : Type 0} (m : Manner M F) (lib : Library F) (calls more : List (CallOf F)) → texts (calls_output m lib (calls ++ more)).lines ≡ texts (calls_output m lib calls).lines ++ texts (calls_output m lib more).lines
lines-append m lib calls more =
    ap texts (map-append (call_line lib) calls more) ∙ map-append line_text (map (call_line lib) calls) (map (call_line lib) more)

rows-append : {M F : Type 0} (m : Manner M F) (lib : Library F) (calls more : List (CallOf F)) → (calls_output m lib (calls ++ more)).rows ≡ (calls_output m lib calls).rows ++ (calls_output m lib more).rows
rows-append {M} {F} m lib calls more = flat_map-append (λ (call : CallOf F). told_rows m.rows lib call.told) calls more

-- ---- counts, acts and screens

later : (a b c : ℕ) → a ≤ b → b ≤ c → a ≤ c
later a b c h k = omega (arith, h, k)

front_is : {F : Type 0} (xs ys : List Act) (calls more : List (CallOf F)) (none left : List Act) → none ≡ [] → xs ≡ acts_of calls ++ none → ys ≡ acts_of more ++ left → (xs ++ ys) ≡ acts_of (calls ++ more) ++ left
front_is xs ys calls more none left e h k =
    ap (λ (acts : List Act). acts ++ ys) (h ∙ ap (λ (acts : List Act). acts_of calls ++ acts) e ∙ append-nil (acts_of calls))
    ∙ ap (λ (acts : List Act). acts_of calls ++ acts) k
    ∙ sym (append_assoc (acts_of calls) (acts_of more) left)
    ∙ ap (λ (acts : List Act). acts ++ left) (sym (acts-append calls more))

-- a call without rows
plain_screens : (tells : Bool) (screen after : SinkSeen) → after ≡ screen → Screens tells screen after [] (Ok tt)
plain_screens tells screen after e = (same_all tells screen after e, ap (λ (s : SinkSeen). s.faults) e)

-- not a show
abbrev pub IsUnshown : Act → Type 0
IsUnshown (act.Show n) = ⊥
IsUnshown other = Unit {0}

abbrev first_unshown : List Act → Type 0
first_unshown [] = Unit {0}
first_unshown (a ∷ rest) = IsUnshown a

not_lost : {F : Type 0} (a : Act) (calls : List (CallOf F)) (left : List Act) → IsUnshown a → (a ∷ []) ≡ acts_of calls ++ left → IsLostShow calls → ⊥
not_lost {F} a calls left h e l =
    let here : (a ∷ []) ≡ act.Show l.1 ∷ left = e ∙ ap (λ (cs : List (CallOf F)). acts_of cs ++ left) l.3 in
    subst first_unshown here h

roll_unshown : (a : Act) → IsRollCall a → IsUnshown a
roll_unshown (act.Want first len) h = tt
roll_unshown (act.Play n) h = tt
roll_unshown (act.Edit edit) h = tt
roll_unshown act.Undo h = tt
roll_unshown act.Redo h = tt
roll_unshown (act.Cancel first len) h = tt
roll_unshown act.Claim h = tt
roll_unshown (act.File job) h = tt
roll_unshown (act.Release job) h = tt
roll_unshown (act.Show n) h = absurd h
roll_unshown (act.Ask name) h = tt
roll_unshown act.Take h = tt
roll_unshown (act.End export ending) h = tt
roll_unshown (act.Mark turns) h = tt
roll_unshown act.Skip h = tt
roll_unshown act.Stop h = tt

module _ {M K F : Type 0} (m : Manner M F) where
  gives_on : (lib : Library F) (old mid new : Scene M K) (calls more : List (CallOf F)) → GivesAll m old mid (calls_output m lib calls) → GivesAll m mid new (calls_output m lib more) → GivesAll m old new (calls_output m lib (calls ++ more))
  gives_on lib old mid new calls more h k = (
    subst (GotAll m.out old.out new.out) (sym (lines-append m lib calls more)) (all_on m.out old.out mid.out new.out _ _ h.0 k.0),
    subst (GotAll m.screen old.screen new.screen) (sym (rows-append m lib calls more)) (all_on m.screen old.screen mid.screen new.screen _ _ h.1 k.1),
  )

  some_on : (lib : Library F) (old mid new : Scene M K) (calls more : List (CallOf F)) → GivesAll m old mid (calls_output m lib calls) → GivesSome m mid new (calls_output m lib more) → GivesSome m old new (calls_output m lib (calls ++ more))
  some_on lib old mid new calls more h k = (
    subst (GotFront m.out old.out new.out) (sym (lines-append m lib calls more)) (front_on m.out old.out mid.out new.out _ _ h.0 k.0),
    subst (GotFront m.screen old.screen new.screen) (sym (rows-append m lib calls more)) (front_on m.screen old.screen mid.screen new.screen _ _ h.1 k.1),
  )

  lines_on : (lib : Library F) (old mid new : Scene M K) (calls more : List (CallOf F)) → GivesAll m old mid (calls_output m lib calls) → GotAll m.out mid.out new.out (texts (calls_output m lib more).lines) → GotAll m.out old.out new.out (texts (calls_output m lib (calls ++ more)).lines)
  lines_on lib old mid new calls more h k = subst (GotAll m.out old.out new.out) (sym (lines-append m lib calls more)) (all_on m.out old.out mid.out new.out _ _ h.0 k)

  some_all : (old new : Scene M K) (output : Output) → GivesAll m old new output → GivesSome m old new output
  some_all old new output h = (front_all m.out old.out new.out (texts output.lines) h.0, front_all m.screen old.screen new.screen output.rows h.1)

  same_gives : (old new : Scene M K) → new.screen ≡ old.screen → new.out ≡ old.out → GivesAll m old new (calls_output m (m.library old.desk.fixed.library) [])
  same_gives old new e f = (same_all m.out old.out new.out f, same_all m.screen old.screen new.screen e)

  -- ---- one call

  -- a call that was refused
  refused_by : (old new : Scene M K) (what : Act) (why : Full) → new.screen ≡ old.screen → new.out ≡ old.out → Refused m.library old.desk new.desk (need what (state_of m.library new.desk)) why → PlaysActs m old new (what ∷ []) (Err (halt_for why))
  refused_by old new what (full.JournalFull len owing) e f h = record {
    calls = [];
    left = what ∷ [];
    is = refl;
    spoken = tt;
    hears = h.0;
    ends = (same_gives old new e f, h.1);
    screen = not_more _ _ (ap (λ (s : SinkSeen). s.faults) e);
    out = not_more _ _ (ap (λ (s : SinkSeen). s.faults) f);
  }
  refused_by old new what full.NoMemory e f h = record {
    calls = [];
    left = what ∷ [];
    is = refl;
    spoken = tt;
    hears = h.0;
    ends = inl (some_all old new (calls_output m (m.library old.desk.fixed.library) []) (same_gives old new e f), (same_gives old new e f).0);
    screen = not_more _ _ (ap (λ (s : SinkSeen). s.faults) e);
    out = not_more _ _ (ap (λ (s : SinkSeen). s.faults) f);
  }

  pub refused_act : (old new : Scene M K) (what : Act) (why : Full) (s : Halt) → s ≡ halt_for why → new.screen ≡ old.screen → new.out ≡ old.out → Refused m.library old.desk new.desk (need what (state_of m.library new.desk)) why → PlaysActs m old new (what ∷ []) (Err s)
  refused_act old new what why s is e f h = subst (λ (x : Halt). PlaysActs m old new (what ∷ []) (Err x)) (sym is) (refused_by old new what why e f h)

  -- the call that was made
  abbrev pub one : (old : Scene M K) (what : Act) (told : Reply F) → CallOf F
  one old what told = record { pass = old.desk.fixed.number; act = what; told = told }

  abbrev pub lib_of : Scene M K → Library F
  lib_of old = m.library old.desk.fixed.library

  one_rows : (lib : Library F) (old : Scene M K) (what : Act) (told : Reply F) (rows : List (List ℕ)) → rows ≡ told_rows m.rows lib told → rows ≡ (calls_output m lib (one old what told ∷ [])).rows
  one_rows lib old what told rows e = e ∙ sym (append-nil (told_rows m.rows lib told))

  -- its line was put, and then its rows, or not all of them
  given_by : (old new : Scene M K) (what : Act) (told : Reply F) (r : Result Unit Halt) → IsSaid what → IsAnswer told → HearsAct m.library old.desk new.desk what told → GotAll m.out old.out new.out (line_text (line_of (lib_of old) (frame_of what) 0 told) ∷ []) × (new.out.faults ≡ old.out.faults) → Screens m.screen old.screen new.screen (calls_output m (lib_of old) (one old what told ∷ [])).rows r → PlaysActs m old new (what ∷ []) r
  given_by old new what told (Ok done) said answer h k s = record {
    calls = one old what told ∷ [];
    left = [];
    is = refl;
    spoken = (record { said = said; told = answer }, tt);
    hears = h;
    ends = (refl, (k.0, s.0));
    screen = not_more _ _ s.1;
    out = not_more _ _ k.1;
  }
  given_by old new what told (Err halt.Screen) said answer h k s = record {
    calls = one old what told ∷ [];
    left = [];
    is = refl;
    spoken = (record { said = said; told = answer }, tt);
    hears = h;
    ends = ((front_all m.out old.out new.out _ k.0, s.0), k.0, s.1);
    screen = s.2;
    out = not_more _ _ k.1;
  }
  given_by old new what told (Err halt.NoMemory) said answer h k s = record {
    calls = one old what told ∷ [];
    left = [];
    is = refl;
    spoken = (record { said = said; told = answer }, tt);
    hears = h;
    ends = inl ((front_all m.out old.out new.out _ k.0, s.0), k.0);
    screen = not_more _ _ s.1;
    out = not_more _ _ k.1;
  }
  given_by old new what told (Err (halt.Store fault)) said answer h k s = absurd s
  given_by old new what told (Err halt.Out) said answer h k s = absurd s
  given_by old new what told (Err halt.OutMemory) said answer h k s = absurd s
  given_by old new what told (Err (halt.JournalFull len owing)) said answer h k s = absurd s

  pub given : (old new : Scene M K) (what : Act) (told : Reply F) (line : OutLine) (rows : List (List ℕ)) (r : Result Unit Halt) → IsSaid what → IsAnswer told → HearsAct m.library old.desk new.desk what told → line ≡ line_of (lib_of old) (frame_of what) 0 told → rows ≡ told_rows m.rows (lib_of old) told → Speaks m.out old.out new.out line (Ok tt) → Screens m.screen old.screen new.screen rows r → PlaysActs m old new (what ∷ []) r
  given old new what told line rows r said answer h e f k s =
      given_by old new what told r said answer h
      (subst (λ (l : OutLine). GotAll m.out old.out new.out (line_text l ∷ []) × (new.out.faults ≡ old.out.faults)) e k)
      (subst (λ (x : List (List ℕ)). Screens m.screen old.screen new.screen x r) (one_rows (lib_of old) old what told rows f) s)

  -- its line wasn't put whole
  unsaid_by : (old new : Scene M K) (what : Act) (told : Reply F) (why : Halt) → IsSaid what → IsAnswer told → HearsAct m.library old.desk new.desk what told → new.screen ≡ old.screen → Speaks m.out old.out new.out (line_of (lib_of old) (frame_of what) 0 told) (Err why) → PlaysActs m old new (what ∷ []) (Err why)
  unsaid_by old new what told halt.Out said answer h e k = record {
    calls = one old what told ∷ [];
    left = [];
    is = refl;
    spoken = (record { said = said; told = answer }, tt);
    hears = h;
    ends = ((k.0, same_front m.screen old.screen new.screen _ e), k.1);
    screen = not_more _ _ (ap (λ (s : SinkSeen). s.faults) e);
    out = k.2;
  }
  unsaid_by old new what told halt.OutMemory said answer h e k = record {
    calls = one old what told ∷ [];
    left = [];
    is = refl;
    spoken = (record { said = said; told = answer }, tt);
    hears = h;
    ends = (k.0, same_front m.screen old.screen new.screen _ e);
    screen = not_more _ _ (ap (λ (s : SinkSeen). s.faults) e);
    out = not_more _ _ k.1;
  }
  unsaid_by old new what told (halt.Store fault) said answer h e k = absurd k
  unsaid_by old new what told halt.Screen said answer h e k = absurd k
  unsaid_by old new what told halt.NoMemory said answer h e k = absurd k
  unsaid_by old new what told (halt.JournalFull len owing) said answer h e k = absurd k

  pub unsaid : (old new : Scene M K) (what : Act) (told : Reply F) (line : OutLine) (why : Halt) → IsSaid what → IsAnswer told → HearsAct m.library old.desk new.desk what told → line ≡ line_of (lib_of old) (frame_of what) 0 told → new.screen ≡ old.screen → Speaks m.out old.out new.out line (Err why) → PlaysActs m old new (what ∷ []) (Err why)
  unsaid old new what told line why said answer h f e k =
      unsaid_by old new what told why said answer h e (subst (λ (l : OutLine). Speaks m.out old.out new.out l (Err why)) f k)

  pub says_acts : (old new : Scene M K) (what : Act) (r : Result Unit Halt) → IsSaid what → new.screen ≡ old.screen → SaysCall m.library m.out (place old.desk old.out) (place new.desk new.out) (what, r) → PlaysActs m old new (what ∷ []) r
  says_acts old new what (Ok done) said e h =
      given old new what h.answer _ [] (Ok tt) said (plain_answer h.answer h.plain) h.hears refl (sym (plain_rows m.rows (lib_of old) h.answer h.plain)) h.says (plain_screens m.screen old.screen new.screen e)
  says_acts old new what (Err halt.Out) said e h = unsaid_by old new what h.answer halt.Out said (plain_answer h.answer h.plain) h.hears e h.says
  says_acts old new what (Err halt.OutMemory) said e h = unsaid_by old new what h.answer halt.OutMemory said (plain_answer h.answer h.plain) h.hears e h.says
  says_acts old new what (Err halt.NoMemory) said e h = refused_by old new what full.NoMemory e h.1 h.0
  says_acts old new what (Err (halt.JournalFull len owing)) said e h = refused_by old new what (full.JournalFull len owing) e h.1 h.0
  says_acts old new what (Err (halt.Store fault)) said e h = absurd h
  says_acts old new what (Err halt.Screen) said e h = absurd h

  pub says_is : (old new : Scene M K) (a what : Act) (r : Result Unit Halt) → a ≡ what → IsSaid what → new.screen ≡ old.screen → SaysCall m.library m.out (place old.desk old.out) (place new.desk new.out) (what, r) → PlaysActs m old new (a ∷ []) r
  says_is old new a what r e said s h = subst (λ (x : Act). PlaysActs m old new (x ∷ []) r) (sym e) (says_acts old new what r said s h)

  -- a show that was refused, or whose picture found no memory
  pub unshown : (old new : Scene M K) (n : ℕ) (why : Full) (s : Halt) → s ≡ halt_for why → new.screen ≡ old.screen → new.out ≡ old.out → Shows m.library old.desk new.desk n (Err why) → PlaysActs m old new (act.Show n ∷ []) (Err s)
  unshown old new n (full.JournalFull len owing) s is e f h =
      refused_act old new (act.Show n) (full.JournalFull len owing) s is e f (hears_learns m.library old.desk new.desk h.0, h.1)
  unshown old new n full.NoMemory s is e f (inl h) =
      refused_act old new (act.Show n) full.NoMemory s is e f (hears_learns m.library old.desk new.desk h.0, h.1)
  unshown old new n full.NoMemory s is e f (inr h) = subst (λ (x : Halt). PlaysActs m old new (act.Show n ∷ []) (Err x)) (sym is) (record {
    calls = one old (act.Show n) (Render h.0) ∷ [];
    left = [];
    is = refl;
    spoken = (record { said = tt; told = tt }, tt);
    hears = hears_enters m.library old.desk new.desk (act.Show n) (Render h.0) h.1;
    ends = inr ((old.desk.fixed.number, n, h.0, refl), same_gives old new e f);
    screen = not_more _ _ (ap (λ (s : SinkSeen). s.faults) e);
    out = not_more _ _ (ap (λ (s : SinkSeen). s.faults) f);
  })

  -- ---- calls after calls

  lib_is : (old mid : Scene M K) (calls : List (CallOf F)) → Hears m.library old.desk mid.desk calls → lib_of mid ≡ lib_of old
  lib_is old mid calls h = ap (λ (f : FixedOf M K). m.library f.library) h.fixed

  ends_on : (old mid new : Scene M K) (calls more : List (CallOf F)) → lib_of mid ≡ lib_of old → GivesAll m old mid (calls_output m (lib_of old) calls) → GivesAll m mid new (calls_output m (lib_of mid) more) → GivesAll m old new (calls_output m (lib_of old) (calls ++ more))
  ends_on old mid new calls more e h k = gives_on (lib_of old) old mid new calls more h (subst (λ (l : Library F). GivesAll m mid new (calls_output m l more)) e k)

  fronts_on : (old mid new : Scene M K) (calls more : List (CallOf F)) → lib_of mid ≡ lib_of old → GivesAll m old mid (calls_output m (lib_of old) calls) → GivesSome m mid new (calls_output m (lib_of mid) more) → GivesSome m old new (calls_output m (lib_of old) (calls ++ more))
  fronts_on old mid new calls more e h k = some_on (lib_of old) old mid new calls more h (subst (λ (l : Library F). GivesSome m mid new (calls_output m l more)) e k)

  texts_on : (old mid new : Scene M K) (calls more : List (CallOf F)) → lib_of mid ≡ lib_of old → GivesAll m old mid (calls_output m (lib_of old) calls) → GotAll m.out mid.out new.out (texts (calls_output m (lib_of mid) more).lines) → GotAll m.out old.out new.out (texts (calls_output m (lib_of old) (calls ++ more)).lines)
  texts_on old mid new calls more e h k = lines_on (lib_of old) old mid new calls more h (subst (λ (l : Library F). GotAll m.out mid.out new.out (texts (calls_output m l more).lines)) e k)

  pub no_acts : (s : Scene M K) → Hears m.library s.desk s.desk [] → PlaysActs m s s [] (Ok tt)
  no_acts s h = record {
    calls = [];
    left = [];
    is = refl;
    spoken = tt;
    hears = h;
    ends = (refl, same_gives s s refl refl);
    screen = omega arith;
    out = omega arith;
  }

  pub acts_on : (old mid new : Scene M K) (xs ys : List Act) → PlaysActs m old mid xs (Ok tt) → PlaysActs m mid new ys (Ok tt) → PlaysActs m old new (xs ++ ys) (Ok tt)
  acts_on old mid new xs ys h k = record {
    calls = h.calls ++ k.calls;
    left = k.left;
    is = front_is xs ys h.calls k.calls h.left k.left h.ends.0 h.is k.is;
    spoken = spoken-append h.calls k.calls h.spoken k.spoken;
    hears = hears_on m.library old.desk mid.desk new.desk h.calls k.calls h.hears k.hears;
    ends = (k.ends.0, ends_on old mid new h.calls k.calls (lib_is old mid h.calls h.hears) h.ends.1 k.ends.1);
    screen = later _ _ _ h.screen k.screen;
    out = later _ _ _ h.out k.out;
  }

  more_room : (s : Scene M K) (left rest : List Act) (len owing : ℕ) → HasNoRoom m s left len owing → HasNoRoom m s (left ++ rest) len owing
  more_room s [] rest len owing h = absurd h
  more_room s (a ∷ left) rest len owing h = h

  stops_on : (old mid new : Scene M K) (a : Act) (calls more : List (CallOf F)) (left rest : List Act) (why : Halt) → IsUnshown a → (a ∷ []) ≡ acts_of more ++ left → lib_of mid ≡ lib_of old → GivesAll m old mid (calls_output m (lib_of old) calls) → old.screen.faults ≤ mid.screen.faults → old.out.faults ≤ mid.out.faults → StopsActs m mid new (more, left) why → StopsActs m old new (calls ++ more, left ++ rest) why
  stops_on old mid new a calls more left rest (halt.Store fault) u is e h s o k = absurd k
  stops_on old mid new a calls more left rest halt.Screen u is e h s o k = (fronts_on old mid new calls more e h k.0, texts_on old mid new calls more e h k.1, rose_later old.screen.faults mid.screen.faults new.screen.faults s k.2)
  stops_on old mid new a calls more left rest halt.Out u is e h s o k = (fronts_on old mid new calls more e h k.0, rose_later old.out.faults mid.out.faults new.out.faults o k.1)
  stops_on old mid new a calls more left rest halt.OutMemory u is e h s o k = fronts_on old mid new calls more e h k
  stops_on old mid new a calls more left rest halt.NoMemory u is e h s o (inl k) = inl (fronts_on old mid new calls more e h k.0, texts_on old mid new calls more e h k.1)
  stops_on old mid new a calls more left rest halt.NoMemory u is e h s o (inr k) = absurd (not_lost a more left u is k.0)
  stops_on old mid new a calls more left rest (halt.JournalFull len owing) u is e h s o k = (ends_on old mid new calls more e h k.0, more_room new left rest len owing k.1)

  -- calls after which another one stopped
  pub acts_stop : (old mid new : Scene M K) (xs : List Act) (a : Act) (rest : List Act) (why : Halt) → IsUnshown a → PlaysActs m old mid xs (Ok tt) → PlaysActs m mid new (a ∷ []) (Err why) → PlaysActs m old new (xs ++ a ∷ rest) (Err why)
  acts_stop old mid new xs a rest why u h k =
      let lib = lib_is old mid h.calls h.hears in
      record {
        calls = h.calls ++ k.calls;
        left = k.left ++ rest;
        is = front_is xs (a ∷ rest) h.calls k.calls h.left (k.left ++ rest) h.ends.0 h.is (ap (λ (acts : List Act). acts ++ rest) k.is ∙ append_assoc (acts_of k.calls) k.left rest);
        spoken = spoken-append h.calls k.calls h.spoken k.spoken;
        hears = hears_on m.library old.desk mid.desk new.desk h.calls k.calls h.hears k.hears;
        ends = stops_on old mid new a h.calls k.calls k.left rest why u k.is lib h.ends.1 h.screen h.out k.ends;
        screen = later _ _ _ h.screen k.screen;
        out = later _ _ _ h.out k.out;
      }

  -- ---- a roll

  -- so many of its calls were made, and these are left
  pub record IsRolling (old new : Scene M K) (whole left : List Act) : Type 0 where
    pub done : List Act
    pub are : done ++ left ≡ whole
    pub plays : PlaysActs m old new done (Ok tt)

  pub rolls_none : (s : Scene M K) (whole left : List Act) → left ≡ whole → IsRolling s s whole left
  rolls_none s whole left e = record { done = []; are = e; plays = no_acts s (hears_nothing m.library s.desk) }

  pub rolls_on : (old mid new : Scene M K) (whole left rest : List Act) (a : Act) → left ≡ a ∷ rest → IsRolling old mid whole left → PlaysActs m mid new (a ∷ []) (Ok tt) → IsRolling old new whole rest
  rolls_on old mid new whole left rest a e h k = record {
    done = h.done ++ a ∷ [];
    are = append_assoc h.done (a ∷ []) rest ∙ ap (λ (acts : List Act). h.done ++ acts) (sym e) ∙ h.are;
    plays = acts_on old mid new h.done (a ∷ []) h.plays k;
  }

  pub rolls_all : (old new : Scene M K) (whole left : List Act) → left ≡ [] → IsRolling old new whole left → PlaysActs m old new whole (Ok tt)
  rolls_all old new whole left e h =
      subst (λ (acts : List Act). PlaysActs m old new acts (Ok tt)) (sym (append-nil h.done) ∙ ap (λ (acts : List Act). h.done ++ acts) (sym e) ∙ h.are) h.plays

  pub roll_stops : (old mid new : Scene M K) (whole left rest : List Act) (a : Act) (why : Halt) → left ≡ a ∷ rest → IsRollCall a → IsRolling old mid whole left → PlaysActs m mid new (a ∷ []) (Err why) → PlaysActs m old new whole (Err why)
  roll_stops old mid new whole left rest a why e u h k =
      subst (λ (acts : List Act). PlaysActs m old new acts (Err why)) (ap (λ (acts : List Act). h.done ++ acts) (sym e) ∙ h.are)
      (acts_stop old mid new h.done a rest why (roll_unshown a u) h.plays k)
