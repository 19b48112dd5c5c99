-- A desk without what no call changes beside its number, library and limits: what main hears is the same, whichever passes it made or joined.
use Rattle.std.proofs.Common.{◌≡◌, ℕ, List, [], ◌∷◌, ◌++◌, Option, Some, None, Result, Ok, Err, ◌⊎◌, inl, inr, refl, sym, ap, subst, ◌∙◌}
use Rattle.tl_model.specs.Media.{Library}
use Rattle.tl_model.specs.declared.journal.Act.{Act}
use Rattle.tl_model.specs.declared.journal.Entry.{Entry}
use Rattle.tl_ports.specs.declared.fault.PutFault.{PutFault}
use Rattle.tl_ports.specs.Seen.{SinkSeen}
use Rattle.render_core.specs.Calls.{CallOf}
use Rattle.render_core.specs.State.{State}
use Rattle.render_core.specs.Step.{Reply}
use Rattle.edit_desk.specs.Desk.{FixedOf, DeskOf, Learns, Enters, Hears, IsDesk, heard}
use Rattle.edit_desk.specs.Was.{Was}
use Rattle.script_lang.specs.declared.script.BodyLine.{BodyLine}
use Rattle.script_lang.specs.declared.script.Call.{Call}
use Rattle.script_lang.specs.declared.script.Call.TheVariants as call
use Rattle.play_head.specs.declared.halt.Halt.{Halt}
use Rattle.play_head.specs.declared.halt.Halt.TheVariants as halt
use Rattle.play_head.specs.declared.stop.Stop.{Stop}
use Rattle.play_head.specs.Carrying.{Carried, FinishesExports}
use Rattle.play_head.specs.Playing.{Setting, Player, Played, HasCalls, HasReason, AreWhole}
use Rattle.play_head.specs.Work.{Turn}
use Rattle.timeline_app.specs.Course.{Course, Halted, HasCause, IsCause, script_calls}
use Rattle.timeline_app.proofs.Sessions.{HasCourse}
use Rattle.timeline_app.proofs.Whole.{Scripted, begun_as}

abbrev plain_fixed : {M K : Type 0} → FixedOf M K → FixedOf M (Unit {0})
plain_fixed f = record { number = f.number; library = f.library; cache = f.cache; limit = f.limit; kept = tt }

abbrev pub plain : {M K : Type 0} → DeskOf M K → DeskOf M (Unit {0})
plain d = record { fixed = plain_fixed d.fixed; seen = d.seen }

abbrev pub plain_player : {M K : Type 0} → Player M K → Player M (Unit {0})
plain_player x = record { desk = plain x.desk; store = x.store; screen = x.screen; out = x.out }

module _ {M K F : Type 0} (library : M → Library F) where
  pub known_plain : (d : DeskOf M K) → IsDesk library d → IsDesk library (plain d)
  known_plain d h = record { legal = h.legal; within = h.within; few = h.few }

  pub learns_plain : (old new : DeskOf M K) → Learns old new → Learns (plain old) (plain new)
  learns_plain old new h = record { fixed = ap plain_fixed h.fixed; others = h.others; apart = h.apart; seen = h.seen }

  pub enters_plain : (old new : DeskOf M K) (what : Act) (told : Reply F) → Enters library old new what told → Enters library (plain old) (plain new) what told
  enters_plain old new what told h =
      record { before = plain h.before; learns = learns_plain old h.before h.learns; fixed = ap plain_fixed h.fixed; seen = h.seen; answer = h.answer }

  unfoldable pub hears_plain : (old new : DeskOf M K) (calls : List (CallOf F)) → Hears library old new calls → Hears library (plain old) (plain new) calls
  hears_plain old new calls h = record { fixed = ap plain_fixed h.fixed; more = h.more; seen = h.seen; heard = h.heard }

  unfoldable pub finishes_plain : (old new : DeskOf M K) (carried : List Carried) → FinishesExports library old new carried → FinishesExports library (plain old) (plain new) carried
  finishes_plain old new carried h = record { hears = hears_plain old new _ h.hears; done = h.done }

  was_plain : (d : DeskOf M K) (calls : List (CallOf F)) (fact : State → Type 0) → Was library d calls fact → Was library (plain d) calls fact
  was_plain d calls fact h = record { front = h.front; rest = h.rest; seen = h.seen; heard = h.heard; holds = h.holds }

module _ {M K F : Type 0} (s : Setting M F) where
  reason_plain : (d : DeskOf M K) (calls : List (CallOf F)) (turns : ℕ) (done : List (Turn F)) → HasReason s d calls turns done → HasReason s (plain d) calls turns done
  reason_plain d calls turns done (inl h) = inl h
  reason_plain d calls turns done (inr (inl h)) = inr (inl h)
  reason_plain d calls turns done (inr (inr (inl h))) = inr (inr (inl (was_plain s.library d calls _ h)))
  reason_plain d calls turns done (inr (inr (inr h))) = inr (inr (inr (was_plain s.library d calls _ h)))

  calls_plain : (d : DeskOf M K) (before : List (CallOf F)) (p : Played F) (c : Call) → HasCalls s d before p c → HasCalls s (plain d) before p c
  calls_plain d before p (call.Work turns) h = (h.0, h.1, reason_plain d (before ++ p.calls) turns h.0 h.2)
  calls_plain d before p (call.Insert at name first len) h = h
  calls_plain d before p (call.Overwrite at name first len) h = h
  calls_plain d before p (call.Extract at len) h = h
  calls_plain d before p (call.Lift at len) h = h
  calls_plain d before p (call.Split at) h = h
  calls_plain d before p (call.TrimIn at by) h = h
  calls_plain d before p (call.TrimOut at by) h = h
  calls_plain d before p (call.Slip at by) h = h
  calls_plain d before p (call.Dissolve at len) h = h
  calls_plain d before p (call.Relink at name first) h = h
  calls_plain d before p (call.Edl file) h = h
  calls_plain d before p call.Undo h = h
  calls_plain d before p call.Redo h = h
  calls_plain d before p (call.Want first len) h = h
  calls_plain d before p (call.Cancel first len) h = h
  calls_plain d before p (call.Play n) h = h
  calls_plain d before p (call.Show n) h = h
  calls_plain d before p (call.Roll first len) h = h
  calls_plain d before p (call.Export file) h = h

  whole_plain : (d : DeskOf M K) (before : List (CallOf F)) (ps : List (Played F)) → AreWhole s d before ps → AreWhole s (plain d) before ps
  whole_plain d before [] h = tt
  whole_plain d before (p ∷ ps) h =
      (record { calls = calls_plain d before p p.line.call h.0.calls; list = h.0.list }, whole_plain d (before ++ p.calls) ps h.1)

  cause_plain : (old new : Player M K) (calls : List (CallOf F)) (h : Halted F) (why : Halt) → IsCause s old new (calls, h) why → IsCause s (plain_player old) (plain_player new) (calls, h) why
  cause_plain old new calls h (halt.Store fault) e = e
  cause_plain old new calls h halt.Screen e = e
  cause_plain old new calls h halt.Out e = e
  cause_plain old new calls h halt.NoMemory e = tt
  cause_plain old new calls h halt.OutMemory e = tt
  cause_plain old new calls h (halt.JournalFull len owing) e =
      record { front = e.front; rest = e.rest; seen = e.seen; heard = e.heard; len = e.len; owing = e.owing; full = e.full }

  has_cause_plain : (old new : Player M K) (calls : List (CallOf F)) (halted : Option (Halted F)) → HasCause s old new calls halted → HasCause s (plain_player old) (plain_player new) calls halted
  has_cause_plain old new calls None h = tt
  has_cause_plain old new calls (Some x) h = cause_plain old new calls x x.why h

  -- the desk that hears the same beside one
  desk_back : (d : DeskOf M K) (new : DeskOf M (Unit {0})) (calls : List (CallOf F)) → Hears s.library (plain d) new calls → Hears s.library d (record d { seen = new.seen }) calls
  desk_back d new calls h = record {
    fixed = refl;
    more = h.more;
    seen = h.seen;
    heard = ap (λ (f : FixedOf M (Unit {0})). heard s.library (record { fixed = f; seen = new.seen })) (sym h.fixed) ∙ h.heard;
  }

  pub scripted_plain : (old played : Player M K) (body : List BodyLine) (c : Course F) (one : Result Unit PutFault) → Scripted s old played body c one → Scripted s (plain_player old) (plain_player played) body c one
  scripted_plain old played body c one h = record {
    part = record {
      lines = h.part.lines;
      whole = whole_plain played.desk (heard s.library old.desk) c.played h.part.whole;
      begun = begun_as s played.desk (plain played.desk) c.halted refl refl h.part.begun;
      hears = hears_plain s.library old.desk played.desk _ h.part.hears;
    };
    says = h.says;
    shows = h.shows;
    said_whole = h.said_whole;
    shown_whole = h.shown_whole;
    le = h.le;
    files = h.files;
    cause = λ new out more hears later.
        subst (λ (f : FixedOf M (Unit {0})). HasCause s (plain_player old) (record (plain_player played) { desk = record { fixed = f; seen = new.seen }; out = out }) (script_calls c) c.halted) (sym hears.fixed)
        (has_cause_plain old (record played { desk = record played.desk { seen = new.seen }; out = out }) (script_calls c) c.halted
        (h.cause (record played.desk { seen = new.seen }) out more (desk_back played.desk new more hears) later));
  }

  pub course_plain : (old played : Player M K) (body : List BodyLine) (r : Result Unit Stop) (early late : List Carried) (one said : Result Unit PutFault) → HasCourse s old played body r early late one said → HasCourse s (plain_player old) (plain_player played) body r early late one said
  course_plain old played body r early late one said h = record {
    course = h.course;
    early_is = h.early_is;
    late_is = h.late_is;
    says = h.says;
    scripted = scripted_plain old played body h.course one h.scripted;
    status = h.status;
  }
