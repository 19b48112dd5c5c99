-- A run that has room doesn't end with the status of a full journal.
use Rattle.std.proofs.Common.{◌≡◌, ℕ, ◌≤◌, Bool, false, [], ◌⊎◌, inl, inr, Result, Ok, Err, refl, sym, ◌∙◌, arith}
use Rattle.tl_ports.specs.declared.fault.PutFault.{PutFault}
use Rattle.tl_ports.specs.declared.fault.PutFault.TheVariants as putting
use Rattle.tl_ports.specs.Seen.{SinkSeen}
use Rattle.script_lang.specs.declared.out_line.OutLine.{OutLine}
use Rattle.script_lang.specs.declared.out_line.OutLine.TheVariants as out
use Rattle.script_lang.specs.declared.script.Script.{Script}
use Rattle.timeline_app.specs.declared.outcome.Outcome.{Outcome}
use Rattle.timeline_app.specs.declared.session.HeadStop.{HeadStop}
use Rattle.timeline_app.specs.declared.session.HeadStop.TheVariants as stop
use Rattle.timeline_app.specs.declared.words.Asked.{Asked}
use Rattle.timeline_app.specs.Course.{session_at}
use Rattle.timeline_app.specs.Ending.{status_unless}
use Rattle.timeline_app.specs.Head.{head_status}
use Rattle.timeline_app.specs.Made.{Around}
use Rattle.timeline_app.specs.Runs.{EndsEarly, Misuses, Ran, RunsAsked, desk_at, program_of}
use Rattle.timeline_app.specs.Session.{IsHead, fetched_by}
use Rattle.timeline_app.specs.Words.{is_of_form}
use Rattle.run_laws.specs.Law.{NeverFull, NeverRefused, SessionNeverFull}
use Rattle.run_laws.specs.Room.{room, workers_in}
use Rattle.run_laws.proofs.Full.{course_not_full, course_not_refused}

lone_line : (said : Result _ PutFault) (status : ℕ) → (status ≡ 6 → ⊥) → status_unless said status ≡ 6 → ⊥
lone_line (Ok done) status not e = not e
lone_line (Err putting.Failed) status not e = not e
lone_line (Err putting.NoMemory) status not e = absurd (omega (arith, e))

head_not_full : (why : HeadStop) → head_status why ≡ 6 → ⊥
head_not_full (stop.Store name fault) e = absurd (omega (arith, e))
head_not_full (stop.Script n why) e = absurd (omega (arith, e))
head_not_full (stop.Clip n fault) e = absurd (omega (arith, e))
head_not_full stop.NoMemory e = absurd (omega (arith, e))

early_not_full : (tells : Bool) (old new : SinkSeen) (line : OutLine × ℕ) (outcome : Outcome) → EndsEarly tells old new line outcome → (line.1 ≡ 6 → ⊥) → outcome.status ≡ 6 → ⊥
early_not_full tells old new line outcome early not six = lone_line early.said line.1 not (sym early.status ∙ six)

module _ (others : ℕ) (asked : Asked) (around : Around) (outcome : Outcome) where
  ran_not_full : (r : Ran others asked around outcome) → room (workers_in others) r.opening.script.body ≤ asked.journal → outcome.status ≡ 6 → ⊥
  ran_not_full r fits six =
      course_not_full (program_of r.opening others around) (session_at (desk_at asked r.opening.library []) around.old)
      (session_at (desk_at asked r.opening.library outcome.journal) around.new) r.course outcome.status r.runs refl fits six

  asked_not_full : RunsAsked others asked around outcome
      → ((head : Script) → IsHead (fetched_by around.tells.store around.old.store around.old.store) asked.script.now head → room (workers_in others) head.body ≤ asked.journal)
      → outcome.status ≡ 6 → ⊥
  asked_not_full (inl u) fits six = early_not_full around.tells.out around.old.out around.new.out _ outcome u.says (head_not_full u.why) six
  asked_not_full (inr r) fits six = ran_not_full r (fits r.opening.script r.is.opens.0) six

two_not : ◌≡◌ {A = ℕ} 2 6 → ⊥
two_not e = absurd (omega (arith, e))

five_not : ◌≡◌ {A = ℕ} 5 6 → ⊥
five_not e = absurd (omega (arith, e))

misuse_not_full : (form : Bool) (around : Around) (outcome : Outcome) → Misuses form around outcome → outcome.status ≡ 6 → ⊥
misuse_not_full form around outcome m six = by_line m.says
  where
    by_line : ((form ≡ false) × EndsEarly around.tells.out around.old.out around.new.out (out.Usage, 2) outcome)
        ⊎ EndsEarly around.tells.out around.old.out around.new.out (out.NoMemory, 5) outcome → ⊥
    by_line (inl h) = early_not_full around.tells.out around.old.out around.new.out (out.Usage, 2) outcome h.1 two_not six
    by_line (inr h) = early_not_full around.tells.out around.old.out around.new.out (out.NoMemory, 5) outcome h five_not six

pub session_never_full : SessionNeverFull
session_never_full others asked around outcome = ran_not_full others asked around outcome

pub never_full : NeverFull
never_full others words around outcome (inl m) fits six = misuse_not_full (is_of_form words) around outcome m six
never_full others words around outcome (inr (asked, asks, (over, is_over, runs))) fits six =
    asked_not_full (others asked.workers) asked over outcome runs (λ head. fits asked over head asks is_over) six

pub never_refused : NeverRefused
never_refused others asked around outcome r fits =
    course_not_refused (program_of r.opening others around) (session_at (desk_at asked r.opening.library []) around.old)
    (session_at (desk_at asked r.opening.library outcome.journal) around.new) r.course outcome.status r.runs refl fits
