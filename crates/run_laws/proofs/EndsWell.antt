-- A run over a sound outside succeeds, but for want of memory.
use Rattle.std.proofs.Common.{◌≡◌, ℕ, ◌≤◌, Bool, true, false, List, [], ◌∷◌, ◌++◌, Option, Some, Result, Ok, Err, ◌⊎◌, inl, inr, refl, sym, ap, subst, ◌∙◌, true≢false}
use Rattle.std.specs.List.{AllByRecursion}
use Rattle.tl_ports.specs.declared.fault.PutFault.{PutFault}
use Rattle.tl_ports.specs.declared.fault.PutFault.TheVariants as putting
use Rattle.tl_ports.specs.Seen.{SinkSeen, StoreSeen}
use Rattle.script_lang.specs.declared.out_line.OutLine.{OutLine}
use Rattle.script_lang.specs.declared.out_line.OutLine.TheVariants as out
use Rattle.script_lang.specs.declared.script.BodyLine.{BodyLine}
use Rattle.script_lang.specs.declared.script.ClipLine.{ClipLine}
use Rattle.script_lang.specs.declared.script.Script.{Script}
use Rattle.script_lang.specs.ScriptText.{script}
use Rattle.timeline_app.specs.declared.outcome.Outcome.{Outcome}
use Rattle.timeline_app.specs.declared.session.HeadStop.{HeadStop}
use Rattle.timeline_app.specs.declared.session.HeadStop.TheVariants as stop
use Rattle.timeline_app.specs.declared.words.Asked.{Asked}
use Rattle.timeline_app.specs.Course.{session_at}
use Rattle.timeline_app.specs.Ending.{status_unless}
use Rattle.timeline_app.specs.Head.{head_line, head_status}
use Rattle.timeline_app.specs.Made.{Around}
use Rattle.timeline_app.specs.Opening.{IsHeadCause, IsOpened}
use Rattle.timeline_app.specs.Runs.{EndsEarly, Misuses, RunsAsked, desk_at, program_of}
use Rattle.timeline_app.specs.Session.{IsHead, Opens, StopsAmong, clip_at, fetched_by, text_at}
use Rattle.timeline_app.specs.Words.{is_of_form}
use Rattle.run_laws.specs.Law.{EndsWell, SessionEndsWell}
use Rattle.run_laws.specs.Room.{room, workers_in}
use Rattle.run_laws.specs.Sound.{HoldsFile, HoldsList, HoldsScript, IsSoundOver, Stays}
use Rattle.run_laws.proofs.Calm.{among, held_fetches}
use Rattle.run_laws.proofs.Well.{IsWell, course_well}

-- ---- a run that isn't begun

memory_status : (said : Result Unit PutFault) → IsWell (status_unless said 5)
memory_status (Ok done) = inr refl
memory_status (Err putting.Failed) = inr refl
memory_status (Err putting.NoMemory) = inr refl

memory_well : (tells : Bool) (old new : SinkSeen) (line : OutLine) (outcome : Outcome) → EndsEarly tells old new (line, 5) outcome → IsWell outcome.status
memory_well tells old new line outcome early = subst IsWell (sym early.status) (memory_status early.said)

-- ---- the head

text_is : (o : Option (List ℕ)) (a b : List ℕ) → o ≡ Some a → o ≡ Some b → a ≡ b
text_is o a b e f = let same : Some a ≡ Some b = sym e ∙ f in cc

same_ok : {A E : Type 0} (r : Result A E) (x y : A) → r ≡ Ok x → r ≡ Ok y → x ≡ y
same_ok {A} {E} r x y e f = let same : ◌≡◌ {A = Result A E} (Ok x) (Ok y) = sym e ∙ f in cc

ok_err : {A E : Type 0} (r : Result A E) (x : A) (y : E) → r ≡ Ok x → r ≡ Err y → ⊥
ok_err {A} {E} r x y e f = let same : ◌≡◌ {A = Result A E} (Ok x) (Err y) = sym e ∙ f in absurd cc

module _ (old new : StoreSeen) (name : List ℕ) (head : Script) (holds : HoldsScript old name head) where
  head_is : (other : Script) → IsHead (fetched_by true old new) name other → other ≡ head
  head_is other is =
      let text = text_is (old.file name) is.text holds.text (is.fetched.1 refl) holds.held in
      same_ok (script holds.text) other head (subst (λ (t : List ℕ). script t ≡ Ok other) text is.read) holds.read

  script_held : HoldsFile old (text_at name)
  script_held = (holds.text, holds.held, holds.few)

  clip_held : (other : Script) → IsHead (fetched_by true old new) name other → (front rest : List ClipLine) (line : ClipLine) → other.clips ≡ front ++ line ∷ rest → HoldsFile old (clip_at line)
  clip_held other is front rest line parts =
      let all = ap (λ (h : Script). h.clips) (sym (head_is other is)) ∙ parts in
      among (λ (l : ClipLine). HoldsFile old (clip_at l)) front rest line (subst (AllByRecursion (λ (l : ClipLine). HoldsFile old (clip_at l))) all holds.clips)

  module _ (stays : Stays old.faults new.faults) (faultless : (n : ℕ) (fault : _) → StopsAmong (fetched_by true old new) head.clips (stop.Clip n fault) → ⊥) where
    store_goes : (file : List ℕ) (fault : _) → Opens (fetched_by true old new) name (Err (stop.Store file fault)) → ⊥
    store_goes file fault (inl h) = held_fetches true old new (text_at name) fault stays (λ told. script_held) h.2 h.1
    store_goes file fault (inr (other, is, a)) =
        held_fetches true old new (clip_at a.line) fault stays (λ told. clip_held other is a.front a.rest a.line a.parts) a.stops.2 a.stops.1

    script_goes : (n : ℕ) (why : _) → Opens (fetched_by true old new) name (Err (stop.Script n why)) → ⊥
    script_goes n why (inl h) =
        let text = text_is (old.file name) h.1.0 holds.text (h.1.1.1 refl) holds.held in
        ok_err (script holds.text) head _ holds.read (subst (λ (t : List ℕ). script t ≡ Err _) text h.1.2)
    script_goes n why (inr (other, is, a)) = a.stops

    clips_go : (n : ℕ) (fault : _) → Opens (fetched_by true old new) name (Err (stop.Clip n fault)) → ⊥
    clips_go n fault (inl h) = h
    clips_go n fault (inr (other, is, a)) =
        faultless n fault (subst (λ (h : Script). StopsAmong (fetched_by true old new) h.clips (stop.Clip n fault)) (head_is other is) a)

    head_well : (tells : Bool) (sink later : SinkSeen) (outcome : Outcome) (why : HeadStop) → IsHeadCause (fetched_by true old new) name why
        → EndsEarly tells sink later (head_line why, head_status why) outcome → IsWell outcome.status
    head_well tells sink later outcome (stop.Store file fault) (inl h) early = absurd (store_goes file fault h)
    head_well tells sink later outcome (stop.Store file fault) (inr h) early = absurd (let e : stop.Store file fault ≡ stop.NoMemory = h.0 in cc)
    head_well tells sink later outcome (stop.Script n why) (inl h) early = absurd (script_goes n why h)
    head_well tells sink later outcome (stop.Script n why) (inr h) early = absurd (let e : stop.Script n why ≡ stop.NoMemory = h.0 in cc)
    head_well tells sink later outcome (stop.Clip n fault) (inl h) early = absurd (clips_go n fault h)
    head_well tells sink later outcome (stop.Clip n fault) (inr h) early = absurd (let e : stop.Clip n fault ≡ stop.NoMemory = h.0 in cc)
    head_well tells sink later outcome stop.NoMemory h early = memory_well tells sink later (head_line stop.NoMemory) outcome early

-- ---- the run

misuse_well : (form : Bool) (around : Around) (outcome : Outcome) → form ≡ true → Misuses form around outcome → IsWell outcome.status
misuse_well form around outcome formed m = by_line m.says
  where
    by_line : ((form ≡ false) × EndsEarly around.tells.out around.old.out around.new.out (out.Usage, 2) outcome)
        ⊎ EndsEarly around.tells.out around.old.out around.new.out (out.NoMemory, 5) outcome → IsWell outcome.status
    by_line (inl h) = absurd (true≢false (sym formed ∙ h.0))
    by_line (inr h) = memory_well around.tells.out around.old.out around.new.out out.NoMemory outcome h

pub session_ends_well : SessionEndsWell
session_ends_well others asked over outcome r sound =
    course_well (program_of r.opening others over) (session_at (desk_at asked r.opening.library []) over.old)
    (session_at (desk_at asked r.opening.library outcome.journal) over.new) r.course outcome.status r.runs refl sound.fits
    (record { store = sound.calm.store; screen = sound.calm.screen; out = sound.calm.out; lists = sound.lists }) sound.calm.vault sound.packets

asked_well : (others : ℕ) (asked : Asked) (over : Around) (outcome : Outcome) → RunsAsked others asked over outcome
    → IsSoundOver others asked over outcome → IsWell outcome.status
asked_well others asked over outcome (inl u) sound =
    let cause = subst (λ (b : Bool). IsHeadCause (fetched_by b over.old.store over.new.store) asked.script.now u.why) sound.told u.cause in
    head_well over.old.store over.new.store asked.script.now sound.ready.head sound.ready.holds sound.calm.store sound.ready.clips
    over.tells.out over.old.out over.new.out outcome u.why cause u.says
asked_well others asked over outcome (inr r) sound =
    let ready = sound.ready in
    let is = subst (λ (b : Bool). IsOpened (fetched_by b over.old.store over.old.store) asked.script.now r.opening) sound.told r.is in
    let head = head_is over.old.store over.old.store asked.script.now ready.head ready.holds r.opening.script is.opens.0 in
    let fits = subst (λ (h : Script). room (workers_in others) h.body ≤ asked.journal) (sym head) ready.fits in
    let lists = subst (λ (h : Script). AllByRecursion (λ (line : BodyLine). HoldsList over.old.store line.call) h.body) (sym head) ready.holds.lists in
    session_ends_well others asked over outcome r
    (record { calm = sound.calm; fits = fits; lists = λ told. lists; packets = sound.packets r.opening is })

pub ends_well : EndsWell
ends_well others words around outcome (inl m) sound = misuse_well (is_of_form words) around outcome sound.form m
ends_well others words around outcome (inr (asked, asks, (over, is_over, runs))) sound =
    asked_well (others asked.workers) asked over outcome runs (sound.sound asked over asks is_over)
