-- Turns of work, one after another.
use Rattle.std.proofs.Common.{◌≡◌, ℕ, ◌+◌, ◌<◌, ◌≤◌, cond, Bool, true, false, List, [], ◌∷◌, ◌++◌, length, Option, Some, None, Result, Ok, Err, ◌⊎◌, inl, inr, refl, sym, ap, subst, ◌∙◌, arith, length-append}
use Rattle.std.specs.Prelude.{IsTrue}
use Rattle.std.proofs.lemmas.List.{append-nil, append_assoc}
use Rattle.tl_model.specs.Media.{Library}
use Rattle.tl_model.specs.declared.journal.Act.{Act}
use Rattle.tl_model.specs.declared.journal.Act.TheVariants as act
use Rattle.render_core.specs.declared.reply.Full.{Full}
use Rattle.render_core.specs.Claim.{ClaimOf}
use Rattle.render_core.specs.Step.{Reply, Claimed, Filed, Released, Closed}
use Rattle.edit_desk.specs.Desk.{DeskOf, Hears, Enters, Finds, IsFull, state_of}
use Rattle.edit_desk.proofs.Heard.{hears_learns, hears_enters, hears_on}
use Rattle.play_head.specs.Work.{Turn, turn_calls, turns_calls, is_released, is_filed, filed_count, IsTurn, AreEnded, AreTurns, EndsReleased, IsIdle}
use Rattle.play_head.specs.Working.{HearsAct, Ends, MakesTurn, Turns, HasCause, Works}
use Rattle.play_head.specs.declared.work.Turned.{Turned}
use Rattle.play_head.specs.declared.work.Turned.TheVariants as turned
use Rattle.render_core.specs.declared.reply.ClaimReply.{ClaimReply}
use Rattle.render_core.specs.declared.reply.ClaimReply.TheVariants as claims
use Rattle.render_core.specs.declared.reply.FileReply.{FileReply}
use Rattle.render_core.specs.Board.{of_file}
use Rattle.render_core.proofs.JobLists.{weight, count_push}
use Rattle.play_head.proofs.Desks.{hears_nothing, number-hears}

-- the calls of turns in two parts
turns_calls-append : {F : Type 0} (number : ℕ) (turns more : List (Turn F)) → turns_calls number (turns ++ more) ≡ turns_calls number turns ++ turns_calls number more
turns_calls-append number [] more = refl
turns_calls-append number (turn ∷ turns) more =
    ap (λ cs. turn_calls number turn ++ cs) (turns_calls-append number turns more) ∙ sym (append_assoc (turn_calls number turn) (turns_calls number turns) (turns_calls number more))

ended_more : {F : Type 0} (turns : List (Turn F)) (turn : Turn F) → AreEnded turns → IsTurn turn → is_released turn.told ≡ false → AreEnded (turns ++ turn ∷ [])
ended_more [] turn h is r = (is, r, tt)
ended_more (x ∷ xs) turn h is r = (h.0, h.1, ended_more xs turn h.2 is r)

turns_more : {F : Type 0} (turns : List (Turn F)) (turn : Turn F) → AreEnded turns → IsTurn turn → AreTurns (turns ++ turn ∷ [])
turns_more [] turn h is = is
turns_more (x ∷ []) turn h is = (h.0, h.1, is)
turns_more (x ∷ y ∷ ys) turn h is = (h.0, h.1, turns_more (y ∷ ys) turn h.2 is)

ended_turns : {F : Type 0} (turns : List (Turn F)) → AreEnded turns → AreTurns turns
ended_turns [] h = tt
ended_turns (x ∷ []) h = h.0
ended_turns (x ∷ y ∷ ys) h = (h.0, h.1, ended_turns (y ∷ ys) h.2)

released_more : {F : Type 0} (turns : List (Turn F)) (turn : Turn F) → IsTrue (is_released turn.told) → EndsReleased (turns ++ turn ∷ [])
released_more [] turn r = r
released_more (x ∷ []) turn r = r
released_more (x ∷ y ∷ ys) turn r = released_more (y ∷ ys) turn r

filed_next : {F : Type 0} (done : List (Turn F)) (turn : Turn F) (b : Bool) (filed : ℕ) → is_filed turn.told ≡ b → filed ≡ filed_count done → filed + cond b 1 0 ≡ filed_count (done ++ turn ∷ [])
filed_next {F} done turn b filed e f =
    let one : weight (λ (t : Turn F). is_filed t.told) turn ≡ cond b 1 0 = ap (λ (x : Bool). cond x 1 0) e in
    let all : filed_count (done ++ turn ∷ []) ≡ filed_count done + weight (λ (t : Turn F). is_filed t.told) turn = count_push (λ (t : Turn F). is_filed t.told) done turn in
    omega (arith, one, all, f)

made_next : {F : Type 0} (done : List (Turn F)) (turn : Turn F) (made : ℕ) → length done ≡ made → length (done ++ turn ∷ []) ≡ made + 1
made_next done turn made e = omega (arith, e, length-append done (turn ∷ []))

at_most_one : (b : Bool) → cond b 1 0 ≤ 1
at_most_one true = omega arith
at_most_one false = omega arith

module _ {M K F : Type 0} (library : M → Library F) where
  -- so many turns were made, each of which ended its job
  pub record IsWorking (old new : DeskOf M K) (made filed : ℕ) : Type 0 where
    pub done : List (Turn F)
    pub hears : Hears library old new (turns_calls old.fixed.number done)
    pub ended : AreEnded done
    pub filed_is : filed ≡ filed_count done
    pub made_is : length done ≡ made
    pub few : filed ≤ made

  pub work_starts : (d : DeskOf M K) → IsWorking d d 0 0
  work_starts d = record { done = []; hears = hears_nothing library d; ended = tt; filed_is = refl; made_is = refl; few = omega arith }

  hears_more : (old mid new : DeskOf M K) (done : List (Turn F)) (turn : Turn F) → Hears library old mid (turns_calls old.fixed.number done) → Hears library mid new (turn_calls mid.fixed.number turn) → Hears library old new (turns_calls old.fixed.number (done ++ turn ∷ []))
  hears_more old mid new done turn h k =
      let number = old.fixed.number in
      let here = subst (λ (n : ℕ). Hears library mid new (turn_calls n turn)) (number-hears library old mid (turns_calls number done) h) k in
      subst (Hears library old new) (sym (turns_calls-append number done (turn ∷ [])))
      (hears_on library old mid new (turns_calls number done) (turn_calls number turn) h here)

  -- ---- one turn

  act_later : (old mid new : DeskOf M K) (what : Act) (told : Reply F) → Hears library old mid [] → HearsAct library mid new what told → HearsAct library old new what told
  act_later old mid new what told h k =
      hears_on library old mid new [] (record { pass = old.fixed.number; act = what; told = told } ∷ []) h
      (subst (λ (n : ℕ). Hears library mid new (record { pass = n; act = what; told = told } ∷ [])) (number-hears library old mid [] h) k)

  later : (old mid new : DeskOf M K) (claim : ClaimOf) (t : Turned) → Hears library old mid [] → Ends library mid new claim t → Ends library old new claim t
  later old mid new claim (turned.Ended true) h k = act_later old mid new (act.File claim.job) Filed h k
  later old mid new claim (turned.Ended false) h k = (k.0, either k.1)
    where
      either : HearsAct library mid new (act.File claim.job) (Closed k.0) ⊎ HearsAct library mid new (act.Release claim.job) (Closed k.0) → HearsAct library old new (act.File claim.job) (Closed k.0) ⊎ HearsAct library old new (act.Release claim.job) (Closed k.0)
      either (inl x) = inl (act_later old mid new (act.File claim.job) (Closed k.0) h x)
      either (inr x) = inr (act_later old mid new (act.Release claim.job) (Closed k.0) h x)
  later old mid new claim turned.Released h k = act_later old mid new (act.Release claim.job) Released h k
  later old mid new claim turned.Idle h k = k
  later old mid new claim turned.Stopped h k = k

  -- a claim that comes back is ended later
  pub ends_later : (old mid new : DeskOf M K) (claim back : ClaimOf) (t : Turned) → Hears library old mid [] → back ≡ claim → Ends library mid new back t → Ends library old new claim t
  ends_later old mid new claim back t h e k = subst (λ (x : ClaimOf). Ends library old new x t) e (later old mid new back t h k)

  made : (old mid new : DeskOf M K) (claim : ClaimOf) (what : Act) (told : Reply F) (filed released : Bool) → HearsAct library old mid act.Claim (Claimed claim.job claim.recipe) → HearsAct library mid new what told → IsTurn (record { job = claim.job; recipe = claim.recipe; end = what; told = told }) → is_filed told ≡ filed → is_released told ≡ released → MakesTurn library old new filed released
  made old mid new claim what told filed released h k is f r = record {
    turn = record { job = claim.job; recipe = claim.recipe; end = what; told = told };
    is_turn = is;
    filed_is = f;
    released_is = r;
    hears = hears_on library old mid new (record { pass = old.fixed.number; act = act.Claim; told = Claimed claim.job claim.recipe } ∷ []) (record { pass = old.fixed.number; act = what; told = told } ∷ []) h
        (subst (λ (n : ℕ). Hears library mid new (record { pass = n; act = what; told = told } ∷ [])) (number-hears library old mid (record { pass = old.fixed.number; act = act.Claim; told = Claimed claim.job claim.recipe } ∷ []) h) k);
  }

  pub turn_made : (old mid new : DeskOf M K) (claim : ClaimOf) (t : Turned) → HearsAct library old mid act.Claim (Claimed claim.job claim.recipe) → Ends library mid new claim t → Turns library old new (Ok t)
  turn_made old mid new claim (turned.Ended true) h k = made old mid new claim (act.File claim.job) Filed true false h k (inl refl, tt) refl refl
  turn_made old mid new claim (turned.Ended false) h k = either k.1
    where
      either : HearsAct library mid new (act.File claim.job) (Closed k.0) ⊎ HearsAct library mid new (act.Release claim.job) (Closed k.0) → MakesTurn library old new false false
      either (inl x) = made old mid new claim (act.File claim.job) (Closed k.0) false false h x (inl refl, tt) refl refl
      either (inr x) = made old mid new claim (act.Release claim.job) (Closed k.0) false false h x (inr refl, tt) refl refl
  turn_made old mid new claim turned.Released h k = made old mid new claim (act.Release claim.job) Released false true h k (inr refl, tt) refl refl
  turn_made old mid new claim turned.Idle h k = absurd k
  turn_made old mid new claim turned.Stopped h k = absurd k

  -- what a claim answers
  pub claim_heard : (old new : DeskOf M K) (given : ClaimReply) (claim : ClaimOf) → given ≡ claims.Claimed claim → Finds library old new (Ok given) → HearsAct library old new act.Claim (Claimed claim.job claim.recipe)
  claim_heard old new given claim e h = hears_enters library old new act.Claim (Claimed claim.job claim.recipe) (subst (λ (r : ClaimReply). Finds library old new (Ok r)) e h)

  pub idle_turn : (old new : DeskOf M K) (given : ClaimReply) (len : ℕ) → given ≡ claims.Idle len → Finds library old new (Ok given) → Turns library old new (Ok turned.Idle)
  idle_turn old new given len e h = let found = subst (λ (r : ClaimReply). Finds library old new (Ok r)) e h in (hears_learns library old new found.0, found.3)

  pub stopped_turn : (old new : DeskOf M K) (given : ClaimReply) (len : ℕ) → given ≡ claims.Stopped len → Finds library old new (Ok given) → Turns library old new (Ok turned.Stopped)
  stopped_turn old new given len e h = let found = subst (λ (r : ClaimReply). Finds library old new (Ok r)) e h in (hears_learns library old new found.0, found.2)

  -- what a result's filing answers
  pub file_heard : (old new : DeskOf M K) (job : ℕ) (given told : FileReply) → given ≡ told → Enters library old new (act.File job) (of_file given) → HearsAct library old new (act.File job) (of_file told)
  file_heard old new job given told e h = hears_enters library old new (act.File job) (of_file told) (subst (λ (r : FileReply). Enters library old new (act.File job) (of_file r)) e h)

  pub turn_is : (old new : DeskOf M K) (r : Result Turned Full) (given t : Turned) → r ≡ Ok given → given ≡ t → Turns library old new r → Turns library old new (Ok t)
  turn_is old new r given t e f h = subst (Turns library old new) (e ∙ ap (λ (x : Turned). Ok x) f) h

  pub refused_is : (old new : DeskOf M K) (r : Result Turned Full) (why : Full) → r ≡ Err why → Turns library old new r → Turns library old new (Err why)
  refused_is old new r why e h = subst (Turns library old new) e h

  -- ---- one after another

  pub work_goes_on : (old mid new : DeskOf M K) (made filed : ℕ) (b : Bool) → IsWorking old mid made filed → MakesTurn library mid new b false → IsWorking old new (made + 1) (filed + cond b 1 0)
  work_goes_on old mid new made filed b w t = record {
    done = w.done ++ t.turn ∷ [];
    hears = hears_more old mid new w.done t.turn w.hears t.hears;
    ended = ended_more w.done t.turn w.ended t.is_turn t.released_is;
    filed_is = filed_next w.done t.turn b filed t.filed_is w.filed_is;
    made_is = made_next w.done t.turn made w.made_is;
    few = (let one = at_most_one b in let few = w.few in omega (arith, one, few));
  }

  -- as many turns as were asked for
  pub works_all : (old new : DeskOf M K) (turns made filed : ℕ) → made ≡ turns → IsWorking old new made filed → Works library old new turns (record { filed = filed; refused = None })
  works_all old new turns made filed e w = record {
    done = w.done;
    hears = w.hears;
    are_turns = ended_turns w.done w.ended;
    filed = w.filed_is;
    few = (let m = w.made_is in omega (arith, m, e));
    cause = inl (w.made_is ∙ e);
  }

  -- none after one whose job was given back
  pub works_released : (old mid new : DeskOf M K) (turns made filed : ℕ) → made < turns → IsWorking old mid made filed → MakesTurn library mid new false true → Works library old new turns (record { filed = filed; refused = None })
  works_released old mid new turns made filed h w t = record {
    done = w.done ++ t.turn ∷ [];
    hears = hears_more old mid new w.done t.turn w.hears t.hears;
    are_turns = turns_more w.done t.turn w.ended t.is_turn;
    filed = (let next = filed_next w.done t.turn false filed t.filed_is w.filed_is in omega (arith, next));
    few = (let m = made_next w.done t.turn made w.made_is in omega (arith, m, h));
    cause = inr (inl (released_more w.done t.turn t.released_is));
  }

  hears_still : (old mid new : DeskOf M K) (made filed : ℕ) (w : IsWorking old mid made filed) → Hears library mid new [] → Hears library old new (turns_calls old.fixed.number w.done)
  hears_still old mid new made filed w h =
      subst (Hears library old new) (append-nil (turns_calls old.fixed.number w.done)) (hears_on library old mid new (turns_calls old.fixed.number w.done) [] w.hears h)

  -- none where no job is queued, the session was stopped or a claim was refused
  pub works_ended : (old mid new : DeskOf M K) (turns made filed : ℕ) (refused : Option Full) → made < turns → IsWorking old mid made filed → Hears library mid new [] → ((done : List (Turn F)) → length done < turns → HasCause library new turns done refused) → Works library old new turns (record { filed = filed; refused = refused })
  works_ended old mid new turns made filed refused h w still cause = record {
    done = w.done;
    hears = hears_still old mid new made filed w still;
    are_turns = ended_turns w.done w.ended;
    filed = w.filed_is;
    few = (let m = w.made_is in omega (arith, m, h));
    cause = cause w.done (let m = w.made_is in omega (arith, m, h));
  }

  pub works_idle : (old mid new : DeskOf M K) (turns made filed : ℕ) → made < turns → IsWorking old mid made filed → Hears library mid new [] → IsIdle (state_of library new) → Works library old new turns (record { filed = filed; refused = None })
  works_idle old mid new turns made filed h w still idle = works_ended old mid new turns made filed None h w still (λ done fewer. inr (inr (inl idle)))

  pub works_stopped : (old mid new : DeskOf M K) (turns made filed : ℕ) → made < turns → IsWorking old mid made filed → Hears library mid new [] → IsTrue (state_of library new).is_stopped → Works library old new turns (record { filed = filed; refused = None })
  works_stopped old mid new turns made filed h w still stopped = works_ended old mid new turns made filed None h w still (λ done fewer. inr (inr (inr stopped)))

  pub works_refused : (old mid new : DeskOf M K) (turns made filed : ℕ) (why : Full) → made < turns → IsWorking old mid made filed → Hears library mid new [] → IsFull library new 2 why → Works library old new turns (record { filed = filed; refused = Some why })
  works_refused old mid new turns made filed why h w still full = works_ended old mid new turns made filed (Some why) h w still (λ done fewer. (fewer, full))
