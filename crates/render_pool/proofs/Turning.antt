-- Turns of a worker, one after another.
use Rattle.std.proofs.Common.{◌≡◌, ℕ, false, Ok, Err, List, [], ◌∷◌, ◌⊎◌, inl, inr, refl, sym, ap, subst}
use Rattle.std.proofs.lemmas.List.{append-nil}
use Rattle.tl_model.specs.Media.{Library}
use Rattle.tl_model.specs.declared.journal.Act.{Act}
use Rattle.tl_model.specs.declared.journal.Act.TheVariants as act
use Rattle.render_core.specs.Claim.{ClaimOf}
use Rattle.render_core.specs.declared.reply.Full.{Full}
use Rattle.render_core.specs.declared.reply.Full.TheVariants as full
use Rattle.render_core.specs.declared.reply.ClaimReply.{ClaimReply}
use Rattle.render_core.specs.declared.reply.ClaimReply.TheVariants as claims
use Rattle.render_core.specs.Step.{Reply, Claimed, Filed, Released, Closed}
use Rattle.edit_desk.specs.Desk.{DeskOf, Finds, Hears}
use Rattle.edit_desk.proofs.Heard.{hears_learns, hears_on}
use Rattle.play_head.specs.Work.{Turn, turns_calls, is_released, is_filed, IsTurn}
use Rattle.play_head.specs.Working.{HearsAct}
use Rattle.play_head.specs.Working as player
use Rattle.play_head.proofs.Desks.{number-hears}
use Rattle.play_head.proofs.Turning.{IsWorking, work_starts, work_goes_on}
use Rattle.render_pool.specs.declared.end.WorkEnd.{WorkEnd}
use Rattle.render_pool.specs.declared.end.WorkEnd.TheVariants as end
use Rattle.render_pool.specs.Working.{GoesOn, refused_as, MakesTurn, WorksTurn, EndsClaim, WorksUntilStopped}

-- the last is none after which a worker goes on
pub is_final : (last : WorkEnd) → ((job : ℕ) → last ≡ end.Filed job → ⊥) → ((job at : ℕ) → last ≡ end.Closed job at → ⊥) → ((len : ℕ) → last ≡ end.Idle len → ⊥) → GoesOn last → ⊥
is_final (end.Filed job) f c i h = f job refl
is_final (end.Closed job at) f c i h = c job at refl
is_final (end.Released job) f c i h = h
is_final (end.Idle len) f c i h = i len refl
is_final (end.Stopped len) f c i h = h
is_final (end.JournalFull len owing) f c i h = h
is_final end.NoMemory f c i h = h

module _ {M K F : Type 0} (library : M → Library F) where
  -- ---- one turn

  act_later : (old mid new : DeskOf M K) (what : Act) (told : Reply F) → Hears library old mid [] → HearsAct library mid new what told → HearsAct library old new what told
  act_later old mid new what told h k =
      hears_on library old mid new [] (record { pass = old.fixed.number; act = what; told = told } ∷ []) h
      (subst (λ (n : ℕ). Hears library mid new (record { pass = n; act = what; told = told } ∷ [])) (number-hears library old mid [] h) k)

  later : (old mid new : DeskOf M K) (claim : ClaimOf) (e : WorkEnd) → Hears library old mid [] → EndsClaim library mid new claim e → EndsClaim library old new claim e
  later old mid new claim (end.Filed job) h k = (k.0, act_later old mid new (act.File claim.job) Filed h k.1)
  later old mid new claim (end.Closed job at) h k = (k.0, either k.1)
    where
      either : HearsAct library mid new (act.File claim.job) (Closed at) ⊎ HearsAct library mid new (act.Release claim.job) (Closed at) → HearsAct library old new (act.File claim.job) (Closed at) ⊎ HearsAct library old new (act.Release claim.job) (Closed at)
      either (inl x) = inl (act_later old mid new (act.File claim.job) (Closed at) h x)
      either (inr x) = inr (act_later old mid new (act.Release claim.job) (Closed at) h x)
  later old mid new claim (end.Released job) h k = (k.0, act_later old mid new (act.Release claim.job) Released h k.1)
  later old mid new claim (end.Idle len) h k = k
  later old mid new claim (end.Stopped len) h k = k
  later old mid new claim (end.JournalFull len owing) h k = k
  later old mid new claim end.NoMemory h k = k

  -- a claim that comes back is ended later
  pub ends_later : (old mid new : DeskOf M K) (claim back : ClaimOf) (e : WorkEnd) → Hears library old mid [] → back ≡ claim → EndsClaim library mid new back e → EndsClaim library old new claim e
  ends_later old mid new claim back e h same k = subst (λ (x : ClaimOf). EndsClaim library old new x e) same (later old mid new back e h k)

  made : (old mid new : DeskOf M K) (claim : ClaimOf) (job : ℕ) (what : Act) (told : Reply F) → job ≡ claim.job → HearsAct library old mid act.Claim (Claimed claim.job claim.recipe) → HearsAct library mid new what told
      → IsTurn (record { job = claim.job; recipe = claim.recipe; end = what; told = told }) → MakesTurn library old new job told
  made old mid new claim job what told same h k is = record {
    turn = record { job = claim.job; recipe = claim.recipe; end = what; told = told };
    job_is = sym same;
    told_is = refl;
    is_turn = is;
    hears = hears_on library old mid new (record { pass = old.fixed.number; act = act.Claim; told = Claimed claim.job claim.recipe } ∷ []) (record { pass = old.fixed.number; act = what; told = told } ∷ []) h
        (subst (λ (n : ℕ). Hears library mid new (record { pass = n; act = what; told = told } ∷ [])) (number-hears library old mid (record { pass = old.fixed.number; act = act.Claim; told = Claimed claim.job claim.recipe } ∷ []) h) k);
  }

  pub turn_made : (old mid new : DeskOf M K) (claim : ClaimOf) (e : WorkEnd) → HearsAct library old mid act.Claim (Claimed claim.job claim.recipe) → EndsClaim library mid new claim e → WorksTurn library old new e
  turn_made old mid new claim (end.Filed job) h k = made old mid new claim job (act.File claim.job) Filed k.0 h k.1 (inl refl, tt)
  turn_made old mid new claim (end.Closed job at) h k = either k.1
    where
      either : HearsAct library mid new (act.File claim.job) (Closed at) ⊎ HearsAct library mid new (act.Release claim.job) (Closed at) → MakesTurn library old new job (Closed at)
      either (inl x) = made old mid new claim job (act.File claim.job) (Closed at) k.0 h x (inl refl, tt)
      either (inr x) = made old mid new claim job (act.Release claim.job) (Closed at) k.0 h x (inr refl, tt)
  turn_made old mid new claim (end.Released job) h k = made old mid new claim job (act.Release claim.job) Released k.0 h k.1 (inr refl, tt)
  turn_made old mid new claim (end.Idle len) h k = absurd k
  turn_made old mid new claim (end.Stopped len) h k = absurd k
  turn_made old mid new claim (end.JournalFull len owing) h k = absurd k
  turn_made old mid new claim end.NoMemory h k = absurd k

  pub idle_turn : (old new : DeskOf M K) (given : ClaimReply) (len : ℕ) → given ≡ claims.Idle len → Finds library old new (Ok given) → WorksTurn library old new (end.Idle len)
  idle_turn old new given len e h =
      let found = subst (λ (r : ClaimReply). Finds library old new (Ok r)) e h in (hears_learns library old new found.0, found.1, found.2, found.3)

  pub stopped_turn : (old new : DeskOf M K) (given : ClaimReply) (len : ℕ) → given ≡ claims.Stopped len → Finds library old new (Ok given) → WorksTurn library old new (end.Stopped len)
  stopped_turn old new given len e h =
      let found = subst (λ (r : ClaimReply). Finds library old new (Ok r)) e h in (hears_learns library old new found.0, found.1, found.2)

  -- a claim that was refused
  pub refused_turn : (old new : DeskOf M K) (why : Full) (e : WorkEnd) → e ≡ refused_as why → Finds library old new (Err why) → WorksTurn library old new e
  refused_turn old new why e same h = subst (WorksTurn library old new) (sym same) (by why h)
    where
      by : (w : Full) → Finds library old new (Err w) → WorksTurn library old new (refused_as w)
      by (full.JournalFull len owing) k = (hears_learns library old new k.0, k.1)
      by full.NoMemory k = (hears_learns library old new k.0, k.1)

  -- ---- one after another

  -- turns were made, each of which ended its job
  pub record IsTurning (old new : DeskOf M K) : Type 0 where
    pub made : ℕ
    pub filed : ℕ
    pub working : IsWorking library old new made filed

  pub turning_starts : (d : DeskOf M K) → IsTurning d d
  turning_starts d = record { made = 0; filed = 0; working = work_starts library d }

  goes_on : (old mid new : DeskOf M K) (job : ℕ) (told : Reply F) → is_released told ≡ false → IsTurning old mid → MakesTurn library mid new job told → IsTurning old new
  goes_on old mid new job told ended w t =
      let one : player.MakesTurn library mid new (is_filed told) false = record {
        turn = t.turn;
        is_turn = t.is_turn;
        filed_is = ap is_filed t.told_is;
        released_is = subst (λ (r : Reply F). is_released r ≡ false) (sym t.told_is) ended;
        hears = t.hears;
      } in
      record { made = _; filed = _; working = work_goes_on library old mid new w.made w.filed (is_filed told) w.working one }

  pub one_filed : (old mid new : DeskOf M K) (job : ℕ) → IsTurning old mid → MakesTurn library mid new job Filed → IsTurning old new
  one_filed old mid new job w t = goes_on old mid new job Filed refl w t

  pub one_closed : (old mid new : DeskOf M K) (job at : ℕ) → IsTurning old mid → MakesTurn library mid new job (Closed at) → IsTurning old new
  one_closed old mid new job at w t = goes_on old mid new job (Closed at) refl w t

  pub none_made : (old mid new : DeskOf M K) → IsTurning old mid → Hears library mid new [] → IsTurning old new
  none_made old mid new w h = record {
    made = w.made;
    filed = w.filed;
    working = record {
      done = w.working.done;
      hears = subst (Hears library old new) (append-nil (turns_calls old.fixed.number w.working.done)) (hears_on library old mid new (turns_calls old.fixed.number w.working.done) [] w.working.hears h);
      ended = w.working.ended;
      filed_is = w.working.filed_is;
      made_is = w.working.made_is;
      few = w.working.few;
    };
  }

  pub turning_ends : (old mid new : DeskOf M K) (last : WorkEnd) → IsTurning old mid → WorksTurn library mid new last → (GoesOn last → ⊥) → WorksUntilStopped library old new last
  turning_ends old mid new last w t final = (record { turns = w.working.done; between = mid; ended = w.working.ended; hears = w.working.hears; works = t }, final)

  pub is_end : (old new : DeskOf M K) (found last : WorkEnd) → found ≡ last → WorksTurn library old new found → WorksTurn library old new last
  is_end old new found last e h = subst (WorksTurn library old new) e h
