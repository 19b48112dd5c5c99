-- What a worker does as one caller of an editing core.
use Rattle.std.specs.Prelude.{◌≡◌, ◌⊎◌, ℕ, false, IsTrue, List, [], ◌∷◌, length}
use Rattle.tl_model.specs.Media.{Library}
use Rattle.tl_model.specs.declared.journal.Act.{Act}
use Rattle.tl_model.specs.declared.journal.Act.TheVariants as act
use Rattle.render_core.specs.Claim.{ClaimOf}
use Rattle.render_core.specs.declared.reply.Full.{Full}
use Rattle.render_core.specs.declared.reply.Full.TheVariants as full
use Rattle.render_core.specs.Step.{Reply, Filed, Released, Closed}
use Rattle.edit_desk.specs.Desk.{DeskOf, Hears, IsFull, state_of}
use Rattle.play_head.specs.Work.{Turn, turn_calls, turns_calls, IsTurn, AreEnded, IsIdle}
use Rattle.play_head.specs.Working.{HearsAct}
use Rattle.render_pool.specs.declared.end.WorkEnd.{WorkEnd}
use Rattle.render_pool.specs.declared.end.WorkEnd.TheVariants as end

-- A worker goes on after these.
abbrev pub GoesOn : WorkEnd → Type 0
GoesOn (end.Filed job) = Unit {0}
GoesOn (end.Closed job at) = Unit {0}
GoesOn (end.Released job) = ⊥
GoesOn (end.Idle len) = Unit {0}
GoesOn (end.Stopped len) = ⊥
GoesOn (end.JournalFull len owing) = ⊥
GoesOn end.NoMemory = ⊥

-- A claim that was refused, as how a turn ended.
abbrev pub refused_as : Full → WorkEnd
refused_as (full.JournalFull len owing) = end.JournalFull len owing
refused_as full.NoMemory = end.NoMemory

module _ {M K F : Type 0} where
  -- One turn was made: this job was claimed, and its end was told this.
  pub record MakesTurn (library : M → Library F) (old new : DeskOf M K) (job : ℕ) (told : Reply F) : Type 0 where
    pub turn : Turn F
    pub job_is : turn.job ≡ job
    pub told_is : turn.told ≡ told
    pub is_turn : IsTurn turn
    pub hears : Hears library old new (turn_calls old.fixed.number turn)

  -- A turn was made, or the caller hears nothing of its own, and the cause holds in what it has then seen.
  abbrev pub WorksTurn : (M → Library F) → (old new : DeskOf M K) → WorkEnd → Type 0
  WorksTurn library old new (end.Filed job) = MakesTurn library old new job Filed
  WorksTurn library old new (end.Closed job at) = MakesTurn library old new job (Closed at)
  WorksTurn library old new (end.Released job) = MakesTurn library old new job Released
  WorksTurn library old new (end.Idle len) = Hears library old new [] × (len ≡ length new.seen)
      × ((state_of library new).is_stopped ≡ false) × IsIdle (state_of library new)
  WorksTurn library old new (end.Stopped len) = Hears library old new [] × (len ≡ length new.seen)
      × IsTrue (state_of library new).is_stopped
  WorksTurn library old new (end.JournalFull len owing) = Hears library old new [] × IsFull library new 2 (full.JournalFull len owing)
  WorksTurn library old new end.NoMemory = Hears library old new [] × IsFull library new 2 full.NoMemory

  -- A claim is ended: its result is filed or comes too late, or it is given back, in time or not.
  abbrev pub EndsClaim : (M → Library F) → (old new : DeskOf M K) → ClaimOf → WorkEnd → Type 0
  EndsClaim library old new claim (end.Filed job) = (job ≡ claim.job) × HearsAct library old new (act.File claim.job) Filed
  EndsClaim library old new claim (end.Closed job at) = (job ≡ claim.job)
      × (HearsAct library old new (act.File claim.job) (Closed at) ⊎ HearsAct library old new (act.Release claim.job) (Closed at))
  EndsClaim library old new claim (end.Released job) = (job ≡ claim.job) × HearsAct library old new (act.Release claim.job) Released
  EndsClaim library old new claim (end.Idle len) = ⊥
  EndsClaim library old new claim (end.Stopped len) = ⊥
  EndsClaim library old new claim (end.JournalFull len owing) = ⊥
  EndsClaim library old new claim end.NoMemory = ⊥

  -- Turns were made, of which none was given back while it was open, and then a last one, which ended so.
  pub record WorksOn (library : M → Library F) (old new : DeskOf M K) (last : WorkEnd) : Type 0 where
    pub turns : List (Turn F)
    pub between : DeskOf M K
    pub ended : AreEnded turns
    pub hears : Hears library old between (turns_calls old.fixed.number turns)
    pub works : WorksTurn library between new last

  -- Until one after which a worker doesn't go on.
  abbrev pub WorksUntilStopped : (M → Library F) → (old new : DeskOf M K) → WorkEnd → Type 0
  WorksUntilStopped library old new last = WorksOn library old new last × (GoesOn last → ⊥)
