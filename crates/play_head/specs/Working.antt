-- What turns of work do at a desk, and what they tell.
use Rattle.std.specs.Prelude.{◌≡◌, ◌⊎◌, ℕ, ◌<◌, ◌≤◌, Bool, true, false, IsTrue, List, [], ◌∷◌, length, Option, Some, None, Result, Ok, Err}
use Rattle.tl_model.specs.Media.{Library}
use Rattle.tl_model.specs.declared.journal.Act.{Act}
use Rattle.tl_model.specs.declared.journal.Act.TheVariants as act
use Rattle.render_core.specs.declared.reply.Full.{Full}
use Rattle.render_core.specs.Claim.{ClaimOf}
use Rattle.render_core.specs.Step.{Reply, Filed, Released, Closed}
use Rattle.edit_desk.specs.Desk.{DeskOf, Hears, IsFull, state_of}
use Rattle.play_head.specs.declared.work.Turned.{Turned}
use Rattle.play_head.specs.declared.work.Turned.TheVariants as turned
use Rattle.play_head.specs.declared.work.Worked.{Worked}
use Rattle.play_head.specs.Heard.{Refused}
use Rattle.play_head.specs.Work.{Turn, turn_calls, turns_calls, is_released, is_filed, filed_count, IsTurn, AreTurns, EndsReleased, IsIdle}

module _ {M K F : Type 0} where
  -- The caller hears this one act of its own.
  abbrev pub HearsAct : (M → Library F) → (old new : DeskOf M K) → Act → Reply F → Type 0
  HearsAct library old new what told = Hears library old new (record { pass = old.fixed.number; act = what; told = told } ∷ [])

  -- A claim is ended: its result is filed or comes too late, or it is given back, in time or not.
  abbrev pub Ends : (M → Library F) → (old new : DeskOf M K) → ClaimOf → Turned → Type 0
  Ends library old new claim (turned.Ended true) = HearsAct library old new (act.File claim.job) Filed
  Ends library old new claim (turned.Ended false) =
      (at : ℕ) × (HearsAct library old new (act.File claim.job) (Closed at) ⊎ HearsAct library old new (act.Release claim.job) (Closed at))
  Ends library old new claim turned.Released = HearsAct library old new (act.Release claim.job) Released
  Ends library old new claim turned.Idle = ⊥
  Ends library old new claim turned.Stopped = ⊥

  -- One turn was made. Whether its result was filed, and whether its job was given back while it was open.
  pub record MakesTurn (library : M → Library F) (old new : DeskOf M K) (filed released : Bool) : Type 0 where
    pub turn : Turn F
    pub is_turn : IsTurn turn
    pub filed_is : is_filed turn.told ≡ filed
    pub released_is : is_released turn.told ≡ released
    pub hears : Hears library old new (turn_calls old.fixed.number turn)

  -- A turn, or the cause for which there was none.
  abbrev pub Turns : (M → Library F) → (old new : DeskOf M K) → Result Turned Full → Type 0
  Turns library old new (Ok (turned.Ended filed)) = MakesTurn library old new filed false
  Turns library old new (Ok turned.Released) = MakesTurn library old new false true
  Turns library old new (Ok turned.Idle) = Hears library old new [] × IsIdle (state_of library new)
  Turns library old new (Ok turned.Stopped) = Hears library old new [] × IsTrue (state_of library new).is_stopped
  Turns library old new (Err why) = Refused library old new 2 why

  -- Why no more turns were made: a claim was refused; or there were as many as were asked for, the last gave its job back, no job is
  -- queued, or the session was stopped.
  abbrev pub HasCause : (M → Library F) → (new : DeskOf M K) (turns : ℕ) → List (Turn F) → Option Full → Type 0
  HasCause library new turns done (Some why) = (length done < turns) × IsFull library new 2 why
  HasCause library new turns done None =
      (length done ≡ turns) ⊎ (EndsReleased done ⊎ (IsIdle (state_of library new) ⊎ IsTrue (state_of library new).is_stopped))

  -- The caller hears the turns that were made and nothing else, and is told how many results were filed.
  pub record Works (library : M → Library F) (old new : DeskOf M K) (turns : ℕ) (worked : Worked) : Type 0 where
    pub done : List (Turn F)
    pub hears : Hears library old new (turns_calls old.fixed.number done)
    pub are_turns : AreTurns done
    pub filed : worked.filed ≡ filed_count done
    pub few : length done ≤ turns
    pub cause : HasCause library new turns done worked.refused
