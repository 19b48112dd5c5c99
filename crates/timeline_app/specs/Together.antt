-- What main and its crew do together, each with a pass of one studio.
use Rattle.std.specs.Prelude.{◌≡◌, ◌+◌, ◌<◌, ◌≤◌, ℕ, Bool, List, [], length, None, Result, slice_index_or}
use Rattle.std.specs.List.{flat_map}
use Rattle.tl_model.specs.Media.{Library}
use Rattle.tl_model.specs.declared.journal.Entry.{Entry}
use Rattle.tl_ports.specs.Seen.{Outside}
use Rattle.turn_lock.specs.Passes.{TurnOf, PassOf}
use Rattle.render_core.specs.Board.{BoardOf}
use Rattle.render_core.specs.Calls.{CallOf}
use Rattle.edit_desk.specs.Desk.{DeskOf, heard}
use Rattle.studio.specs.Known.{KeptOf, Knows, desk_at}
use Rattle.studio.specs.Parts.{KnowsAs}
use Rattle.play_head.specs.declared.ending.Playback.{Playback}
use Rattle.play_head.specs.declared.stop.Stop.{Stop}
use Rattle.play_head.specs.Carrying.{Carried, Carrier, CarriesAll, carried_calls, carrier}
use Rattle.play_head.specs.Playing.{Player, player}
use Rattle.play_head.specs.Work.{Turn, AreTurns, turns_calls}
use Rattle.crew.specs.declared.task.Slot.{Slot}
use Rattle.crew.specs.declared.task.Slot.TheVariants as slot
use Rattle.crew.specs.Joining.{HasIn, Stays}
use Rattle.crew.specs.Scripts.{PlaysAndStops}
use Rattle.timeline_app.specs.Course.{Program}

-- ---- slots by their numbers

module _ {T A : Type 0} where
  -- The slot has a task like this.
  abbrev pub IsReadyAs : Slot T A → (T → Type 0) → Type 0
  IsReadyAs (slot.Ready task) is = is task
  IsReadyAs (slot.Done answer) is = ⊥
  IsReadyAs slot.Empty is = ⊥

  -- The slot has an answer like this.
  abbrev pub IsDoneAs : Slot T A → (A → Type 0) → Type 0
  IsDoneAs (slot.Ready task) is = ⊥
  IsDoneAs (slot.Done answer) is = is answer
  IsDoneAs slot.Empty is = ⊥

  -- The same of each slot of a list. They are numbered from 2 on.
  abbrev pub AreReadyAs : List (Slot T A) → (ℕ → T → Type 0) → Type 0
  AreReadyAs slots are = (i : ℕ) (other : Slot T A) → i < length slots → IsReadyAs (slice_index_or slots i other) (are (2 + i))

  abbrev pub AreDoneAs : List (Slot T A) → (ℕ → A → Type 0) → Type 0
  AreDoneAs slots are = (i : ℕ) (other : Slot T A) → i < length slots → IsDoneAs (slice_index_or slots i other) (are (2 + i))

-- ---- what each pass did

module _ {M F : Type 0} (library : M → Library F) (studio : TurnOf (BoardOf M)) where
  -- A pass of this number, with which nobody made a call yet.
  pub record IsFresh (number : ℕ) (pass : PassOf (BoardOf M)) : Type 0 where
    pub knows : Knows library studio pass
    pub numbered : pass.number ≡ number
    pub own : pass.own ≡ []

  -- A pass of this number, with which just these calls were made.
  pub record Made (number : ℕ) (calls : List (CallOf F)) (pass : PassOf (BoardOf M)) : Type 0 where
    pub knows : Knows library studio pass
    pub numbered : pass.number ≡ number
    pub heard_is : heard library (desk_at studio pass) ≡ calls

  -- They were turns of work.
  abbrev pub MadeTurns : (number : ℕ) → PassOf (BoardOf M) → Type 0
  MadeTurns number pass = (turns : List (Turn F)) × AreTurns turns × Made number (turns_calls number turns) pass

  -- They were those of exports that were carried out.
  abbrev pub MadeExports : List Carried → PassOf (BoardOf M) → Type 0
  MadeExports carried pass = Made 1 (flat_map (carried_calls 1) carried) pass

  module _ (main : PassOf (BoardOf M)) where
    -- Main joined a pass of this number, with which just these calls were made.
    abbrev pub HasMade : (number : ℕ) → List (CallOf F) → Type 0
    HasMade number calls = (pass : PassOf (BoardOf M)) × Made number calls pass × HasIn main pass

    abbrev pub HasWorked : (number : ℕ) → Type 0
    HasWorked number = (turns : List (Turn F)) × AreTurns turns × HasMade number (turns_calls number turns)

-- ---- the whole

-- Main's pass, and what is seen of the outside.
pub record MainOf (M : Type 0) : Type 0 where
  pub pass : PassOf (BoardOf M)
  pub seen : Outside

module _ {M F : Type 0} (p : Program M F) (studio : TurnOf (BoardOf M)) where
  -- What main has, as a player of scripts.
  abbrev pub player_at : MainOf M → Player M (KeptOf M)
  player_at main = player (desk_at studio main.pass) main.seen.store main.seen.screen main.seen.out

  -- What the vault is given.
  abbrev pub carrier_of : PassOf (BoardOf M) → Carrier F
  carrier_of pass = carrier p.setting.library (desk_at studio pass) p.setting.rate p.vault_tells

  -- Main played the script and stopped the session, while the exporter carried out exports. This is what they left: the exporter's pass,
  -- main's, and how the script ended.
  pub record WorkTogether (old : MainOf M) (new : Outside) (left : PassOf (BoardOf M) × PassOf (BoardOf M) × Playback) : Type 0 where
    pub plays : PlaysAndStops p.setting (player_at old) (player_at (record { pass = left.1; seen = new })) p.body
        (left.2.result, left.2.is_silenced)
    pub main : KnowsAs p.setting.library studio old.pass left.1
    pub early : List Carried
    pub exports : MadeExports p.setting.library studio early left.0
    pub carries : CarriesAll (carrier_of old.pass) old.seen.vault new.vault early
    pub idle : new.vault.begun ≡ None

  -- Main played the script and stopped the session, while pass 1 carried out exports and others made turns of work. Then main joined them.
  pub record PlaysTogether (old new : MainOf M) (ended : Result Unit Stop × Bool) : Type 0 where
    pub stopped : PassOf (BoardOf M)
    pub plays : PlaysAndStops p.setting (player_at (record old { pass = record old.pass { made = p.others } }))
        (player_at (record new { pass = stopped })) p.body ended
    pub stays : Stays p.setting.library studio stopped new.pass
    pub knows : Knows p.setting.library studio stopped
    pub early : List Carried
    pub exports : HasMade p.setting.library studio new.pass 1 (flat_map (carried_calls 1) early)
    pub carries : CarriesAll (carrier_of new.pass) old.seen.vault new.seen.vault early
    pub workers : (number : ℕ) → 2 ≤ number → number ≤ p.others → HasWorked p.setting.library studio new.pass number
    pub number : new.pass.number ≡ old.pass.number
    pub made : new.pass.made ≡ p.others
    pub idle : new.seen.vault.begun ≡ None

-- ---- main's desk, without its pass

abbrev pub main_desk : {M : Type 0} → TurnOf (BoardOf M) → (journal : List Entry) → DeskOf M (Unit {0})
main_desk studio journal = record {
  fixed = record { number = 0; library = studio.start.library; cache = studio.start.cache; limit = studio.start.limit; kept = tt };
  seen = journal;
}
