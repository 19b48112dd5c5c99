-- What the exporter does as one caller of an editing core.
use Rattle.std.specs.Prelude.{◌≡◌, ℕ, false, IsTrue, List, [], length, None}
use Rattle.std.specs.List.{flat_map, position}
use Rattle.tl_model.specs.Media.{Library}
use Rattle.tl_model.specs.declared.fault.Ending.{Ending}
use Rattle.tl_model.specs.declared.journal.Act.TheVariants as act
use Rattle.render_core.specs.Export.{ExportJobOf, is_untaken}
use Rattle.render_core.specs.Step.{Silent}
use Rattle.edit_desk.specs.Desk.{DeskOf, Enters, Hears, state_of}
use Rattle.play_head.specs.Carrying.{Carried, Carrier, Exporter, CarriesOne, CarriesAll, carried_as, carried_calls}
use Rattle.render_pool.specs.declared.end.ExportEnd.{ExportEnd}
use Rattle.render_pool.specs.declared.end.ExportEnd.TheVariants as end

module _ {M K F : Type 0} where
  -- An export that the caller had taken was carried out, and ended so.
  abbrev pub EndsTaken : (M → Library F) → Carrier F → (old new : Exporter M K) → ExportJobOf × Ending → Type 0
  EndsTaken library by old new (job, ending) =
      Enters library old.desk new.desk (act.End job.export ending) Silent × CarriesOne by old.vault new.vault (carried_as job ending)

  -- This export was taken, carried out, and ended.
  pub record CarriesOut (library : M → Library F) (by : Carrier F) (old new : Exporter M K) (c : Carried) : Type 0 where
    pub hears : Hears library old.desk new.desk (carried_calls old.desk.fixed.number c)
    pub carries : CarriesOne by old.vault new.vault c

  -- The caller hears nothing of its own, and the vault stays. There is no export that nobody took, in a journal of this length.
  pub record FindsNone (library : M → Library F) (old new : Exporter M K) (len : ℕ) : Type 0 where
    pub hears : Hears library old.desk new.desk []
    pub vault : new.vault ≡ old.vault
    pub len_is : len ≡ length new.desk.seen
    pub none_left : position is_untaken (state_of library new.desk).exports ≡ None

  -- An export was carried out and ended so, or none was there, and whether the session was stopped.
  abbrev pub ExportsTurn : (M → Library F) → Carrier F → (old new : Exporter M K) → ExportEnd → Type 0
  ExportsTurn library by old new (end.Ended export ending) =
      (c : Carried) × (c.export ≡ export) × (c.ending ≡ ending) × CarriesOut library by old new c
  ExportsTurn library by old new (end.Idle len) = FindsNone library old new len × ((state_of library new.desk).is_stopped ≡ false)
  ExportsTurn library by old new (end.Stopped len) = FindsNone library old new len × IsTrue (state_of library new.desk).is_stopped

  -- Exports were carried out one after another, until the session was stopped and none was left that nobody took.
  pub record ExportsAll (library : M → Library F) (by : Carrier F) (old new : Exporter M K) : Type 0 where
    pub carried : List Carried
    pub hears : Hears library old.desk new.desk (flat_map (carried_calls old.desk.fixed.number) carried)
    pub carries : CarriesAll by old.vault new.vault carried
    pub none_left : position is_untaken (state_of library new.desk).exports ≡ None
    pub stopped : IsTrue (state_of library new.desk).is_stopped
