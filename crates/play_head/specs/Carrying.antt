-- What carrying out exports does, as one caller of an editing core.
use Rattle.std.specs.Prelude.{◌≡◌, ◌≤◌, ◌⊎◌, ℕ, Bool, IsTrue, List, [], ◌∷◌, Some, None, Result, Ok, Err}
use Rattle.std.specs.List.{flat_map, position}
use Rattle.tl_model.specs.Cells.{Cell, cells}
use Rattle.tl_model.specs.Media.{Library}
use Rattle.tl_model.specs.declared.fault.Ending.{Ending}
use Rattle.tl_model.specs.declared.fault.Ending.TheVariants as ending
use Rattle.tl_model.specs.declared.journal.Act.TheVariants as act
use Rattle.tl_ports.specs.declared.fault.PutFault.{PutFault}
use Rattle.tl_ports.specs.declared.fault.PutFault.TheVariants as putting
use Rattle.tl_ports.specs.Outside.{KeepsOthers, Rose}
use Rattle.tl_ports.specs.Seen.{VaultSeen}
use Rattle.render_core.specs.Calls.{CallOf}
use Rattle.render_core.specs.Export.{ExportJobOf, is_untaken}
use Rattle.render_core.specs.Step.{Taken, Silent}
use Rattle.smart_export.specs.Ends.{all_frames, Ends, IsCut}
use Rattle.edit_desk.specs.Desk.{DeskOf, Enters, Hears, state_of}

-- An export that was carried out: its number, its name, its timeline, and how it ended.
pub record Carried : Type 0 where
  pub export : ℕ
  pub name : List ℕ
  pub line : List Cell
  pub ending : Ending

abbrev pub carried_as : ExportJobOf → Ending → Carried
carried_as job why = record { export = job.export; name = job.name; line = cells job.segments; ending = why }

-- It was taken, and then ended.
abbrev pub carried_calls : {F : Type 0} → (number : ℕ) → Carried → List (CallOf F)
carried_calls number c =
    record { pass = number; act = act.Take; told = Taken c.export c.name c.line }
    ∷ record { pass = number; act = act.End c.export c.ending; told = Silent } ∷ []

-- What a vault is given: what the library means, the frames a second, and whether the vault tells its files.
pub record Carrier (F : Type 0) : Type 0 where
  pub library : Library F
  pub rate : ℕ
  pub tells : Bool

-- Some front of the file over its first frames, or the file as it was before.
abbrev pub IsPartOrOld : {F : Type 0} → Carrier F → (old new : VaultSeen) → Carried → Type 0
IsPartOrOld by old new c = IsTrue by.tells → (new.file c.name ≡ old.file c.name)
    ⊎ ((held : List ℕ) × (new.file c.name ≡ Some held) × IsCut by.tells held (all_frames by.library c.line by.rate))

-- What the export's file holds then. Where the vault failed or memory ran out, it may be as it was before.
abbrev pub Leaves : {F : Type 0} → Carrier F → (old new : VaultSeen) → Carried → Ending → Type 0
Leaves by old new c (ending.Done count) = (held : List ℕ) × (IsTrue by.tells → new.file c.name ≡ Some held)
    × Ends by.tells held (all_frames by.library c.line by.rate) (ending.Done count)
Leaves by old new c (ending.ClipFault at fault) = (held : List ℕ) × (IsTrue by.tells → new.file c.name ≡ Some held)
    × Ends by.tells held (all_frames by.library c.line by.rate) (ending.ClipFault at fault)
Leaves by old new c (ending.SliceTooLong at) = (held : List ℕ) × (IsTrue by.tells → new.file c.name ≡ Some held)
    × Ends by.tells held (all_frames by.library c.line by.rate) (ending.SliceTooLong at)
Leaves by old new c ending.Sink = IsPartOrOld by old new c
Leaves by old new c ending.NoMemory = IsPartOrOld by old new c

-- The ending of an export whose file couldn't be begun or ended.
abbrev pub ending_of : PutFault → Ending
ending_of putting.Failed = ending.Sink
ending_of putting.NoMemory = ending.NoMemory

-- A fault of the frames stands before one of the file's end.
abbrev pub ending_after : (written : Ending) (ended : Result Unit PutFault) → Ending
ending_after (ending.Done count) (Ok done) = ending.Done count
ending_after (ending.Done count) (Err fault) = ending_of fault
ending_after (ending.ClipFault at fault) ended = ending.ClipFault at fault
ending_after (ending.SliceTooLong at) ended = ending.SliceTooLong at
ending_after ending.Sink ended = ending.Sink
ending_after ending.NoMemory ended = ending.NoMemory

-- `Sink` comes only where the vault's count rose, and `Done` leaves the count as it was. Under any other ending the count may have risen
-- where the file was ended.
abbrev pub EndsForCause : (before now : ℕ) → Ending → Type 0
EndsForCause before now (ending.Done count) = now ≡ before
EndsForCause before now (ending.ClipFault at fault) = before ≤ now
EndsForCause before now (ending.SliceTooLong at) = before ≤ now
EndsForCause before now ending.Sink = Rose before now
EndsForCause before now ending.NoMemory = before ≤ now

-- One export's file was begun, written and ended, and no other file changed.
pub record CarriesOne {F : Type 0} (by : Carrier F) (old new : VaultSeen) (c : Carried) : Type 0 where
  pub leaves : Leaves by old new c c.ending
  pub others : KeepsOthers by.tells old new c.name
  pub idle : new.begun ≡ None
  pub cause : EndsForCause old.faults new.faults c.ending

-- Exports were carried out one after another.
abbrev pub CarriesAll : {F : Type 0} → Carrier F → (old new : VaultSeen) → List Carried → Type 0
CarriesAll by old new [] = new ≡ old
CarriesAll by old new (c ∷ more) = (between : VaultSeen) × CarriesOne by old between c × CarriesAll by between new more

-- What a caller knows of an editing core, and what is seen of its vault.
pub record Exporter (M K : Type 0) : Type 0 where
  pub desk : DeskOf M K
  pub vault : VaultSeen

abbrev pub exporter : {M K : Type 0} → DeskOf M K → VaultSeen → Exporter M K
exporter desk vault = record { desk = desk; vault = vault }

module _ {M K F : Type 0} where
  -- What the vault is given over the library of a desk.
  abbrev pub carrier : (M → Library F) → DeskOf M K → (rate : ℕ) (tells : Bool) → Carrier F
  carrier library desk rate tells = record { library = library desk.fixed.library; rate = rate; tells = tells }

  -- An export that the caller had taken was carried out and ended.
  pub record CarriesTaken (library : M → Library F) (by : Carrier F) (old new : Exporter M K) (job : ExportJobOf) : Type 0 where
    pub ending : Ending
    pub ends : Enters library old.desk new.desk (act.End job.export ending) Silent
    pub carries : CarriesOne by old.vault new.vault (carried_as job ending)

  -- Each export that the caller took was carried out and ended, and none is left that nobody took.
  pub record FinishesExports (library : M → Library F) (old new : DeskOf M K) (carried : List Carried) : Type 0 where
    pub hears : Hears library old new (flat_map (carried_calls old.fixed.number) carried)
    pub done : position is_untaken (state_of library new).exports ≡ None

  -- The same of the desk, and what the vault then has of them.
  abbrev pub FinishesAll : (M → Library F) → Carrier F → (old new : Exporter M K) → Type 0
  FinishesAll library by old new = (carried : List Carried)
      × FinishesExports library old.desk new.desk carried × CarriesAll by old.vault new.vault carried
