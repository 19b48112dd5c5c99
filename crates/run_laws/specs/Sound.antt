-- A sound outside of a run: its store tells what the script asks for, no call to it fails, and each frame that is exported has a packet.
use Rattle.std.specs.Prelude.{◌≡◌, ℕ, ◌-◌, ◌<◌, ◌≤◌, ◌^◌, IsSome, IsTrue, List, length, Some, Ok, true}
use Rattle.std.specs.List.{AllByRecursion}
use Rattle.tl_limits.specs.Limits.{max_text_bytes}
use Rattle.tl_model.specs.Cells.{recipes}
use Rattle.tl_model.specs.Media.{Library}
use Rattle.tl_model.specs.declared.recipe.Recipe.{Recipe}
use Rattle.tl_ports.specs.Outside.{Wanted}
use Rattle.tl_ports.specs.Seen.{Outside, StoreSeen}
use Rattle.render_core.specs.Export.{ExportOf}
use Rattle.edit_desk.specs.Desk.{state_of}
use Rattle.clip_store.specs.Render.{library_of}
use Rattle.clip_store.specs.declared.fault.LoadFault.{LoadFault}
use Rattle.script_lang.specs.ScriptText.{script}
use Rattle.script_lang.specs.declared.script.BodyLine.{BodyLine}
use Rattle.script_lang.specs.declared.script.Call.{Call}
use Rattle.script_lang.specs.declared.script.Call.TheVariants as call
use Rattle.script_lang.specs.declared.script.ClipLine.{ClipLine}
use Rattle.script_lang.specs.declared.script.Script.{Script}
use Rattle.smart_export.specs.Rendered.{packet_of}
use Rattle.timeline_app.specs.declared.opening.Opening.{Opening}
use Rattle.timeline_app.specs.declared.outcome.Outcome.{Outcome}
use Rattle.timeline_app.specs.declared.session.HeadStop.TheVariants as stop
use Rattle.timeline_app.specs.declared.words.Asked.{Asked}
use Rattle.timeline_app.specs.Made.{Around, IsOver}
use Rattle.timeline_app.specs.Opening.{IsOpened}
use Rattle.timeline_app.specs.Runs.{desk_at}
use Rattle.timeline_app.specs.Session.{StopsAmong, clip_at, fetched_by, text_at}
use Rattle.timeline_app.specs.Words.{AsksFor, is_of_form}
use Rattle.run_laws.specs.Room.{room, workers_in}

-- ---- the store

-- The store holds a file within its limit.
abbrev pub HoldsFile : StoreSeen → Wanted → Type 0
HoldsFile store file = (bytes : List ℕ) × (store.file file.name ≡ Some bytes) × (length bytes ≤ file.limit)

-- So of the file of a line that reads an edit list; of other lines nothing is said.
abbrev pub HoldsList : StoreSeen → Call → Type 0
HoldsList store (call.Edl file) = HoldsFile store (text_at file)
HoldsList store other = Unit {0}

-- It holds a script of this name, which has no fault, and the files of its lines.
pub record HoldsScript (store : StoreSeen) (name : List ℕ) (head : Script) : Type 0 where
  pub text : List ℕ
  pub held : store.file name ≡ Some text
  pub few : length text ≤ max_text_bytes
  pub read : script text ≡ Ok head
  pub clips : AllByRecursion (λ (line : ClipLine). HoldsFile store (clip_at line)) head.clips
  pub lists : AllByRecursion (λ (line : BodyLine). HoldsList store line.call) head.body

-- ---- the counts of faults

-- The count is as it was, and isn't the last value of a 64-bit counter.
abbrev pub Stays : (before now : ℕ) → Type 0
Stays before now = (now ≡ before) × (before < 2 ^ 64 - 1)

pub record CountsStay (old new : Outside) : Type 0 where
  pub store : Stays old.store.faults new.store.faults
  pub vault : Stays old.vault.faults new.vault.faults
  pub screen : Stays old.screen.faults new.screen.faults
  pub out : Stays old.out.faults new.out.faults

-- ---- the frames

-- A recipe renders, and its packet isn't too long.
abbrev pub IsExportable : {F : Type 0} → Library F → Recipe → Type 0
IsExportable {F} lib recipe = (picture : F) × (lib.render recipe ≡ Ok picture) × IsSome (packet_of lib recipe picture)

-- Each frame of the timelines that were asked for.
abbrev pub AreExportable : {F : Type 0} → Library F → List ExportOf → Type 0
AreExportable lib exports = AllByRecursion (λ (export : ExportOf). AllByRecursion (IsExportable lib) (recipes export.line)) exports

-- ---- a session

-- A session that was opened is sound: no count rises, its journal has room beside so many passes, and each export has its packets. Where
-- the store tells its files, they have the edit lists that the lines read. Of one that tells nothing, as real folders do, only its count
-- is spoken of.
pub record IsSoundSession (others : ℕ) (asked : Asked) (over : Around) (outcome : Outcome) (opened : Opening) : Type 0 where
  pub calm : CountsStay over.old over.new
  pub fits : room (workers_in others) opened.script.body ≤ asked.journal
  pub lists : IsTrue over.tells.store → AllByRecursion (λ (line : BodyLine). HoldsList over.old.store line.call) opened.script.body
  pub packets : AreExportable (library_of opened.library) (state_of library_of (desk_at asked opened.library outcome.journal)).exports

-- ---- the whole

-- What the words ask for is in the store, its clips have no fault, and the journal has room for it beside so many passes.
pub record IsReady (others : ℕ) (asked : Asked) (old new : Outside) : Type 0 where
  pub head : Script
  pub holds : HoldsScript old.store asked.script.now head
  pub clips : (n : ℕ) (fault : LoadFault) → StopsAmong (fetched_by true old.store new.store) head.clips (stop.Clip n fault) → ⊥
  pub fits : room (workers_in others) head.body ≤ asked.journal

-- The store tells its files, what the words ask for is ready, no count rises, and each export has its packets.
pub record IsSoundOver (others : ℕ) (asked : Asked) (over : Around) (outcome : Outcome) : Type 0 where
  pub told : over.tells.store ≡ true
  pub ready : IsReady others asked over.old over.new
  pub calm : CountsStay over.old over.new
  pub packets : (o : Opening) → IsOpened (fetched_by true over.old.store over.old.store) asked.script.now o
      → AreExportable (library_of o.library) (state_of library_of (desk_at asked o.library outcome.journal)).exports

-- The words are of the form, and what their session runs over is sound. For `gen:N` that is a store that is made.
pub record IsSound (others : ℕ → ℕ) (words : List (List ℕ)) (given : Around) (outcome : Outcome) : Type 0 where
  pub form : is_of_form words ≡ true
  pub sound : (asked : Asked) (over : Around) → AsksFor words asked → IsOver asked.script.now given over
      → IsSoundOver (others asked.workers) asked over outcome
