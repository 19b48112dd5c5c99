-- A session over a sound outside succeeds, but for want of memory.
use Rattle.std.proofs.Common.{◌≡◌, ℕ, ◌≤◌, cond, Bool, true, false, List, ◌++◌, map, Option, Some, None, Result, Ok, Err, ◌⊎◌, inl, inr, refl, sym, subst, arith}
use Rattle.std.specs.Prelude.{IsTrue, flat_map}
use Rattle.std.specs.List.{AllByRecursion, list_any}
use Rattle.std.specs.Option.{option_map}
use Rattle.tl_model.specs.declared.fault.Ending.{Ending}
use Rattle.tl_ports.specs.declared.fault.FetchFault.{FetchFault}
use Rattle.tl_ports.specs.declared.fault.FetchFault.TheVariants as fetching
use Rattle.tl_ports.specs.declared.fault.PutFault.{PutFault}
use Rattle.tl_ports.specs.declared.fault.PutFault.TheVariants as putting
use Rattle.tl_ports.specs.Outside.{FetchHasCause}
use Rattle.tl_ports.specs.Seen.{SinkSeen, StoreSeen}
use Rattle.render_core.specs.Calls.{CallOf}
use Rattle.edit_desk.specs.Desk.{state_of}
use Rattle.script_lang.specs.declared.out_line.OutLine.{OutLine}
use Rattle.script_lang.specs.declared.script.BodyLine.{BodyLine}
use Rattle.script_lang.specs.declared.script.Call.{Call}
use Rattle.script_lang.specs.declared.script.Call.TheVariants as call
use Rattle.play_head.specs.declared.halt.Halt.{Halt}
use Rattle.play_head.specs.declared.halt.Halt.TheVariants as halt
use Rattle.play_head.specs.declared.stop.Stop.{Stop}
use Rattle.play_head.specs.Carrying.{Carried, carrier}
use Rattle.play_head.specs.Playing.{Setting, Player, Played}
use Rattle.play_head.specs.PlayingLine.{file_wanted}
use Rattle.play_head.specs.PlayingScript.{stop_of}
use Rattle.timeline_app.specs.Course.{AreLines, Course, Halted, HasCause, IsCause, Program, RunsCourse, SaysBy, Session, all_carried, course_lines, halted_calls}
use Rattle.timeline_app.specs.Ending.{ending_status, final_status, is_fault, is_memory, is_sink, stop_status, unless_stopped}
use Rattle.run_laws.specs.Room.{room, workers_in}
use Rattle.run_laws.specs.Sound.{AreExportable, HoldsList, Stays}
use Rattle.run_laws.proofs.Calm.{among, held_fetches, no_fault, no_sink, not_rose}
use Rattle.run_laws.proofs.Full.{course_not_refused}

abbrev pub IsWell : ℕ → Type 0
IsWell status = (status ≡ 0) ⊎ (status ≡ 5)

-- ---- the exports

well_by : (a b c : Bool) → a ≡ false → c ≡ false → IsWell (cond a 4 (cond b 5 (cond c 7 0)))
well_by true b c e f = absurd cc
well_by false true c e f = inr refl
well_by false false true e f = absurd cc
well_by false false false e f = inl refl

endings_well : (endings : List Ending) → list_any is_sink endings ≡ false → list_any is_fault endings ≡ false → IsWell (ending_status endings)
endings_well endings e f = well_by (list_any is_sink endings) (list_any is_memory endings) (list_any is_fault endings) e f

-- ---- the puts

said_well : (tells : Bool) (old new : SinkSeen) (lines : List OutLine) (said : Result Unit PutFault) (what : Option Stop) (endings : List Ending) → Stays old.faults new.faults
    → SaysBy tells old new lines said → IsWell (unless_stopped (ending_status endings) what) → IsWell (final_status said what endings)
said_well tells old new lines (Ok done) what endings stays says well = well
said_well tells old new lines (Err putting.Failed) what endings stays says well = absurd (not_rose old.faults new.faults stays says.1)
said_well tells old new lines (Err putting.NoMemory) what endings stays says well = inr refl

-- ---- what stops the script

-- What a session has that is sound. Of a store that tells nothing no file is asked for: a fetch that fails there raises the count.
pub record IsSoundFor {M K : Type 0} (tells : Bool) (old new : Player M K) (body : List BodyLine) : Type 0 where
  pub store : Stays old.store.faults new.store.faults
  pub screen : Stays old.screen.faults new.screen.faults
  pub out : Stays old.out.faults new.out.faults
  pub lists : IsTrue tells → AllByRecursion (λ (line : BodyLine). HoldsList old.store line.call) body

list_fetches : (tells : Bool) (old new : StoreSeen) (c : Call) (file : List ℕ) (fault : FetchFault) → Stays old.faults new.faults → c ≡ call.Edl file → (IsTrue tells → HoldsList old c) → (fault ≡ fetching.NoMemory → ⊥)
    → FetchHasCause tells old new (file_wanted c) (Err fault) → ⊥
list_fetches tells old new c file fault stays e held other cause =
    held_fetches tells old new (file_wanted (call.Edl file)) fault stays (λ told. subst (HoldsList old) e (held told)) other
    (subst (λ (x : Call). FetchHasCause tells old new (file_wanted x) (Err fault)) e cause)

module _ {M K F : Type 0} (s : Setting M F) (old new : Player M K) where
  why_well : (calls : List (CallOf F)) (h : Halted F) (body : List BodyLine) (why : Halt) → IsSoundFor s.tells.store old new body → (IsTrue s.tells.store → HoldsList old.store h.played.line.call)
      → ((len owing : ℕ) → why ≡ halt.JournalFull len owing → ⊥) → IsCause s old new (calls, h) why → IsWell (stop_status (stop_of why))
  why_well calls h body (halt.Store fault) sound held full cause =
      absurd (list_fetches s.tells.store old.store new.store h.played.line.call cause.2.0 fault sound.store cause.2.1 held cause.1 cause.0)
  why_well calls h body halt.Screen sound held full cause = absurd (not_rose old.screen.faults new.screen.faults sound.screen cause)
  why_well calls h body halt.Out sound held full cause = absurd (not_rose old.out.faults new.out.faults sound.out cause)
  why_well calls h body halt.NoMemory sound held full cause = inr refl
  why_well calls h body halt.OutMemory sound held full cause = inr refl
  why_well calls h body (halt.JournalFull len owing) sound held full cause = absurd (full len owing refl)

  halted_well : (body : List BodyLine) (ps : List (Played F)) (halted : Option (Halted F)) (status : ℕ) → IsSoundFor s.tells.store old new body → AreLines body ps halted
      → ((h : Halted F) (len owing : ℕ) → halted ≡ Some h → h.why ≡ halt.JournalFull len owing → ⊥)
      → HasCause s old new (flat_map (λ (p : Played F). p.calls) ps ++ halted_calls halted) halted
      → IsWell status → IsWell (unless_stopped status (option_map (λ (h : Halted F). stop_of h.why) halted))
  halted_well body ps None status sound lines full cause well = well
  halted_well body ps (Some h) status sound lines full cause well =
      let lists = λ (told : IsTrue s.tells.store). subst (AllByRecursion (λ (line : BodyLine). HoldsList old.store line.call)) lines.1 (sound.lists told) in
      let held = λ (told : IsTrue s.tells.store). among (λ (line : BodyLine). HoldsList old.store line.call) (map (λ (p : Played F). p.line) ps) lines.0 h.played.line (lists told) in
      why_well (flat_map (λ (p : Played F). p.calls) ps ++ h.played.calls) h body h.why sound held (λ len owing. full h len owing refl) cause

module _ {M K F : Type 0} (p : Program M F) (old new : Session M K) where
  pub course_well : (c : Course F) (code : ℕ) → RunsCourse p old new c code → new.player.desk.fixed.number ≡ 0
      → room (workers_in p.others) p.body ≤ new.player.desk.fixed.limit → IsSoundFor p.setting.tells.store old.player new.player p.body → Stays old.vault.faults new.vault.faults
      → AreExportable (p.setting.library new.player.desk.fixed.library) (state_of p.setting.library new.player.desk).exports → IsWell code
  course_well c code runs number fits sound vault packets =
      let endings = map (λ (e : Carried). e.ending) (all_carried c) in
      let by = carrier p.setting.library new.player.desk p.setting.rate p.vault_tells in
      let sinks = no_sink by old.vault.faults old.vault new.vault (all_carried c) runs.carries vault.1 (omega arith) vault.0 in
      let faults = no_fault by old.vault new.vault (all_carried c) (subst (AreExportable by.library) runs.exports packets) runs.files in
      let exports = endings_well endings sinks faults in
      let halted = halted_well p.setting old.player new.player p.body c.played c.halted (ending_status endings) sound runs.lines
      (course_not_refused p old new c code runs number fits) runs.cause exports in
      subst IsWell (sym runs.status)
      (said_well p.setting.tells.out old.player.out new.player.out (course_lines p.setting (p.setting.library new.player.desk.fixed.library) c) c.said
      (option_map (λ (h : Halted F). stop_of h.why) c.halted) endings sound.out runs.says halted)
