-- A session's parts, its script, its stop and its exports, make its course.
use Rattle.std.proofs.Common.{◌≡◌, ℕ, ◌≤◌, Bool, List, [], ◌∷◌, ◌++◌, map, Option, Some, None, Result, Ok, Err, inl, inr, refl, sym, ap, subst, ◌∙◌}
use Rattle.std.specs.Prelude.{IsTrue}
use Rattle.std.specs.List.{flat_map}
use Rattle.std.specs.Option.{option_map}
use Rattle.tl_model.specs.Media.{Library}
use Rattle.tl_model.specs.declared.journal.Act.{Act}
use Rattle.tl_model.specs.declared.journal.Act.TheVariants as act
use Rattle.tl_ports.specs.declared.fault.PutFault.{PutFault}
use Rattle.tl_ports.specs.Seen.{SinkSeen, VaultSeen}
use Rattle.render_core.specs.Calls.{CallOf}
use Rattle.render_core.specs.Step.{Silent}
use Rattle.edit_desk.specs.Desk.{FixedOf, DeskOf, IsDesk, Learns, Enters, Hears, heard, state_of}
use Rattle.edit_desk.specs.Was.{Was}
use Rattle.script_lang.specs.declared.out_line.OutLine.{OutLine}
use Rattle.script_lang.specs.declared.script.BodyLine.{BodyLine}
use Rattle.script_lang.specs.declared.script.Call.{Call}
use Rattle.script_lang.specs.declared.script.Call.TheVariants as call
use Rattle.play_head.specs.Carrying.{Carried, CarriesAll, FinishesExports, carried_calls, carrier}
use Rattle.play_head.specs.Playing.{Setting, Player, Played, AreWhole, HasSomeCalls, HasTurns, lines_of, rows_of}
use Rattle.play_head.specs.PlayingLine.{texts}
use Rattle.play_head.specs.PlayingScript.{stop_of}
use Rattle.play_head.proofs.Desks.{number-hears}
use Rattle.play_head.proofs.Growing.{are_later}
use Rattle.timeline_app.specs.Course.{Course, Halted, Program, Session, GotFirst, HasCause, IsBegun, IsCrew, all_carried, IsOutputOf, LeaveAll, AreNumbered, RunsCourse, SaysBy, SaysRest, ShowsBy, course_rows, ended_export, course_calls, halted_lines, script_calls, stop_call}
use Rattle.timeline_app.specs.Ending.{end_lines, final_status}
use Rattle.timeline_app.proofs.Courses.{ScriptPart, calls_all, end_hears, joined_hears, heard_nothing}
use Rattle.timeline_app.proofs.First.{first_then, more_rest}
use Rattle.timeline_app.proofs.Speaking.{says_silent, says_then}

-- ---- the calls of a line that was begun, whatever the caller hears later

module _ {M K L F : Type 0} (s : Setting M F) (d : DeskOf M K) (new : DeskOf M L) where
  some_later : (p : Played F) (c : Call) (left : List Act) → new.fixed.number ≡ d.fixed.number → HasSomeCalls s d p c left → HasSomeCalls s new p c left
  some_later p (call.Work turns) left e (inl h) = inl h
  some_later p (call.Work turns) left e (inr h) = inr (h.0, subst (λ (n : ℕ). HasTurns n turns p.calls h.0) (sym e) h.1, h.2)
  some_later p (call.Insert at name first len) left e h = h
  some_later p (call.Overwrite at name first len) left e h = h
  some_later p (call.Extract at len) left e h = h
  some_later p (call.Lift at len) left e h = h
  some_later p (call.Split at) left e h = h
  some_later p (call.TrimIn at by) left e h = h
  some_later p (call.TrimOut at by) left e h = h
  some_later p (call.Slip at by) left e h = h
  some_later p (call.Dissolve at len) left e h = h
  some_later p (call.Relink at name first) left e h = h
  some_later p (call.Edl file) left e h = h
  some_later p call.Undo left e h = h
  some_later p call.Redo left e h = h
  some_later p (call.Want first len) left e h = h
  some_later p (call.Cancel first len) left e h = h
  some_later p (call.Play n) left e h = h
  some_later p (call.Show n) left e h = h
  some_later p (call.Roll first len) left e h = h
  some_later p (call.Export file) left e h = h

  pub begun_as : (halted : Option (Halted F)) → new.fixed.number ≡ d.fixed.number → new.fixed.library ≡ d.fixed.library → IsBegun s d halted → IsBegun s new halted
  begun_as None e m h = tt
  begun_as (Some x) e m h = (
    some_later x.played x.played.line.call x.left e h.0,
    h.1,
    subst (λ (l : M). IsOutputOf s (s.library l) x) (sym m) h.2,
  )

-- what is put after a script's lines
says_rest : (tells : Bool) (old mid new : SinkSeen) (first more : List OutLine) (one said : Result Unit PutFault) → old.faults ≤ mid.faults → SaysBy tells old mid first one → SaysRest tells mid new more (one, said) → SaysBy tells old new (first ++ more) said
says_rest tells old mid new first more (Ok done) said le h k = says_then tells old mid new first more said h le k
says_rest tells old mid new first more (Err fault) said le h k =
    subst (λ (x : SinkSeen). SaysBy tells old x (first ++ more) said) (sym k.1)
    (subst (λ (r : Result Unit PutFault). SaysBy tells old mid (first ++ more) r) (sym k.0) (says_silent tells old mid first more fault h))

module _ {M K F : Type 0} where
  -- the script's part of a course, with what it put and why it stopped, whatever the caller hears later
  pub record Scripted (s : Setting M F) (old played : Player M K) (body : List BodyLine) (c : Course F) (one : Result Unit PutFault) : Type 0 where
    pub part : ScriptPart s old played body c
    pub says : SaysBy s.tells.out old.out played.out (flat_map (lines_of (s.library old.desk.fixed.library)) c.played ++ halted_lines c.halted) one
    pub shows : ShowsBy s.tells.screen old.screen played.screen (course_rows s (s.library old.desk.fixed.library) c) (option_map (λ (h : Halted F). h.why) c.halted)
    pub said_whole : GotFirst s.tells.out old.out played.out (texts (flat_map (lines_of (s.library old.desk.fixed.library)) c.played))
    pub shown_whole : GotFirst s.tells.screen old.screen played.screen (flat_map (rows_of s (s.library old.desk.fixed.library)) c.played)
    pub le : old.out.faults ≤ played.out.faults
    pub files : played.store.file ≡ old.store.file
    pub cause : (new : DeskOf M K) (out : SinkSeen) (more : List (CallOf F)) → Hears s.library played.desk new more → played.out.faults ≤ out.faults → HasCause s old (record played { desk = new; out = out }) (script_calls c) c.halted

  -- what the machine and the names say of the exports
  pub record Exported (p : Program M F) (old new : Session M K) (carried : List Carried) : Type 0 where
    pub files : LeaveAll (carrier p.setting.library new.player.desk p.setting.rate p.vault_tells) old.vault new.vault carried
    pub exports : (state_of p.setting.library new.player.desk).exports ≡ map ended_export carried
    pub numbers : AreNumbered 1 carried

  -- a stop after a script, what others entered then, and the exports that were left: the caller hears no other calls
  pub record Closed (s : Setting M F) (played : Player M K) (desk : DeskOf M K) (late : List Carried) : Type 0 where
    pub stopped : DeskOf M K
    pub stops : Enters s.library played.desk stopped act.Stop Silent
    pub joined : DeskOf M K
    pub joins : Learns stopped joined
    pub finishes : FinishesExports s.library joined desk late

-- ---- the script's part at the end

module _ {M K F : Type 0} (s : Setting M F) (old played : Player M K) (desk : DeskOf M K) (body : List BodyLine) (c : Course F) (one : Result Unit PutFault) (script : Scripted s old played body c one) where
  -- what the caller hears after the script
  pub ends_hear : old.desk.fixed.number ≡ 0 → Closed s played desk c.late → Hears s.library played.desk desk (stop_call ∷ flat_map (carried_calls 0) c.late)
  ends_hear zero closed =
      let number : played.desk.fixed.number ≡ 0 = number-hears s.library old.desk played.desk (script_calls c) script.part.hears ∙ zero in
      end_hears s played.desk closed.joined desk c.late number (joined_hears s played.desk closed.stopped closed.joined number closed.stops closed.joins) closed.finishes

  pub whole_then : old.desk.seen ≡ [] → Hears s.library played.desk desk (stop_call ∷ flat_map (carried_calls 0) c.late) → AreWhole s desk [] c.played
  whole_then empty ends =
      subst (λ (calls : List (CallOf F)). AreWhole s desk calls c.played) (heard_nothing s old.desk empty)
      (are_later s played.desk desk (heard s.library old.desk) (stop_call ∷ flat_map (carried_calls 0) c.late) c.played ends script.part.whole)

  pub begun_then : Hears s.library played.desk desk (stop_call ∷ flat_map (carried_calls 0) c.late) → IsBegun s desk c.halted
  begun_then ends = begun_as s played.desk desk c.halted (ap (λ (f : FixedOf M K). f.number) ends.fixed) (ap (λ (f : FixedOf M K). f.library) ends.fixed) script.part.begun

  pub calls_then : old.desk.seen ≡ [] → Hears s.library played.desk desk (stop_call ∷ flat_map (carried_calls 0) c.late) → heard s.library desk ≡ course_calls c
  calls_then empty ends = calls_all s old.desk played.desk desk c empty script.part.hears ends

module _ {M K F : Type 0} (p : Program M F) (old : Session M K) (played : Player M K) (desk : DeskOf M K) (vault : VaultSeen) (out : SinkSeen) (c : Course F) (one : Result Unit PutFault) where
  pub runs_all : old.player.desk.fixed.number ≡ 0 → old.player.desk.seen ≡ [] → Scripted p.setting old.player played p.body c one → Closed p.setting played desk c.late → IsDesk p.setting.library desk → IsCrew p.setting.library desk p.others c.early → SaysRest p.setting.tells.out played.out out (end_lines p.setting.clips (all_carried c)) (one, c.said) → played.out.faults ≤ out.faults → CarriesAll (carrier p.setting.library desk p.setting.rate p.vault_tells) old.vault vault (all_carried c) → Exported p old (record { player = record played { desk = desk; out = out }; vault = vault }) (all_carried c) → ((front rest : List (CallOf F)) → script_calls c ≡ front ++ rest → Was p.setting.library desk front (λ state. IsTrue state.is_stopped) → ⊥) → vault.begun ≡ None → RunsCourse p old (record { player = record played { desk = desk; out = out }; vault = vault }) c (final_status c.said (option_map (λ (h : Halted F). stop_of h.why) c.halted) (map (λ (e : Carried). e.ending) (all_carried c)))
  runs_all zero empty script closed known crew rest later carries exported going idle =
      let s = p.setting in
      let lib = s.library in
      let started = old.player.desk in
      let ends = ends_hear s old.player played desk p.body c one script zero closed in
      let fixed : desk.fixed ≡ started.fixed = ends.fixed ∙ script.part.hears.fixed in
      let lines : Library F → List OutLine = λ l. flat_map (lines_of l) c.played ++ halted_lines c.halted in
      let said = says_rest s.tells.out old.player.out played.out out (lines (lib started.fixed.library)) (end_lines s.clips (all_carried c)) one c.said script.le script.says rest in
      record {
        known = known;
        lines = script.part.lines;
        whole = whole_then s old.player played desk p.body c one script empty ends;
        going = going;
        begun = begun_then s old.player played desk p.body c one script ends;
        calls = calls_then s old.player played desk p.body c one script empty ends;
        crew = crew;
        says = subst (λ (f : FixedOf M K). SaysBy s.tells.out old.player.out out (flat_map (lines_of (lib f.library)) c.played ++ halted_lines c.halted ++ end_lines s.clips (all_carried c)) c.said) (sym fixed)
            said;
        shows = subst (λ (f : FixedOf M K). ShowsBy s.tells.screen old.player.screen played.screen (course_rows s (lib f.library) c) (option_map (λ (h : Halted F). h.why) c.halted)) (sym fixed) script.shows;
        said_whole = subst (λ (f : FixedOf M K). GotFirst s.tells.out old.player.out out (texts (flat_map (lines_of (lib f.library)) c.played))) (sym fixed)
            (first_then s.tells.out old.player.out played.out out (texts (flat_map (lines_of (lib started.fixed.library)) c.played)) script.said_whole
            (more_rest s.tells.out played.out out (end_lines s.clips (all_carried c)) one c.said rest));
        shown_whole = subst (λ (f : FixedOf M K). GotFirst s.tells.screen old.player.screen played.screen (flat_map (rows_of s (lib f.library)) c.played)) (sym fixed) script.shown_whole;
        carries = carries;
        files = exported.files;
        exports = exported.exports;
        numbers = exported.numbers;
        status = refl;
        cause = script.cause desk out (stop_call ∷ flat_map (carried_calls 0) c.late) ends later;
        store = script.files;
        idle = idle;
      }
