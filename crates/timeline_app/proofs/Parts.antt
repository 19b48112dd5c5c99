-- A script that was played, to its end or up to a stop, as the part of a course that is its.
use Rattle.std.proofs.Common.{◌≡◌, ◌≤◌, Bool, List, [], ◌++◌, Some, None, Result, Ok, Err, sym, subst, ◌∙◌, arith}
use Rattle.std.specs.List.{flat_map}
use Rattle.std.proofs.lemmas.List.{append-nil}
use Rattle.tl_model.specs.declared.journal.Act.{Act}
use Rattle.tl_ports.specs.declared.fault.PutFault.{PutFault}
use Rattle.tl_ports.specs.Seen.{SinkSeen}
use Rattle.render_core.specs.Calls.{CallOf}
use Rattle.edit_desk.specs.Desk.{DeskOf, Hears, heard}
use Rattle.script_lang.specs.declared.out_line.OutLine.{OutLine}
use Rattle.script_lang.specs.declared.script.BodyLine.{BodyLine}
use Rattle.play_head.specs.declared.halt.Halt.{Halt}
use Rattle.play_head.specs.declared.halt.Halt.TheVariants as halt
use Rattle.play_head.specs.declared.stop.Stop.{Stop}
use Rattle.play_head.specs.Carrying.{Carried}
use Rattle.play_head.specs.Playing.{Setting, Player, Played, lines_of, rows_of}
use Rattle.play_head.specs.PlayingLine.{Lasts, StopsLine, texts}
use Rattle.play_head.specs.PlayingScript.{PlaysLines, PlaysFront, SaysStop, stop_lines}
use Rattle.play_head.specs.Putting.{GotAll}
use Rattle.timeline_app.specs.Course.{IsCause, script_calls}
use Rattle.timeline_app.specs.Ending.{said_by}
use Rattle.timeline_app.proofs.Causes.{fetch_within, refused_there, rose_within}
use Rattle.timeline_app.proofs.Courses.{halted_by, output_by, part_front, part_whole}
use Rattle.timeline_app.proofs.First.{first_alone, first_then, more_says, more_shows}
use Rattle.timeline_app.proofs.Speaking.{says_then}
use Rattle.timeline_app.proofs.Stopped.{part_says, part_shows, shows_then}
use Rattle.timeline_app.proofs.Whole.{Scripted}

module _ {M K F : Type 0} (s : Setting M F) where
  pub scripted_whole : (old played : Player M K) (body : List BodyLine) (f : PlaysLines s old played body) (early late : List Carried) (said : Result Unit PutFault) → Scripted s old played body (record { played = f.played; halted = None; early = early; late = late; said = said }) (Ok tt)
  scripted_whole old played body f early late said = record {
    part = part_whole s old played body f early late said;
    says = subst (λ (ls : List OutLine). GotAll s.tells.out old.out played.out (texts ls)) (sym (append-nil (flat_map (lines_of (s.library old.desk.fixed.library)) f.played))) f.puts.0;
    shows = subst (GotAll s.tells.screen old.screen played.screen) (sym (append-nil (flat_map (rows_of s (s.library old.desk.fixed.library)) f.played))) f.puts.1;
    said_whole = first_alone s.tells.out old.out played.out (texts (flat_map (lines_of (s.library old.desk.fixed.library)) f.played)) f.puts.0;
    shown_whole = first_alone s.tells.screen old.screen played.screen (flat_map (rows_of s (s.library old.desk.fixed.library)) f.played) f.puts.1;
    le = f.lasts.out;
    files = f.lasts.files;
    cause = λ new out more h later. tt;
  }

  -- why a line stopped, over a session
  cause_of : (old between halted : Player M K) (p : Played F) (left : List Act) (why : Halt) (h : StopsLine s between halted (p, left) why) (calls : List (CallOf F)) (new : DeskOf M K) (out : SinkSeen) (more : List (CallOf F)) → Lasts old between → Lasts between halted → heard s.library old.desk ≡ [] → Hears s.library old.desk halted.desk calls → Hears s.library halted.desk new more → halted.out.faults ≤ out.faults → IsCause s old (record halted { desk = new; out = out }) (calls, record { played = p; left = left; output = output_by s between halted p left why h; why = why }) why
  cause_of old between halted p left (halt.Store fault) h calls new out more l k empty script ends later =
      (fetch_within s.tells.store old.store between.store halted.store halted.store l.files l.store (omega arith) _ fault h.2 h.1, h.2, h.3, h.4)
  cause_of old between halted p left halt.Screen h calls new out more l k empty script ends later =
      rose_within old.screen.faults between.screen.faults halted.screen.faults halted.screen.faults l.screen (omega arith) h.2
  cause_of old between halted p left halt.Out h calls new out more l k empty script ends later =
      rose_within old.out.faults between.out.faults halted.out.faults out.faults l.out later h.1
  cause_of old between halted p left halt.NoMemory h calls new out more l k empty script ends later = tt
  cause_of old between halted p left halt.OutMemory h calls new out more l k empty script ends later = tt
  cause_of old between halted p left (halt.JournalFull len owing) h calls new out more l k empty script ends later =
      refused_there s old.desk halted.desk new calls more left len owing empty script ends h.1

  -- a line that stopped, after others, with its stop line
  pub scripted_front : (old halted : Player M K) (after : SinkSeen) (body : List BodyLine) (why : Halt) (f : PlaysFront s old halted body why) (what : Stop) (silenced : Bool) (early late : List Carried) (said : Result Unit PutFault) → heard s.library old.desk ≡ [] → SaysStop s.tells.out halted.out after (f.line.call, why) (what, silenced) → halted.out.faults ≤ after.faults → Scripted s old (record halted { out = after }) body (record { played = f.plays.played; halted = Some (halted_by s f.between halted f.line why f.part); early = early; late = late; said = said }) (said_by (Err what) silenced)
  scripted_front old halted after body why f what silenced early late said empty stop later =
      let part = part_front s old halted body why f early late said in
      let here = subst (λ (l : BodyLine). SaysStop s.tells.out halted.out after (l.call, why) (what, silenced)) (sym f.part.is) stop in
      let lines = (output_by s f.between halted f.part.played f.part.left why f.part.stops).lines ++ stop_lines f.part.played.line.call why in
      let said_then = part_says s f.between halted after f.line why f.part what silenced f.lasts.out here in
      let rows = (output_by s f.between halted f.part.played f.part.left why f.part.stops).rows in
      let shown_then = part_shows s f.between halted f.part.played f.part.left why f.part.stops in
      let whole_lines = texts (flat_map (lines_of (s.library old.desk.fixed.library)) f.plays.played) in
      let whole_rows = flat_map (rows_of s (s.library old.desk.fixed.library)) f.plays.played in
      record {
        part = record { lines = part.lines; whole = part.whole; begun = part.begun; hears = part.hears };
        says = says_then s.tells.out old.out f.between.out after (flat_map (lines_of (s.library old.desk.fixed.library)) f.plays.played)
            lines (said_by (Err what) silenced) f.plays.puts.0 f.plays.lasts.out said_then;
        shows = shows_then s.tells.screen old.screen f.between.screen halted.screen whole_rows rows (Some why) f.plays.puts.1 f.plays.lasts.screen shown_then;
        said_whole = first_then s.tells.out old.out f.between.out after whole_lines (first_alone s.tells.out old.out f.between.out whole_lines f.plays.puts.0)
            (more_says s.tells.out f.between.out after lines (said_by (Err what) silenced) said_then);
        shown_whole = first_then s.tells.screen old.screen f.between.screen halted.screen whole_rows
            (first_alone s.tells.screen old.screen f.between.screen whole_rows f.plays.puts.1)
            (more_shows s.tells.screen f.between.screen halted.screen rows (Some why) shown_then);
        le = (let a = f.plays.lasts.out in let b = f.lasts.out in omega (arith, a, b, later));
        files = f.lasts.files ∙ f.plays.lasts.files;
        cause = λ new out more h more_faults. cause_of old f.between halted f.part.played f.part.left why f.part.stops (script_calls (record { played = f.plays.played; halted = Some (halted_by s f.between halted f.line why f.part); early = early; late = late; said = said })) new out more f.plays.lasts f.lasts empty part.hears h (let a = more_faults in omega (arith, later, a));
      }
