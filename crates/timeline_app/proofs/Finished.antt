-- A session that was played, with its end lines and its status, is a run of a course.
use Rattle.std.proofs.Common.{◌≡◌, ℕ, ◌≤◌, Bool, List, [], ◌++◌, map, None, Result, Ok, Err, sym, ap, subst, ◌∙◌}
use Rattle.std.specs.List.{flat_map}
use Rattle.std.specs.Option.{option_map}
use Rattle.tl_model.specs.declared.fault.Ending.{Ending}
use Rattle.tl_model.specs.declared.journal.Entry.{Entry}
use Rattle.tl_ports.specs.declared.fault.PutFault.{PutFault}
use Rattle.tl_ports.specs.Seen.{SinkSeen}
use Rattle.render_core.specs.Calls.{own}
use Rattle.edit_desk.specs.Desk.{FixedOf, DeskOf, IsDesk, Hears, heard}
use Rattle.script_lang.specs.declared.out_line.OutLine.{OutLine}
use Rattle.script_lang.specs.ScriptSound.{AreDistinct}
use Rattle.play_head.specs.declared.stop.Stop.{Stop}
use Rattle.play_head.specs.Carrying.{Carried, CarriesAll, carried_calls, carrier}
use Rattle.play_head.specs.Playing.{Player}
use Rattle.play_head.specs.PlayingScript.{stop_of}
use Rattle.timeline_app.specs.Course.{Course, Halted, IsCrew, Program, Session, PlaysAll, RunsCourse, SaysRest, all_carried}
use Rattle.timeline_app.specs.Ending.{end_lines, entry_endings, entry_lines, final_status, said_by, stop_in}
use Rattle.timeline_app.proofs.Crew.{learns_nothing, no_crew, own_rest}
use Rattle.timeline_app.proofs.Endings.{journal_endings, journal_lines}
use Rattle.timeline_app.proofs.Entered.{others_none}
use Rattle.timeline_app.proofs.Exported.{IsEnded, exported_by, manned_by}
use Rattle.timeline_app.proofs.Going.{script_goes_on}
use Rattle.timeline_app.proofs.Manned.{IsManned}
use Rattle.timeline_app.proofs.Named.{files_of}
use Rattle.timeline_app.proofs.Sessions.{HasCourse, IsSaid, script_course}
use Rattle.timeline_app.proofs.Whole.{Closed, runs_all}

-- no put follows one that wasn't `Ok`
said_still : (tells : Bool) (mid new : SinkSeen) (lines : List OutLine) (one said : Result Unit PutFault) → SaysRest tells mid new lines (one, said) → IsSaid one said
said_still tells mid new lines (Ok done) said h = tt
said_still tells mid new lines (Err fault) said h = h.0

module _ {M K F : Type 0} (p : Program M F) (old mid : Session M K) (r : Result Unit Stop) (silenced : Bool) where
  -- What is known once a session's exports were carried out, the first of them by its exporter and those that were left by main: its script
  -- as main played it, the stop and main's exports, and what its crew did. Nothing is put by then after the script.
  pub record HasFinished (early late : List Carried) (said : Result Unit PutFault) : Type 0 where
    pub number : old.player.desk.fixed.number ≡ 0
    pub fresh : old.player.desk.seen ≡ []
    pub distinct : AreDistinct (files_of p.body)
    pub played : Player M K
    pub script : HasCourse p.setting old.player played p.body r early late (said_by r silenced) said
    pub closed : Closed p.setting played mid.player.desk late
    pub known : IsDesk p.setting.library mid.player.desk
    pub crew : IsCrew p.setting.library mid.player.desk p.others early
    pub over : own 1 closed.finishes.hears.more ≡ []
    pub carries : CarriesAll (carrier p.setting.library mid.player.desk p.setting.rate p.vault_tells) old.vault mid.vault (early ++ late)
    pub stays : mid.player ≡ record played { desk = mid.player.desk }
    pub idle : mid.vault.begun ≡ None

  -- What is put then, and how that went.
  pub record SaysEnds (out : SinkSeen) (said : Result Unit PutFault) : Type 0 where
    pub lines : SaysRest p.setting.tells.out mid.player.out out (flat_map (entry_lines p.setting.clips) mid.player.desk.seen) (said_by r silenced, said)
    pub later : mid.player.out.faults ≤ out.faults

  module _ (early late : List Carried) (said : Result Unit PutFault) (a : HasFinished early late said) where
    abbrev course : Course F
    course = a.script.course

    carried_is : all_carried course ≡ early ++ late
    carried_is = ap (λ (cs : List Carried). cs ++ course.late) a.script.early_is ∙ ap (λ (cs : List Carried). early ++ cs) a.script.late_is

    late_hears : Hears p.setting.library a.closed.joined mid.player.desk (flat_map (carried_calls a.closed.joined.fixed.number) course.late)
    late_hears = record {
      fixed = a.closed.finishes.hears.fixed;
      more = a.closed.finishes.hears.more;
      seen = a.closed.finishes.hears.seen;
      heard = a.closed.finishes.hears.heard
          ∙ ap (λ (cs : List Carried). heard p.setting.library a.closed.joined ++ flat_map (carried_calls a.closed.joined.fixed.number) cs) (sym a.script.late_is);
    }

    ended_there : IsEnded p old a.played mid.player.desk course (said_by r silenced)
    unfolding late_hears
    ended_there = record {
      number = a.number;
      fresh = a.fresh;
      script = a.script.scripted;
      closed = record {
        stopped = a.closed.stopped;
        stops = a.closed.stops;
        joined = a.closed.joined;
        joins = a.closed.joins;
        finishes = record { hears = late_hears; done = a.closed.finishes.done };
      };
      known = a.known;
      crew = subst (IsCrew p.setting.library mid.player.desk p.others) (sym a.script.early_is) a.crew;
      over = a.over;
    }

    manned_there : IsManned p.setting.library mid.player.desk p.others course
    manned_there = manned_by p old a.played mid.player.desk course (said_by r silenced) ended_there

    carries_by : CarriesAll (carrier p.setting.library mid.player.desk p.setting.rate p.vault_tells) old.vault mid.vault (all_carried course)
    carries_by = subst (CarriesAll (carrier p.setting.library mid.player.desk p.setting.rate p.vault_tells) old.vault mid.vault) (sym carried_is) a.carries

    rest_by : (out : SinkSeen) → SaysEnds out said → SaysRest p.setting.tells.out a.played.out out (end_lines p.setting.clips (all_carried course)) (said_by r silenced, course.said)
    rest_by out says =
        subst (λ (w : Result Unit PutFault). SaysRest p.setting.tells.out a.played.out out (end_lines p.setting.clips (all_carried course)) (said_by r silenced, w)) (sym a.script.says)
        (subst (λ (k : SinkSeen). SaysRest p.setting.tells.out k out (end_lines p.setting.clips (all_carried course)) (said_by r silenced, said)) (ap (λ (x : Player M K). x.out) a.stays)
        (subst (λ (ls : List OutLine). SaysRest p.setting.tells.out mid.player.out out ls (said_by r silenced, said))
        (journal_lines p.setting.library mid.player.desk p.others course manned_there p.setting.clips) says.lines))

    abbrev course_status : ℕ
    course_status = final_status course.said (option_map (λ (x : Halted F). stop_of x.why) course.halted) (map (λ (e : Carried). e.ending) (all_carried course))

    runs_by : (out : SinkSeen) → SaysEnds out said → RunsCourse p old (record { player = record a.played { desk = mid.player.desk; out = out }; vault = mid.vault }) course course_status
    runs_by out says =
        runs_all p old a.played mid.player.desk mid.vault out course (said_by r silenced) a.number a.fresh a.script.scripted ended_there.closed a.known ended_there.crew (rest_by out says)
        (subst (λ (k : SinkSeen). k.faults ≤ out.faults) (ap (λ (x : Player M K). x.out) a.stays) says.later) carries_by
        (exported_by p old a.played mid.player.desk course (said_by r silenced) mid.vault out ended_there a.distinct carries_by)
        (λ front rest. script_goes_on p.setting.library mid.player.desk p.others course front rest manned_there) a.idle

    status_by : (out : SinkSeen) → SaysEnds out said → course_status ≡ final_status said (stop_in r) (flat_map entry_endings mid.player.desk.seen)
    status_by out says =
        let endings = map (λ (e : Carried). e.ending) (all_carried course) in
        ap (λ (w : Result Unit PutFault). final_status w (option_map (λ (x : Halted F). stop_of x.why) course.halted) endings) a.script.says
        ∙ a.script.status endings (said_still p.setting.tells.out mid.player.out out (flat_map (entry_lines p.setting.clips) mid.player.desk.seen) (said_by r silenced) said says.lines)
        ∙ ap (λ (es : List Ending). final_status said (stop_in r) es) (sym (journal_endings p.setting.library mid.player.desk p.others course manned_there))

    run_there : (out : SinkSeen) → SaysEnds out said → RunsCourse p old (record { player = record mid.player { out = out }; vault = mid.vault }) course
        (final_status said (stop_in r) (flat_map entry_endings mid.player.desk.seen))
    run_there out says =
        subst (λ (x : Player M K). RunsCourse p old (record { player = x; vault = mid.vault }) course (final_status said (stop_in r) (flat_map entry_endings mid.player.desk.seen)))
        (sym (ap (λ (x : Player M K). record x { out = out }) a.stays))
        (subst (RunsCourse p old (record { player = record a.played { desk = mid.player.desk; out = out }; vault = mid.vault }) course) (status_by out says) (runs_by out says))

    -- the caller's number, library and limits stay
    fixed_by : mid.player.desk.fixed ≡ old.player.desk.fixed
    fixed_by = a.closed.finishes.hears.fixed ∙ a.closed.joins.fixed ∙ a.closed.stops.fixed ∙ a.closed.stops.learns.fixed ∙ a.script.scripted.part.hears.fixed

    desk_by : (journal : List Entry) → journal ≡ mid.player.desk.seen → mid.player.desk ≡ record { fixed = old.player.desk.fixed; seen = journal }
    desk_by journal is =
        ap (λ (f : FixedOf M K). record { fixed = f; seen = mid.player.desk.seen }) fixed_by
        ∙ ap (λ (es : List Entry). record { fixed = old.player.desk.fixed; seen = es }) (sym is)

    finished_by : (journal : List Entry) (out : SinkSeen) (code : ℕ) → journal ≡ mid.player.desk.seen → SaysEnds out said → code ≡ final_status said (stop_in r) (flat_map entry_endings journal)
        → RunsCourse p old (record { player = record mid.player { desk = record old.player.desk { seen = journal }; out = out }; vault = mid.vault }) course code
    finished_by journal out code is says status =
        let same : code ≡ final_status said (stop_in r) (flat_map entry_endings mid.player.desk.seen) = status ∙ ap (λ (es : List Entry). final_status said (stop_in r) (flat_map entry_endings es)) is in
        subst (λ (d : DeskOf M K). RunsCourse p old (record { player = record mid.player { desk = d; out = out }; vault = mid.vault }) course code) (desk_by journal is)
        (subst (RunsCourse p old (record { player = record mid.player { out = out }; vault = mid.vault }) course) (sym same) (run_there out says))

  -- What `out` got after the script and its stop line, by the journal, and the status.
  pub record IsTold (journal : List Entry) (said : Result Unit PutFault) (out : SinkSeen) (code : ℕ) : Type 0 where
    pub is : journal ≡ mid.player.desk.seen
    pub lines : SaysRest p.setting.tells.out mid.player.out out (flat_map (entry_lines p.setting.clips) journal) (said_by r silenced, said)
    pub later : mid.player.out.faults ≤ out.faults
    pub status : code ≡ final_status said (stop_in r) (flat_map entry_endings journal)

  -- a session that was played to its end by main and its crew, with its journal and its status
  pub has_manned : (early late : List Carried) (journal : List Entry) (said : Result Unit PutFault) (out : SinkSeen) (code : ℕ) → HasFinished early late said → IsTold journal said out code
      → (course : Course F) × RunsCourse p old (record { player = record mid.player { desk = record old.player.desk { seen = journal }; out = out }; vault = mid.vault }) course code
  has_manned early late journal said out code a t =
      let says : SaysEnds out said = record {
        lines = subst (λ (es : List Entry). SaysRest p.setting.tells.out mid.player.out out (flat_map (entry_lines p.setting.clips) es) (said_by r silenced, said)) t.is t.lines;
        later = t.later;
      } in
      (a.script.course, finished_by early late said a journal out code t.is says t.status)

  -- ---- main alone

  -- What is known once a session's exports were carried out, of the journal of a caller that was alone.
  pub record HasFinishedAlone : Type 0 where
    pub number : old.player.desk.fixed.number ≡ 0
    pub fresh : old.player.desk.seen ≡ []
    pub distinct : AreDistinct (files_of p.body)
    pub plays : PlaysAll p old mid (r, silenced)
    pub known : IsDesk p.setting.library mid.player.desk
    pub own : own 0 mid.player.desk.seen ≡ mid.player.desk.seen

  finished_alone : (a : HasFinishedAlone) (said : Result Unit PutFault) → HasFinished [] a.plays.finishes.0 said
  finished_alone a said =
      let desk = mid.player.desk in
      let finishes = a.plays.finishes.1 in
      let more = finishes.hears.more in
      let none = others_none 0 1 desk.seen (λ e. absurd cc) a.own in
      record {
        number = a.number;
        fresh = a.fresh;
        distinct = a.distinct;
        played = a.plays.played;
        script = script_course p.setting old.player a.plays.played p.body [] a.plays.finishes.0 said r silenced a.fresh a.plays.plays;
        closed = record { stopped = a.plays.stopped; stops = a.plays.stops; joined = a.plays.stopped; joins = learns_nothing a.plays.stopped; finishes = finishes };
        known = a.known;
        crew = no_crew p.setting.library desk p.others a.own;
        over = own_rest 1 a.plays.stopped.seen more (ap (own 1) (sym finishes.hears.seen) ∙ none);
        carries = subst (λ (f : FixedOf M K). CarriesAll (record { library = p.setting.library f.library; rate = p.setting.rate; tells = p.vault_tells }) old.vault mid.vault a.plays.finishes.0)
            (sym finishes.hears.fixed) a.plays.finishes.2;
        stays = a.plays.stays;
        idle = a.plays.idle;
      }

  pub has_run : (a : HasFinishedAlone) (journal : List Entry) (said : Result Unit PutFault) (out : SinkSeen) (code : ℕ) → journal ≡ mid.player.desk.seen
      → SaysRest p.setting.tells.out mid.player.out out (flat_map (entry_lines p.setting.clips) journal) (said_by r silenced, said) → mid.player.out.faults ≤ out.faults
      → code ≡ final_status said (stop_in r) (flat_map entry_endings journal)
      → (course : Course F) × RunsCourse p old (record { player = record mid.player { desk = record old.player.desk { seen = journal }; out = out }; vault = mid.vault }) course code
  has_run a journal said out code is lines later status =
      has_manned [] a.plays.finishes.0 journal said out code (finished_alone a said) (record { is = is; lines = lines; later = later; status = status })
