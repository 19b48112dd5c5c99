-- A session that was played, to its end or up to a stop, has a course.
use Rattle.std.proofs.Common.{◌≡◌, Bool, true, false, List, [], Some, None, Result, Ok, Err, inl, inr, refl, sym, ap, subst, ◌∙◌}
use Rattle.std.specs.Option.{option_map}
use Rattle.tl_model.specs.declared.fault.Ending.{Ending}
use Rattle.tl_ports.specs.declared.fault.PutFault.{PutFault}
use Rattle.tl_ports.specs.declared.fault.PutFault.TheVariants as putting
use Rattle.tl_ports.specs.Seen.{SinkSeen, StoreSeen}
use Rattle.edit_desk.specs.Desk.{DeskOf}
use Rattle.script_lang.specs.declared.script.BodyLine.{BodyLine}
use Rattle.script_lang.specs.declared.script.Call.{Call}
use Rattle.play_head.specs.declared.halt.Halt.{Halt}
use Rattle.play_head.specs.declared.stop.Stop.{Stop}
use Rattle.play_head.specs.Carrying.{Carried}
use Rattle.play_head.specs.Playing.{Setting, Player}
use Rattle.play_head.specs.PlayingScript.{PlaysScript, OnlyPuts, SaysStop, StopsScript, stop_of}
use Rattle.timeline_app.specs.Course.{Course, Halted}
use Rattle.timeline_app.specs.Ending.{final_status, said_by, stop_in}
use Rattle.timeline_app.proofs.Courses.{halted_by, heard_nothing}
use Rattle.timeline_app.proofs.Parts.{scripted_front, scripted_whole}
use Rattle.timeline_app.proofs.Whole.{Scripted}

-- Where only `out` changed, the rest is as it was.
player_is : {M K : Type 0} (halted new : Player M K) → OnlyPuts halted new → record halted { out = new.out } ≡ new
player_is {M} {K} halted new only =
    ap (λ (d : DeskOf M K). record { desk = d; store = halted.store; screen = halted.screen; out = new.out }) (sym only.desk)
    ∙ ap (λ (t : StoreSeen). record { desk = new.desk; store = t; screen = halted.screen; out = new.out }) (sym only.store)
    ∙ ap (λ (k : SinkSeen). record { desk = new.desk; store = new.store; screen = k; out = new.out }) (sym only.screen)

-- What went wrong with a put before stays so.
abbrev pub IsSaid : (first said : Result Unit PutFault) → Type 0
IsSaid (Ok done) said = Unit {0}
IsSaid (Err fault) said = said ≡ Err fault

-- The stop that is told gives the status of the one that was the cause, since want of memory for the stop line is told by the puts too.
told_status : (tells : Bool) (old new : SinkSeen) (call : Call) (why : Halt) (what : Stop) (silenced : Bool) (said : Result Unit PutFault) (endings : List Ending) → SaysStop tells old new (call, why) (what, silenced) → IsSaid (said_by (Err what) silenced) said → final_status said (Some (stop_of why)) endings ≡ final_status said (Some what) endings
told_status tells old new call why what false said endings h k = ap (λ (w : Stop). final_status said (Some w) endings) (sym h.1)
told_status tells old new call why what true said endings (inl h) k = ap (λ (w : Stop). final_status said (Some w) endings) (sym h.0)
told_status tells old new call why what true said endings (inr (got, inl h)) k = ap (λ (w : Stop). final_status said (Some w) endings) (sym h.0)
told_status tells old new call why what true said endings (inr (got, inr h)) k =
    let none : said ≡ Err putting.NoMemory = subst (λ (w : Stop). IsSaid (said_by (Err w) true) said) h k in
    ap (λ (r : Result Unit PutFault). final_status r (Some (stop_of why)) endings) none
    ∙ ap (λ (r : Result Unit PutFault). final_status r (Some what) endings) (sym none)

module _ {M K F : Type 0} (s : Setting M F) (old played : Player M K) (body : List BodyLine) where
  -- a script that ended so has a course, with exports and puts of any kind after it
  pub record HasCourse (r : Result Unit Stop) (early late : List Carried) (one said : Result Unit PutFault) : Type 0 where
    pub course : Course F
    pub early_is : course.early ≡ early
    pub late_is : course.late ≡ late
    pub says : course.said ≡ said
    pub scripted : Scripted s old played body course one
    pub status : (endings : List Ending) → IsSaid one said → final_status said (option_map (λ (h : Halted F). stop_of h.why) course.halted) endings ≡ final_status said (stop_in r) endings

  stopped_course : (early late : List Carried) (said : Result Unit PutFault) (what : Stop) (silenced : Bool) → old.desk.seen ≡ [] → StopsScript s old played body (what, silenced) → HasCourse (Err what) early late (said_by (Err what) silenced) said
  stopped_course early late said what silenced empty x =
      let f = x.plays in
      let c : Course F = record { played = f.plays.played; halted = Some (halted_by s f.between x.halted f.line x.why f.part); early = early; late = late; said = said } in
      let there = scripted_front s old x.halted played.out body x.why f what silenced early late said (heard_nothing s old.desk empty) x.says x.only.later in
      record {
        course = c;
        early_is = refl;
        late_is = refl;
        says = refl;
        scripted = subst (λ (p : Player M K). Scripted s old p body c (said_by (Err what) silenced)) (player_is x.halted played x.only) there;
        status = λ endings k. told_status s.tells.out x.halted.out played.out f.line.call x.why what silenced said endings x.says k;
      }

  pub script_course : (early late : List Carried) (said : Result Unit PutFault) (r : Result Unit Stop) (silenced : Bool) → old.desk.seen ≡ [] → PlaysScript s old played body (r, silenced) → HasCourse r early late (said_by r silenced) said
  script_course early late said (Ok done) false empty x = record {
    course = record { played = x.played; halted = None; early = early; late = late; said = said };
    early_is = refl;
    late_is = refl;
    says = refl;
    scripted = scripted_whole s old played body x early late said;
    status = λ endings k. refl;
  }
  script_course early late said (Ok done) true empty x = absurd x
  script_course early late said (Err what) silenced empty x = stopped_course early late said what silenced empty x
