-- A session isn't stopped before its stop.
use Rattle.std.proofs.Common.{◌≡◌, Bool, true, false, List, [], ◌∷◌, Some, None, Result, Ok, Err, sym, ap, subst, ◌∙◌}
use Rattle.tl_model.specs.Media.{Library}
use Rattle.tl_model.specs.declared.journal.Entry.{Entry}
use Rattle.render_core.specs.Calls.{CallOf}
use Rattle.render_core.specs.Step.{state_after}
use Rattle.edit_desk.specs.Desk.{DeskOf, IsDesk, heard, setup_of, state_of}
use Rattle.edit_desk.proofs.Holding.{HasNone, IsStop, goes_on}
use Rattle.script_lang.specs.declared.script.BodyLine.{BodyLine}
use Rattle.play_head.specs.declared.stop.Stop.{Stop}
use Rattle.play_head.specs.Playing.{Setting, Player}
use Rattle.play_head.specs.PlayingScript.{PlaysScript}
use Rattle.play_head.proofs.Desks.{number-hears}
use Rattle.timeline_app.specs.Course.{Course, script_calls}
use Rattle.timeline_app.proofs.Courses.{ScriptPart, halted_by, part_front, part_whole}
use Rattle.timeline_app.proofs.Kept.{IsApart, script_none}

none_stop : {F : Type 0} (calls : List (CallOf F)) → HasNone IsApart calls → HasNone IsStop calls
none_stop [] h = tt
none_stop (c ∷ calls) h = ((λ e. h.0 (subst IsApart (sym e) tt)), none_stop calls h.1)

-- Caller 0's session goes on.
pub record GoesOn {M K F : Type 0} (library : M → Library F) (d : DeskOf M K) : Type 0 where
  pub number : d.fixed.number ≡ 0
  pub going : (state_of library d).is_stopped ≡ false

module _ {M K F : Type 0} (s : Setting M F) where
  going_first : (d : DeskOf M K) → d.seen ≡ [] → (state_of s.library d).is_stopped ≡ false
  going_first d e = ap (λ (es : List Entry). (state_after (setup_of s.library d) es).is_stopped) e

  part_goes : (old new : Player M K) (body : List BodyLine) (c : Course F) → ScriptPart s old new body c → old.desk.fixed.number ≡ 0 → old.desk.seen ≡ [] → IsDesk s.library new.desk → GoesOn s.library new.desk
  part_goes old new body c part zero empty known = record {
    number = number-hears s.library old.desk new.desk (script_calls c) part.hears ∙ zero;
    going = goes_on s.library old.desk new.desk (script_calls c) known part.hears
        (none_stop (script_calls c) (script_none s new.desk (heard s.library old.desk) c part.whole part.begun)) zero (going_first old.desk empty);
  }

  pub script_goes : (old new : Player M K) (body : List BodyLine) (r : Result Unit Stop) (silenced : Bool) → old.desk.fixed.number ≡ 0 → old.desk.seen ≡ [] → IsDesk s.library new.desk → PlaysScript s old new body (r, silenced) → GoesOn s.library new.desk
  script_goes old new body (Ok done) false zero empty known x =
      part_goes old new body (record { played = x.played; halted = None; early = []; late = []; said = Ok tt }) (part_whole s old new body x [] [] (Ok tt)) zero empty known
  script_goes old new body (Ok done) true zero empty known x = absurd x
  script_goes old new body (Err what) silenced zero empty known x =
      let f = x.plays in
      let c : Course F = record { played = f.plays.played; halted = Some (halted_by s f.between x.halted f.line x.why f.part); early = []; late = []; said = Ok tt } in
      subst (GoesOn s.library) (sym x.only.desk)
      (part_goes old x.halted body c (part_front s old x.halted body x.why f [] [] (Ok tt)) zero empty (subst (IsDesk s.library) x.only.desk known))
