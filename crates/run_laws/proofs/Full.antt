-- A session whose script and crew have room in their journal doesn't end with the status of a full journal.
use Rattle.std.proofs.Common.{◌≡◌, ℕ, ◌≤◌, cond, Bool, true, false, List, ◌++◌, map, Option, Some, None, Result, Ok, Err, refl, sym, subst, ◌∙◌, arith}
use Rattle.std.specs.Prelude.{flat_map}
use Rattle.std.specs.List.{list_any}
use Rattle.std.specs.Option.{option_map}
use Rattle.tl_model.specs.declared.fault.Ending.{Ending}
use Rattle.tl_ports.specs.declared.fault.PutFault.{PutFault}
use Rattle.tl_ports.specs.declared.fault.PutFault.TheVariants as putting
use Rattle.play_head.specs.declared.halt.Halt.{Halt}
use Rattle.play_head.specs.declared.halt.Halt.TheVariants as halt
use Rattle.play_head.specs.declared.stop.Stop.{Stop}
use Rattle.play_head.specs.Carrying.{Carried}
use Rattle.play_head.specs.Playing.{Played}
use Rattle.play_head.specs.PlayingScript.{stop_of}
use Rattle.timeline_app.specs.Course.{AreLines, Course, Halted, HasCause, IsBegun, IsCause, Program, RunsCourse, Session, all_carried, halted_calls}
use Rattle.timeline_app.specs.Ending.{ending_status, final_status, is_fault, is_memory, is_sink, unless_stopped}
use Rattle.run_laws.specs.Room.{room, workers_in}
use Rattle.run_laws.proofs.Counting.{HasStopped, not_refused}

abbrev status_by : (a b c : Bool) → ℕ
status_by a b c = cond a 4 (cond b 5 (cond c 7 0))

by_endings : (a b c : Bool) → status_by a b c ≡ 6 → ⊥
by_endings true b c e = absurd (omega (arith, e))
by_endings false true c e = absurd (omega (arith, e))
by_endings false false true e = absurd (omega (arith, e))
by_endings false false false e = absurd (omega (arith, e))

endings_not_full : (endings : List Ending) → ending_status endings ≡ 6 → ⊥
endings_not_full endings e = by_endings (list_any is_sink endings) (list_any is_memory endings) (list_any is_fault endings) e

unstopped_not_full : (said : Result Unit PutFault) (endings : List Ending) → final_status said None endings ≡ 6 → ⊥
unstopped_not_full (Ok done) endings e = endings_not_full endings e
unstopped_not_full (Err putting.Failed) endings e = absurd (omega (arith, e))
unstopped_not_full (Err putting.NoMemory) endings e = absurd (omega (arith, e))

-- the stop gives the status, or memory ran out for a line
stopped_status : (said : Result Unit PutFault) (what : Stop) (endings : List Ending) (n : ℕ) → unless_stopped 4 (Some what) ≡ n → (◌≡◌ {A = ℕ} 5 6 → ⊥) → (n ≡ 6 → ⊥) → final_status said (Some what) endings ≡ 6 → ⊥
stopped_status (Ok done) what endings n is five not e = not (sym is ∙ e)
stopped_status (Err putting.Failed) what endings n is five not e = not (sym is ∙ e)
stopped_status (Err putting.NoMemory) what endings n is five not e = five e

five_not : ◌≡◌ {A = ℕ} 5 6 → ⊥
five_not e = absurd (omega (arith, e))

four_not : ◌≡◌ {A = ℕ} 4 6 → ⊥
four_not e = absurd (omega (arith, e))

module _ {M K F : Type 0} (p : Program M F) (old new : Session M K) (c : Course F) (code : ℕ) (runs : RunsCourse p old new c code) (number : new.player.desk.fixed.number ≡ 0)
    (fits : room (workers_in p.others) p.body ≤ new.player.desk.fixed.limit) where
  stopped_at : (h : Halted F) → c.halted ≡ Some h → HasStopped p.setting new.player.desk p.others p.body
  stopped_at h e =
      let lines = subst (AreLines p.body c.played) e runs.lines in
      record {
        known = runs.known;
        number = number;
        early = c.early;
        crew = runs.crew;
        played = c.played;
        last = h;
        rest = lines.0;
        lines = lines.1;
        whole = runs.whole;
        begun = subst (IsBegun p.setting new.player.desk) e runs.begun;
        fits = fits;
      }

  -- no call of it is refused since the journal is full
  pub course_not_refused : (h : Halted F) (len owing : ℕ) → c.halted ≡ Some h → h.why ≡ halt.JournalFull len owing → ⊥
  unfolding stopped_at
  course_not_refused h len owing e why =
      let cause = subst (λ (o : Option (Halted F)). HasCause p.setting old.player new.player (flat_map (λ (q : Played F). q.calls) c.played ++ halted_calls o) o) e runs.cause in
      let refused = subst (IsCause p.setting old.player new.player (flat_map (λ (q : Played F). q.calls) c.played ++ h.played.calls, h)) why cause in
      not_refused p.setting new.player.desk p.others p.body (stopped_at h e) (len, owing) refused

  by_why : (h : Halted F) (endings : List Ending) → c.halted ≡ Some h → (why : Halt) → h.why ≡ why → final_status c.said (Some (stop_of why)) endings ≡ 6 → ⊥
  by_why h endings at (halt.Store fault) is e = stopped_status c.said (stop_of (halt.Store fault)) endings 4 refl five_not four_not e
  by_why h endings at halt.Screen is e = stopped_status c.said (stop_of halt.Screen) endings 4 refl five_not four_not e
  by_why h endings at halt.Out is e = stopped_status c.said (stop_of halt.Out) endings 4 refl five_not four_not e
  by_why h endings at halt.NoMemory is e = stopped_status c.said (stop_of halt.NoMemory) endings 5 refl five_not five_not e
  by_why h endings at halt.OutMemory is e = stopped_status c.said (stop_of halt.OutMemory) endings 5 refl five_not five_not e
  by_why h endings at (halt.JournalFull len owing) is e = course_not_refused h len owing at is

  by_halted : (endings : List Ending) (o : Option (Halted F)) → c.halted ≡ o → final_status c.said (option_map (λ (h : Halted F). stop_of h.why) o) endings ≡ 6 → ⊥
  by_halted endings None at e = unstopped_not_full c.said endings e
  by_halted endings (Some h) at e = by_why h endings at h.why refl e

  -- so its status isn't that of a full journal
  pub course_not_full : code ≡ 6 → ⊥
  course_not_full six = by_halted (map (λ (x : Carried). x.ending) (all_carried c)) c.halted refl (sym runs.status ∙ six)
