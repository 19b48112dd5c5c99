-- Lines that are played one after another.
use Rattle.std.proofs.Common.{◌≡◌, ℕ, ◌≤◌, Bool, List, [], ◌∷◌, ◌++◌, map, Result, Ok, Err, ◌⊎◌, inl, inr, refl, sym, ap, subst, ◌∙◌, arith}
use Rattle.std.specs.Prelude.{IsTrue}
use Rattle.std.specs.List.{flat_map}
use Rattle.std.proofs.lemmas.List.{append-nil, append_assoc, map-append}
use Rattle.std.proofs.lemmas.List.Concat.{flat_map-append}
use Rattle.tl_model.specs.Media.{Library}
use Rattle.render_core.specs.Calls.{CallOf}
use Rattle.render_core.specs.State.{State}
use Rattle.edit_desk.specs.Desk.{FixedOf, DeskOf, Hears, heard}
use Rattle.edit_desk.proofs.Heard.{hears_on}
use Rattle.edit_desk.proofs.Times.{was_hears}
use Rattle.script_lang.specs.declared.out_line.OutLine.{OutLine}
use Rattle.script_lang.specs.declared.script.BodyLine.{BodyLine}
use Rattle.script_lang.specs.declared.script.Call.{Call}
use Rattle.script_lang.specs.declared.script.Call.TheVariants as call
use Rattle.script_lang.specs.Line.{line_text}
use Rattle.play_head.specs.declared.halt.Halt.{Halt}
use Rattle.play_head.specs.Work.{Turn, IsIdle}
use Rattle.play_head.specs.Playing.{Setting, Player, Played, HasTurns, HasReason, HasCalls, IsWhole, AreWhole, lines_of, rows_of}
use Rattle.play_head.specs.PlayingLine.{Output, PutsAll, Lasts, PlaysWhole, PlaysPart, output_of, texts}
use Rattle.play_head.specs.PlayingScript.{PlaysLines, PlaysFront, outputs_of}
use Rattle.play_head.specs.Putting.{GotAll}
use Rattle.play_head.proofs.Desks.{hears_nothing, number-hears}
use Rattle.play_head.proofs.Pieces.{got_nothing, all_then}

pub flat_map-one : {A B : Type 0} (f : A → List B) (xs : List A) (x : A) → flat_map f (xs ++ x ∷ []) ≡ flat_map f xs ++ f x
flat_map-one f xs x = flat_map-append f xs (x ∷ []) ∙ ap (λ ys. flat_map f xs ++ ys) (append-nil (f x))

module _ {M K : Type 0} where
  pub lasts_still : (p : Player M K) → Lasts p p
  lasts_still p = record { files = refl; store = omega arith; screen = omega arith; out = omega arith }

  pub lasts_on : (old mid new : Player M K) → Lasts old mid → Lasts mid new → Lasts old new
  lasts_on old mid new h k = record {
    files = k.files ∙ h.files;
    store = (let a = h.store in let b = k.store in omega (arith, a, b));
    screen = (let a = h.screen in let b = k.screen in omega (arith, a, b));
    out = (let a = h.out in let b = k.out in omega (arith, a, b));
  }

module _ {M K F : Type 0} (s : Setting M F) where
  -- ---- what was so of a line stays so

  reason_later : (d new : DeskOf M K) (calls more : List (CallOf F)) (turns : ℕ) (done : List (Turn F)) → Hears s.library d new more → HasReason s d calls turns done → HasReason s new calls turns done
  reason_later d new calls more turns done h (inl x) = inl x
  reason_later d new calls more turns done h (inr (inl x)) = inr (inl x)
  reason_later d new calls more turns done h (inr (inr (inl x))) = inr (inr (inl (was_hears s.library d new calls more IsIdle h x)))
  reason_later d new calls more turns done h (inr (inr (inr x))) = inr (inr (inr (was_hears s.library d new calls more (λ (state : State). IsTrue state.is_stopped) h x)))

  calls_later : (d new : DeskOf M K) (before more : List (CallOf F)) (p : Played F) → Hears s.library d new more → (c : Call) → HasCalls s d before p c → HasCalls s new before p c
  calls_later d new before more p h (call.Work turns) x =
      (x.0, subst (λ (n : ℕ). HasTurns n turns p.calls x.0) (sym (number-hears s.library d new more h)) x.1, reason_later d new (before ++ p.calls) more turns x.0 h x.2)
  calls_later d new before more p h (call.Insert at name first len) x = x
  calls_later d new before more p h (call.Overwrite at name first len) x = x
  calls_later d new before more p h (call.Extract at len) x = x
  calls_later d new before more p h (call.Lift at len) x = x
  calls_later d new before more p h (call.Split at) x = x
  calls_later d new before more p h (call.TrimIn at by) x = x
  calls_later d new before more p h (call.TrimOut at by) x = x
  calls_later d new before more p h (call.Slip at by) x = x
  calls_later d new before more p h (call.Dissolve at len) x = x
  calls_later d new before more p h (call.Relink at name first) x = x
  calls_later d new before more p h (call.Edl file) x = x
  calls_later d new before more p h call.Undo x = x
  calls_later d new before more p h call.Redo x = x
  calls_later d new before more p h (call.Want first len) x = x
  calls_later d new before more p h (call.Cancel first len) x = x
  calls_later d new before more p h (call.Play n) x = x
  calls_later d new before more p h (call.Show n) x = x
  calls_later d new before more p h (call.Roll first len) x = x
  calls_later d new before more p h (call.Export file) x = x

  pub are_later : (d new : DeskOf M K) (before more : List (CallOf F)) (ps : List (Played F)) → Hears s.library d new more → AreWhole s d before ps → AreWhole s new before ps
  are_later d new before more [] h w = tt
  are_later d new before more (p ∷ ps) h w =
      (record { calls = calls_later d new before more p h p.line.call w.0.calls; list = w.0.list }, are_later d new (before ++ p.calls) more ps h w.1)

  whole_more : (d : DeskOf M K) (before : List (CallOf F)) (ps : List (Played F)) (p : Played F) → AreWhole s d before ps → IsWhole s d (before ++ flat_map (λ (q : Played F). q.calls) ps) p → AreWhole s d before (ps ++ p ∷ [])
  whole_more d before [] p w x = (subst (λ (b : List (CallOf F)). IsWhole s d b p) (append-nil before) x, tt)
  whole_more d before (q ∷ qs) p w x =
      (w.0, whole_more d (before ++ q.calls) qs p w.1 (subst (λ (b : List (CallOf F)). IsWhole s d b p) (sym (append_assoc before q.calls (flat_map (λ (r : Played F). r.calls) qs))) x))

  -- ---- what is put of one line more

  puts_more : (lib : Library F) (old mid new : Player M K) (ps : List (Played F)) (p : Played F) → PutsAll s old mid (outputs_of s lib ps) → PutsAll s mid new (output_of s lib p) → PutsAll s old new (outputs_of s lib (ps ++ p ∷ []))
  puts_more lib old mid new ps p h k = (
    subst (GotAll s.tells.out old.out new.out) (sym (ap texts (flat_map-one (lines_of lib) ps p) ∙ map-append line_text (flat_map (lines_of lib) ps) (lines_of lib p)))
        (all_then s.tells.out old.out mid.out new.out (texts (flat_map (lines_of lib) ps)) (texts (lines_of lib p)) (Ok tt) h.0 k.0),
    subst (GotAll s.tells.screen old.screen new.screen) (sym (flat_map-one (rows_of s lib) ps p))
        (all_then s.tells.screen old.screen mid.screen new.screen (flat_map (rows_of s lib) ps) (rows_of s lib p) (Ok tt) h.1 k.1),
  )

  -- ---- one line more

  pub lines_none : (p : Player M K) → PlaysLines s p p []
  lines_none p = record {
    played = [];
    is = refl;
    whole = tt;
    hears = hears_nothing s.library p.desk;
    puts = (got_nothing s.tells.out p.out, got_nothing s.tells.screen p.screen);
    lasts = lasts_still p;
  }

  pub lines_more : (old mid new : Player M K) (front : List BodyLine) (line : BodyLine) → PlaysLines s old mid front → PlaysWhole s mid new line → Lasts mid new → PlaysLines s old new (front ++ line ∷ [])
  lines_more old mid new front line f w l = record {
    played = f.played ++ w.played ∷ [];
    is = map-append (λ (p : Played F). p.line) f.played (w.played ∷ []) ∙ ap (λ ls. ls ++ w.played.line ∷ []) f.is ∙ ap (λ x. front ++ x ∷ []) w.is;
    whole = whole_more new.desk (heard s.library old.desk) f.played w.played
        (are_later mid.desk new.desk (heard s.library old.desk) w.played.calls f.played w.hears f.whole)
        (subst (λ (b : List (CallOf F)). IsWhole s new.desk b w.played) f.hears.heard w.whole);
    hears = subst (Hears s.library old.desk new.desk) (sym (flat_map-one (λ (p : Played F). p.calls) f.played w.played))
        (hears_on s.library old.desk mid.desk new.desk (flat_map (λ (p : Played F). p.calls) f.played) w.played.calls f.hears w.hears);
    puts = puts_more (s.library old.desk.fixed.library) old mid new f.played w.played f.puts
        (subst (λ (x : FixedOf M K). PutsAll s mid new (output_of s (s.library x.library) w.played)) f.hears.fixed w.puts);
    lasts = lasts_on old mid new f.lasts l;
  }

  pub lines_stop : (old mid new : Player M K) (front rest body : List BodyLine) (line : BodyLine) (why : Halt) → body ≡ front ++ line ∷ rest → PlaysLines s old mid front → PlaysPart s mid new line why → Lasts mid new → PlaysFront s old new body why
  lines_stop old mid new front rest body line why e f p l =
      record { front = front; line = line; rest = rest; is = e; between = mid; plays = f; part = p; lasts = l }
