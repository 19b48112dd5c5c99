-- What the parts of a session make of its course.
use Rattle.std.proofs.Common.{◌≡◌, ℕ, List, [], ◌∷◌, ◌++◌, map, Some, None, Result, ◌⊎◌, inl, inr, refl, sym, ap, subst, ◌∙◌}
use Rattle.std.specs.List.{flat_map}
use Rattle.std.proofs.lemmas.List.{append-nil}
use Rattle.tl_model.specs.declared.journal.Act.{Act}
use Rattle.tl_model.specs.declared.journal.Act.TheVariants as act
use Rattle.tl_ports.specs.declared.fault.PutFault.{PutFault}
use Rattle.render_core.specs.Calls.{CallOf, calls_of, own_calls}
use Rattle.render_core.specs.Step.{Silent}
use Rattle.edit_desk.specs.Desk.{FixedOf, DeskOf, Learns, Enters, Hears, heard, setup_of}
use Rattle.edit_desk.proofs.Heard.{hears_on, hears_enters, hears_learns}
use Rattle.script_lang.specs.declared.script.BodyLine.{BodyLine}
use Rattle.play_head.specs.declared.halt.Halt.{Halt}
use Rattle.play_head.specs.declared.halt.Halt.TheVariants as halt
use Rattle.play_head.specs.Carrying.{Carried, FinishesExports, carried_calls}
use Rattle.play_head.specs.Playing.{Setting, Player, Played, AreWhole, HasSomeCalls, ReadsList}
use Rattle.play_head.specs.PlayingLine.{Output, PlaysPart, StopsLine, no_output, output_of}
use Rattle.play_head.specs.PlayingScript.{PlaysLines, PlaysFront}
use Rattle.play_head.proofs.Desks.{number-hears}
use Rattle.play_head.proofs.Growing.{are_later}
use Rattle.timeline_app.specs.Course.{Course, Halted, AreLines, IsBegun, IsOutputOf, course_calls, script_calls, stop_call}

module _ {M K F : Type 0} (s : Setting M F) where
  -- a journal that is empty has no calls
  pub heard_nothing : (d : DeskOf M K) → d.seen ≡ [] → heard s.library d ≡ []
  heard_nothing d e = ap (λ es. own_calls d.fixed.number (calls_of (setup_of s.library d) es)) e

  -- what a line that stopped had put
  abbrev pub output_by : (old new : Player M K) (p : Played F) (left : List Act) (why : Halt) → StopsLine s old new (p, left) why → Output
  output_by old new p left (halt.Store fault) h = output_of s (s.library old.desk.fixed.library) p
  output_by old new p left halt.Screen h = output_of s (s.library old.desk.fixed.library) p
  output_by old new p left halt.Out h = output_of s (s.library old.desk.fixed.library) p
  output_by old new p left halt.OutMemory h = output_of s (s.library old.desk.fixed.library) p
  output_by old new p left halt.NoMemory (inl h) = output_of s (s.library old.desk.fixed.library) p
  output_by old new p left halt.NoMemory (inr h) = no_output
  output_by old new p left (halt.JournalFull len owing) h = output_of s (s.library old.desk.fixed.library) p

  abbrev pub halted_by : (old new : Player M K) (line : BodyLine) (why : Halt) → PlaysPart s old new line why → Halted F
  halted_by old new line why h =
      record { played = h.played; left = h.left; output = output_by old new h.played h.left why h.stops; why = why }

  is_output : (old new : Player M K) (p : Played F) (left : List Act) (why : Halt) (h : StopsLine s old new (p, left) why) → IsOutputOf s (s.library old.desk.fixed.library) (record { played = p; left = left; output = output_by old new p left why h; why = why })
  is_output old new p left (halt.Store fault) h = inl refl
  is_output old new p left halt.Screen h = inl refl
  is_output old new p left halt.Out h = inl refl
  is_output old new p left halt.OutMemory h = inl refl
  is_output old new p left halt.NoMemory (inl h) = inl refl
  is_output old new p left halt.NoMemory (inr h) = inr (h.0, refl, refl)
  is_output old new p left (halt.JournalFull len owing) h = inl refl

  -- the part of a course that is a script's
  pub record ScriptPart (old new : Player M K) (body : List BodyLine) (c : Course F) : Type 0 where
    pub lines : AreLines body c.played c.halted
    pub whole : AreWhole s new.desk (heard s.library old.desk) c.played
    pub begun : IsBegun s new.desk c.halted
    pub hears : Hears s.library old.desk new.desk (script_calls c)

  pub part_whole : (old new : Player M K) (body : List BodyLine) (f : PlaysLines s old new body) (early late : List Carried) (said : Result Unit PutFault) → ScriptPart old new body (record { played = f.played; halted = None; early = early; late = late; said = said })
  part_whole old new body f early late said = record {
    lines = sym f.is;
    whole = f.whole;
    begun = tt;
    hears = subst (Hears s.library old.desk new.desk) (sym (append-nil (flat_map (λ (p : Played F). p.calls) f.played))) f.hears;
  }

  begun_there : (mid new : Player M K) (line : BodyLine) (why : Halt) (h : PlaysPart s mid new line why) → IsBegun s new.desk (Some (halted_by mid new line why h))
  begun_there mid new line why h = (
    subst (λ (l : BodyLine). HasSomeCalls s new.desk h.played l.call h.left) (sym h.is) h.begun,
    subst (λ (l : BodyLine). (h.played.calls ≡ []) ⊎ ReadsList s l.call h.played.list) (sym h.is) h.list,
    subst (λ (x : FixedOf M K). IsOutputOf s (s.library x.library) (halted_by mid new line why h)) (sym h.hears.fixed)
        (is_output mid new h.played h.left why h.stops),
  )

  pub part_front : (old new : Player M K) (body : List BodyLine) (why : Halt) (f : PlaysFront s old new body why) (early late : List Carried) (said : Result Unit PutFault) → ScriptPart old new body (record { played = f.plays.played; halted = Some (halted_by f.between new f.line why f.part); early = early; late = late; said = said })
  part_front old new body why f early late said = record {
    lines = (
      f.rest,
      f.is
          ∙ ap (λ (ls : List BodyLine). ls ++ f.line ∷ f.rest) (sym f.plays.is)
          ∙ ap (λ (l : BodyLine). map (λ (p : Played F). p.line) f.plays.played ++ l ∷ f.rest) (sym f.part.is),
    );
    whole = are_later s f.between.desk new.desk (heard s.library old.desk) f.part.played.calls f.plays.played f.part.hears f.plays.whole;
    begun = begun_there f.between new f.line why f.part;
    hears = hears_on s.library old.desk f.between.desk new.desk (flat_map (λ (p : Played F). p.calls) f.plays.played) f.part.played.calls f.plays.hears f.part.hears;
  }

  -- the stop and the exports come after it
  stop_hears : (played stopped : DeskOf M K) → played.fixed.number ≡ 0 → Enters s.library played stopped act.Stop Silent → Hears s.library played stopped (stop_call ∷ [])
  stop_hears played stopped zero h =
      subst (λ (n : ℕ). Hears s.library played stopped (record { pass = n; act = act.Stop; told = Silent } ∷ [])) zero (hears_enters s.library played stopped act.Stop Silent h)

  -- and what others entered then
  pub joined_hears : (played stopped joined : DeskOf M K) → played.fixed.number ≡ 0 → Enters s.library played stopped act.Stop Silent → Learns stopped joined → Hears s.library played joined (stop_call ∷ [])
  joined_hears played stopped joined zero h l =
      hears_on s.library played stopped joined (stop_call ∷ []) [] (stop_hears played stopped zero h) (hears_learns s.library stopped joined l)

  pub end_hears : (played joined new : DeskOf M K) (late : List Carried) → played.fixed.number ≡ 0 → Hears s.library played joined (stop_call ∷ []) → FinishesExports s.library joined new late → Hears s.library played new (stop_call ∷ flat_map (carried_calls 0) late)
  end_hears played joined new late zero stop f =
      let same : joined.fixed.number ≡ 0 = number-hears s.library played joined (stop_call ∷ []) stop ∙ zero in
      hears_on s.library played joined new (stop_call ∷ []) (flat_map (carried_calls 0) late) stop
      (subst (λ (n : ℕ). Hears s.library joined new (flat_map (carried_calls n) late)) same f.hears)

  -- all that is heard in a session
  pub calls_all : (old played new : DeskOf M K) (c : Course F) → old.seen ≡ [] → Hears s.library old played (script_calls c) → Hears s.library played new (stop_call ∷ flat_map (carried_calls 0) c.late) → heard s.library new ≡ course_calls c
  calls_all old played new c empty script ends =
      (hears_on s.library old played new (script_calls c) (stop_call ∷ flat_map (carried_calls 0) c.late) script ends).heard
      ∙ ap (λ (cs : List (CallOf F)). cs ++ course_calls c) (heard_nothing old empty)

  -- the same up to the exports that are left
  pub calls_before : (old played joined : DeskOf M K) (c : Course F) → old.seen ≡ [] → Hears s.library old played (script_calls c) → Hears s.library played joined (stop_call ∷ []) → heard s.library joined ≡ script_calls c ++ stop_call ∷ []
  calls_before old played joined c empty script stop =
      (hears_on s.library old played joined (script_calls c) (stop_call ∷ []) script stop).heard
      ∙ ap (λ (cs : List (CallOf F)). cs ++ (script_calls c ++ stop_call ∷ [])) (heard_nothing old empty)
