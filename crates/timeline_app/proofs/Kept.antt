-- The lines of a script make no take, no end of an export and no stop.
use Rattle.std.proofs.Common.{◌≡◌, ℕ, zero, suc, ◌+◌, Bool, true, false, cond, List, [], ◌∷◌, ◌++◌, Option, Some, None, Result, Ok, Err, inl, inr, sym, subst}
use Rattle.std.specs.Prelude.{nat_lt}
use Rattle.std.specs.List.{flat_map}
use Rattle.tl_model.specs.Cells.{run}
use Rattle.tl_model.specs.declared.journal.Act.{Act}
use Rattle.tl_model.specs.declared.journal.Act.TheVariants as act
use Rattle.tl_model.specs.declared.segment.Segment.{Segment}
use Rattle.render_core.specs.Calls.{CallOf}
use Rattle.edit_desk.specs.Desk.{DeskOf}
use Rattle.edit_desk.proofs.Holding.{HasNone}
use Rattle.edl_text.specs.declared.fault.EdlFault.{EdlFault}
use Rattle.script_lang.specs.declared.script.Call.{Call}
use Rattle.script_lang.specs.declared.script.Call.TheVariants as call
use Rattle.play_head.specs.Acts.{line_acts}
use Rattle.play_head.specs.Roll.{ahead, frame_calls}
use Rattle.play_head.specs.Work.{Turn, AreTurns, IsTurn, turns_calls}
use Rattle.play_head.specs.Playing.{Setting, Played, HasTurns, HasCalls, HasSomeCalls, AreWhole, acts_of}
use Rattle.timeline_app.specs.Course.{Course, Halted, IsBegun, halted_calls, script_calls}

-- an act that no line makes
abbrev pub IsApart : Act → Type 0
IsApart (act.Edit edit) = ⊥
IsApart act.Undo = ⊥
IsApart act.Redo = ⊥
IsApart (act.Want first len) = ⊥
IsApart (act.Cancel first len) = ⊥
IsApart act.Claim = ⊥
IsApart (act.File job) = ⊥
IsApart (act.Release job) = ⊥
IsApart (act.Play n) = ⊥
IsApart (act.Show n) = ⊥
IsApart (act.Ask name) = ⊥
IsApart act.Take = Unit {0}
IsApart (act.End export ending) = Unit {0}
IsApart (act.Mark turns) = ⊥
IsApart act.Skip = ⊥
IsApart act.Stop = Unit {0}

abbrev pub NoneIn : List Act → Type 0
NoneIn [] = Unit {0}
NoneIn (a ∷ more) = (IsApart a → ⊥) × NoneIn more

none-append : {F : Type 0} (xs ys : List (CallOf F)) → HasNone IsApart xs → HasNone IsApart ys → HasNone IsApart (xs ++ ys)
none-append [] ys h k = k
none-append (x ∷ xs) ys h k = (h.0, none-append xs ys h.1 k)

none_front : (xs ys : List Act) → NoneIn (xs ++ ys) → NoneIn xs
none_front [] ys h = tt
none_front (x ∷ xs) ys h = (h.0, none_front xs ys h.1)

in-append : (xs ys : List Act) → NoneIn xs → NoneIn ys → NoneIn (xs ++ ys)
in-append [] ys h k = k
in-append (x ∷ xs) ys h k = (h.0, in-append xs ys h.1 k)

by_acts : {F : Type 0} (calls : List (CallOf F)) → NoneIn (acts_of calls) → HasNone IsApart calls
by_acts [] h = tt
by_acts (c ∷ calls) h = (h.0, by_acts calls h.1)

-- ---- the acts of a line

frame_none : (first len i : ℕ) (b : Bool) → NoneIn (act.Play (first + i) ∷ cond b (act.Want (first + i + ahead) 1 ∷ []) [])
frame_none first len i true = ((λ x. x), ((λ x. x), tt))
frame_none first len i false = ((λ x. x), tt)

frames_none : (first len from count : ℕ) → NoneIn (flat_map (frame_calls first len) (run (λ i. i) from count))
frames_none first len from zero = tt
frames_none first len from (suc count) =
    in-append (frame_calls first len from) (flat_map (frame_calls first len) (run (λ i. i) (from + 1) count))
    (frame_none first len from (nat_lt (from + ahead) len)) (frames_none first len (from + 1) count)

line_none : (clips : List (List ℕ × ℕ)) (c : Call) (list : Result (List Segment) EdlFault) → NoneIn (line_acts clips c list)
line_none clips (call.Insert at name first len) list = ((λ x. x), tt)
line_none clips (call.Overwrite at name first len) list = ((λ x. x), tt)
line_none clips (call.Extract at len) list = ((λ x. x), tt)
line_none clips (call.Lift at len) list = ((λ x. x), tt)
line_none clips (call.Split at) list = ((λ x. x), tt)
line_none clips (call.TrimIn at by) list = ((λ x. x), tt)
line_none clips (call.TrimOut at by) list = ((λ x. x), tt)
line_none clips (call.Slip at by) list = ((λ x. x), tt)
line_none clips (call.Dissolve at len) list = ((λ x. x), tt)
line_none clips (call.Relink at name first) list = ((λ x. x), tt)
line_none clips (call.Edl file) (Ok segments) = ((λ x. x), tt)
line_none clips (call.Edl file) (Err fault) = ((λ x. x), tt)
line_none clips call.Undo list = ((λ x. x), tt)
line_none clips call.Redo list = ((λ x. x), tt)
line_none clips (call.Want first len) list = ((λ x. x), tt)
line_none clips (call.Cancel first len) list = ((λ x. x), tt)
line_none clips (call.Play n) list = ((λ x. x), tt)
line_none clips (call.Show n) list = ((λ x. x), tt)
line_none clips (call.Roll first len) list = ((λ x. x), frames_none first len 0 len)
line_none clips (call.Work turns) list = ((λ x. x), tt)
line_none clips (call.Export file) list = ((λ x. x), tt)

-- ---- the turns of work

end_none : {F : Type 0} (turn : Turn F) → IsTurn turn → IsApart turn.end → ⊥
end_none turn (inl e, told) = λ x. subst IsApart e x
end_none turn (inr e, told) = λ x. subst IsApart e x

turns_none : {F : Type 0} (number : ℕ) (done : List (Turn F)) → AreTurns done → HasNone IsApart (turns_calls number done)
turns_none number [] h = tt
turns_none number (turn ∷ []) h = ((λ x. x), (end_none turn h, tt))
turns_none number (turn ∷ next ∷ done) h = ((λ x. x), (end_none turn h.0, turns_none number (next ∷ done) h.2))

work_none : {F : Type 0} (number turns : ℕ) (calls : List (CallOf F)) (done : List (Turn F)) → HasTurns number turns calls done → HasNone IsApart calls
work_none number turns calls done h = subst (HasNone IsApart) (sym h.is) ((λ x. x), turns_none number done h.are_turns)

-- ---- the calls of a script

acts_none : {F : Type 0} (calls : List (CallOf F)) (acts : List Act) → acts_of calls ≡ acts → NoneIn acts → HasNone IsApart calls
acts_none calls acts e h = by_acts calls (subst NoneIn (sym e) h)

front_none : {F : Type 0} (clips : List (List ℕ × ℕ)) (p : Played F) (c : Call) (left : List Act) → line_acts clips c p.list ≡ acts_of p.calls ++ left → HasNone IsApart p.calls
front_none clips p c left e = by_acts p.calls (none_front (acts_of p.calls) left (subst NoneIn e (line_none clips c p.list)))

module _ {M K F : Type 0} (s : Setting M F) where
  whole_none : (d : DeskOf M K) (before : List (CallOf F)) (p : Played F) (c : Call) → HasCalls s d before p c → HasNone IsApart p.calls
  whole_none d before p (call.Work turns) h = work_none d.fixed.number turns p.calls h.0 h.1
  whole_none d before p (call.Insert at name first len) h = acts_none p.calls _ h (line_none s.clips (call.Insert at name first len) p.list)
  whole_none d before p (call.Overwrite at name first len) h = acts_none p.calls _ h (line_none s.clips (call.Overwrite at name first len) p.list)
  whole_none d before p (call.Extract at len) h = acts_none p.calls _ h (line_none s.clips (call.Extract at len) p.list)
  whole_none d before p (call.Lift at len) h = acts_none p.calls _ h (line_none s.clips (call.Lift at len) p.list)
  whole_none d before p (call.Split at) h = acts_none p.calls _ h (line_none s.clips (call.Split at) p.list)
  whole_none d before p (call.TrimIn at by) h = acts_none p.calls _ h (line_none s.clips (call.TrimIn at by) p.list)
  whole_none d before p (call.TrimOut at by) h = acts_none p.calls _ h (line_none s.clips (call.TrimOut at by) p.list)
  whole_none d before p (call.Slip at by) h = acts_none p.calls _ h (line_none s.clips (call.Slip at by) p.list)
  whole_none d before p (call.Dissolve at len) h = acts_none p.calls _ h (line_none s.clips (call.Dissolve at len) p.list)
  whole_none d before p (call.Relink at name first) h = acts_none p.calls _ h (line_none s.clips (call.Relink at name first) p.list)
  whole_none d before p (call.Edl file) h = acts_none p.calls _ h (line_none s.clips (call.Edl file) p.list)
  whole_none d before p call.Undo h = acts_none p.calls _ h (line_none s.clips call.Undo p.list)
  whole_none d before p call.Redo h = acts_none p.calls _ h (line_none s.clips call.Redo p.list)
  whole_none d before p (call.Want first len) h = acts_none p.calls _ h (line_none s.clips (call.Want first len) p.list)
  whole_none d before p (call.Cancel first len) h = acts_none p.calls _ h (line_none s.clips (call.Cancel first len) p.list)
  whole_none d before p (call.Play n) h = acts_none p.calls _ h (line_none s.clips (call.Play n) p.list)
  whole_none d before p (call.Show n) h = acts_none p.calls _ h (line_none s.clips (call.Show n) p.list)
  whole_none d before p (call.Roll first len) h = acts_none p.calls _ h (line_none s.clips (call.Roll first len) p.list)
  whole_none d before p (call.Export file) h = acts_none p.calls _ h (line_none s.clips (call.Export file) p.list)

  pub played_none : (d : DeskOf M K) (before : List (CallOf F)) (ps : List (Played F)) → AreWhole s d before ps → HasNone IsApart (flat_map (λ (p : Played F). p.calls) ps)
  played_none d before [] h = tt
  played_none d before (p ∷ ps) h =
      none-append p.calls (flat_map (λ (q : Played F). q.calls) ps) (whole_none d before p p.line.call h.0.calls) (played_none d (before ++ p.calls) ps h.1)

  some_none : (d : DeskOf M K) (p : Played F) (c : Call) (left : List Act) → HasSomeCalls s d p c left → HasNone IsApart p.calls
  some_none d p (call.Work turns) left (inl h) = subst (HasNone IsApart) (sym h.0) tt
  some_none d p (call.Work turns) left (inr h) = work_none d.fixed.number turns p.calls h.0 h.1
  some_none d p (call.Insert at name first len) left h = front_none s.clips p (call.Insert at name first len) left h
  some_none d p (call.Overwrite at name first len) left h = front_none s.clips p (call.Overwrite at name first len) left h
  some_none d p (call.Extract at len) left h = front_none s.clips p (call.Extract at len) left h
  some_none d p (call.Lift at len) left h = front_none s.clips p (call.Lift at len) left h
  some_none d p (call.Split at) left h = front_none s.clips p (call.Split at) left h
  some_none d p (call.TrimIn at by) left h = front_none s.clips p (call.TrimIn at by) left h
  some_none d p (call.TrimOut at by) left h = front_none s.clips p (call.TrimOut at by) left h
  some_none d p (call.Slip at by) left h = front_none s.clips p (call.Slip at by) left h
  some_none d p (call.Dissolve at len) left h = front_none s.clips p (call.Dissolve at len) left h
  some_none d p (call.Relink at name first) left h = front_none s.clips p (call.Relink at name first) left h
  some_none d p (call.Edl file) left h = front_none s.clips p (call.Edl file) left h
  some_none d p call.Undo left h = front_none s.clips p call.Undo left h
  some_none d p call.Redo left h = front_none s.clips p call.Redo left h
  some_none d p (call.Want first len) left h = front_none s.clips p (call.Want first len) left h
  some_none d p (call.Cancel first len) left h = front_none s.clips p (call.Cancel first len) left h
  some_none d p (call.Play n) left h = front_none s.clips p (call.Play n) left h
  some_none d p (call.Show n) left h = front_none s.clips p (call.Show n) left h
  some_none d p (call.Roll first len) left h = front_none s.clips p (call.Roll first len) left h
  some_none d p (call.Export file) left h = front_none s.clips p (call.Export file) left h

  halted_none : (d : DeskOf M K) (halted : Option (Halted F)) → IsBegun s d halted → HasNone IsApart (halted_calls halted)
  halted_none d None h = tt
  halted_none d (Some x) h = some_none d x.played x.played.line.call x.left h.0

  -- none of a script's calls is such an act
  pub script_none : (d : DeskOf M K) (before : List (CallOf F)) (c : Course F) → AreWhole s d before c.played → IsBegun s d c.halted → HasNone IsApart (script_calls c)
  script_none d before c whole begun =
      none-append (flat_map (λ (p : Played F). p.calls) c.played) (halted_calls c.halted) (played_none d before c.played whole) (halted_none d c.halted begun)
