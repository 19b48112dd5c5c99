-- The exports that a session's script asks for have different names, since those of its lines differ.
use Rattle.std.proofs.Common.{◌≡◌, ℕ, List, [], ◌∷◌, ◌++◌, map, Option, Some, None, inl, inr, refl, sym, ap, subst, ◌∙◌}
use Rattle.std.specs.List.{flat_map}
use Rattle.std.proofs.lemmas.List.{append-nil}
use Rattle.std.proofs.lemmas.List.Concat.{flat_map-append}
use Rattle.tl_model.specs.declared.journal.Act.{Act}
use Rattle.render_core.specs.Calls.{CallOf}
use Rattle.edit_desk.specs.Desk.{DeskOf}
use Rattle.script_lang.specs.declared.script.BodyLine.{BodyLine}
use Rattle.script_lang.specs.declared.script.Call.{Call}
use Rattle.script_lang.specs.declared.script.Call.TheVariants as call
use Rattle.script_lang.specs.ScriptSound.{AreDistinct}
use Rattle.script_lang.specs.ScriptText.{export_files}
use Rattle.play_head.specs.Playing.{Setting, Played, HasCalls, HasSomeCalls, AreWhole}
use Rattle.timeline_app.specs.Course.{Course, Halted, AreLines, IsBegun, halted_calls, script_calls}
use Rattle.timeline_app.proofs.AskedNames.{asked_names}
use Rattle.timeline_app.proofs.Names.{IsWithin, line_within, whole_within, within-append, within_distinct, within_front, work_within}

-- the files that lines export
abbrev pub files_of : List BodyLine → List (List ℕ)
files_of lines = flat_map (λ (line : BodyLine). export_files line.call) lines

abbrev lines_in : {F : Type 0} → List (Played F) → List BodyLine
lines_in ps = map (λ p. p.line) ps

abbrev calls_in : {F : Type 0} → List (Played F) → List (CallOf F)
calls_in ps = flat_map (λ p. p.calls) ps

module _ {M K F : Type 0} (s : Setting M F) where
  played_within : (d : DeskOf M K) (before : List (CallOf F)) (p : Played F) (c : Call) → HasCalls s d before p c → IsWithin (flat_map asked_names p.calls) (export_files c)
  played_within d before p (call.Work turns) h = work_within d.fixed.number turns p.calls h.0 h.1
  played_within d before p (call.Insert at name first len) h = whole_within s.clips (call.Insert at name first len) p.list p.calls h
  played_within d before p (call.Overwrite at name first len) h = whole_within s.clips (call.Overwrite at name first len) p.list p.calls h
  played_within d before p (call.Extract at len) h = whole_within s.clips (call.Extract at len) p.list p.calls h
  played_within d before p (call.Lift at len) h = whole_within s.clips (call.Lift at len) p.list p.calls h
  played_within d before p (call.Split at) h = whole_within s.clips (call.Split at) p.list p.calls h
  played_within d before p (call.TrimIn at by) h = whole_within s.clips (call.TrimIn at by) p.list p.calls h
  played_within d before p (call.TrimOut at by) h = whole_within s.clips (call.TrimOut at by) p.list p.calls h
  played_within d before p (call.Slip at by) h = whole_within s.clips (call.Slip at by) p.list p.calls h
  played_within d before p (call.Dissolve at len) h = whole_within s.clips (call.Dissolve at len) p.list p.calls h
  played_within d before p (call.Relink at name first) h = whole_within s.clips (call.Relink at name first) p.list p.calls h
  played_within d before p (call.Edl file) h = whole_within s.clips (call.Edl file) p.list p.calls h
  played_within d before p call.Undo h = whole_within s.clips call.Undo p.list p.calls h
  played_within d before p call.Redo h = whole_within s.clips call.Redo p.list p.calls h
  played_within d before p (call.Want first len) h = whole_within s.clips (call.Want first len) p.list p.calls h
  played_within d before p (call.Cancel first len) h = whole_within s.clips (call.Cancel first len) p.list p.calls h
  played_within d before p (call.Play n) h = whole_within s.clips (call.Play n) p.list p.calls h
  played_within d before p (call.Show n) h = whole_within s.clips (call.Show n) p.list p.calls h
  played_within d before p (call.Roll first len) h = whole_within s.clips (call.Roll first len) p.list p.calls h
  played_within d before p (call.Export file) h = whole_within s.clips (call.Export file) p.list p.calls h

  some_within : (d : DeskOf M K) (p : Played F) (c : Call) (left : List Act) → HasSomeCalls s d p c left → IsWithin (flat_map asked_names p.calls) (export_files c)
  some_within d p (call.Work turns) left (inl h) = ap (flat_map asked_names) h.0
  some_within d p (call.Work turns) left (inr h) = work_within d.fixed.number turns p.calls h.0 h.1
  some_within d p (call.Insert at name first len) left h = line_within s.clips (call.Insert at name first len) p.list p.calls left h
  some_within d p (call.Overwrite at name first len) left h = line_within s.clips (call.Overwrite at name first len) p.list p.calls left h
  some_within d p (call.Extract at len) left h = line_within s.clips (call.Extract at len) p.list p.calls left h
  some_within d p (call.Lift at len) left h = line_within s.clips (call.Lift at len) p.list p.calls left h
  some_within d p (call.Split at) left h = line_within s.clips (call.Split at) p.list p.calls left h
  some_within d p (call.TrimIn at by) left h = line_within s.clips (call.TrimIn at by) p.list p.calls left h
  some_within d p (call.TrimOut at by) left h = line_within s.clips (call.TrimOut at by) p.list p.calls left h
  some_within d p (call.Slip at by) left h = line_within s.clips (call.Slip at by) p.list p.calls left h
  some_within d p (call.Dissolve at len) left h = line_within s.clips (call.Dissolve at len) p.list p.calls left h
  some_within d p (call.Relink at name first) left h = line_within s.clips (call.Relink at name first) p.list p.calls left h
  some_within d p (call.Edl file) left h = line_within s.clips (call.Edl file) p.list p.calls left h
  some_within d p call.Undo left h = line_within s.clips call.Undo p.list p.calls left h
  some_within d p call.Redo left h = line_within s.clips call.Redo p.list p.calls left h
  some_within d p (call.Want first len) left h = line_within s.clips (call.Want first len) p.list p.calls left h
  some_within d p (call.Cancel first len) left h = line_within s.clips (call.Cancel first len) p.list p.calls left h
  some_within d p (call.Play n) left h = line_within s.clips (call.Play n) p.list p.calls left h
  some_within d p (call.Show n) left h = line_within s.clips (call.Show n) p.list p.calls left h
  some_within d p (call.Roll first len) left h = line_within s.clips (call.Roll first len) p.list p.calls left h
  some_within d p (call.Export file) left h = line_within s.clips (call.Export file) p.list p.calls left h

  lines_within : (d : DeskOf M K) (before : List (CallOf F)) (ps : List (Played F)) → AreWhole s d before ps → IsWithin (flat_map asked_names (calls_in ps)) (files_of (lines_in ps))
  lines_within d before [] h = refl
  lines_within d before (p ∷ ps) h =
      subst (λ (ns : List (List ℕ)). IsWithin ns (files_of (lines_in (p ∷ ps)))) (sym (flat_map-append asked_names p.calls (calls_in ps)))
      (within-append (flat_map asked_names p.calls) (export_files p.line.call) (flat_map asked_names (calls_in ps)) (files_of (lines_in ps)) (played_within d before p p.line.call h.0.calls) (lines_within d (before ++ p.calls) ps h.1))

  body_within : (d : DeskOf M K) (before : List (CallOf F)) (body : List BodyLine) (ps : List (Played F)) (halted : Option (Halted F)) → AreLines body ps halted → AreWhole s d before ps → IsBegun s d halted → IsWithin (flat_map asked_names (calls_in ps ++ halted_calls halted)) (files_of body)
  body_within d before body ps None lines whole begun =
      subst (λ (cs : List (CallOf F)). IsWithin (flat_map asked_names cs) (files_of body)) (sym (append-nil (calls_in ps)))
      (subst (λ (ls : List BodyLine). IsWithin (flat_map asked_names (calls_in ps)) (files_of ls)) (sym lines) (lines_within d before ps whole))
  body_within d before body ps (Some x) lines whole begun =
      let line = x.played.line in
      let all : files_of body ≡ files_of (lines_in ps) ++ (export_files line.call ++ files_of lines.0) =
      ap files_of lines.1 ∙ flat_map-append (λ (l : BodyLine). export_files l.call) (lines_in ps) (line ∷ lines.0) in
      let last : IsWithin (flat_map asked_names x.played.calls) (export_files line.call ++ files_of lines.0) =
      within_front (flat_map asked_names x.played.calls) (export_files line.call) (files_of lines.0) (some_within d x.played line.call x.left begun.0) in
      subst (IsWithin (flat_map asked_names (calls_in ps ++ x.played.calls))) (sym all)
      (subst (λ (ns : List (List ℕ)). IsWithin ns (files_of (lines_in ps) ++ (export_files line.call ++ files_of lines.0))) (sym (flat_map-append asked_names (calls_in ps) x.played.calls))
      (within-append (flat_map asked_names (calls_in ps)) (files_of (lines_in ps)) (flat_map asked_names x.played.calls) (export_files line.call ++ files_of lines.0) (lines_within d before ps whole) last))

  pub names_differ : (d : DeskOf M K) (before : List (CallOf F)) (body : List BodyLine) (c : Course F) → AreDistinct (files_of body) → AreLines body c.played c.halted → AreWhole s d before c.played → IsBegun s d c.halted → AreDistinct (flat_map asked_names (script_calls c))
  names_differ d before body c distinct lines whole begun =
      within_distinct (flat_map asked_names (script_calls c)) (files_of body) (body_within d before body c.played c.halted lines whole begun) distinct
