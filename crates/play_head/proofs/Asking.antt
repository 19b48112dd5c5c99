-- Lines that ask the desk one thing.
use Rattle.std.proofs.Common.{◌≡◌, ℕ, Bool, List, [], ◌∷◌, Option, Some, None, Result, Ok, Err, refl, sym, ap, subst, ◌∙◌}
use Rattle.tl_model.specs.declared.edit.Edit.{Edit}
use Rattle.tl_model.specs.declared.edit.Edit.TheVariants as edit
use Rattle.tl_model.specs.declared.journal.Act.{Act}
use Rattle.tl_model.specs.declared.journal.Act.TheVariants as act
use Rattle.tl_ports.specs.Seen.{StoreSeen, SinkSeen}
use Rattle.edl_text.specs.declared.fault.EdlFault.TheVariants as faults
use Rattle.edit_desk.specs.Desk.{DeskOf}
use Rattle.script_lang.specs.declared.script.BodyLine.{BodyLine}
use Rattle.script_lang.specs.declared.script.Call.{Call}
use Rattle.script_lang.specs.declared.script.Call.TheVariants as call
use Rattle.play_head.specs.declared.halt.Halt.{Halt}
use Rattle.play_head.specs.Acts.{line_acts, edit_for}
use Rattle.play_head.specs.Playing.{Setting, ReadsList, player}
use Rattle.play_head.specs.PlayingActs.{IsSaid, PlaysActs}
use Rattle.play_head.specs.PlayingLine.{PlaysLine}
use Rattle.play_head.specs.Saying.{SaysCall, place}
use Rattle.play_head.proofs.Acting.{says_acts}
use Rattle.play_head.proofs.Lining.{IsNoWork, manner_of, scene_of, acts_line}

abbrev the_edit : Edit → Option Edit → Edit
the_edit e None = e
the_edit e (Some other) = other

module _ {M K F : Type 0} (s : Setting M F) where
  -- a line whose only call has a line of output
  pub asked_line : (desk now : DeskOf M K) (store : StoreSeen) (screen before after : SinkSeen) (line : BodyLine) (is : Call) (what : Act) (r : Result Unit Halt) → line.call ≡ is → IsNoWork is → ReadsList s is (Err faults.NoMemory) → (what ∷ []) ≡ line_acts s.clips is (Err faults.NoMemory) → IsSaid what → SaysCall s.library s.tells.out (place desk before) (place now after) (what, r) → PlaysLine s (player desk store screen before) (player now store screen after) line r
  asked_line desk now store screen before after line is what r e u reads same said h =
      acts_line s (player desk store screen before) (player now store screen after) line is (Err faults.NoMemory) (what ∷ []) r e u reads same refl
      (says_acts (manner_of s) (scene_of s (player desk store screen before)) (scene_of s (player now store screen after)) what r said refl h)

module _ {M F : Type 0} (s : Setting M F) where
  pub record IsEditLine (c : Call) (e : Edit) : Type 0 where
    pub no_work : IsNoWork c
    pub reads : ReadsList s c (Err faults.NoMemory)
    pub acts : (act.Edit e ∷ []) ≡ line_acts s.clips c (Err faults.NoMemory)

  is_edit : (c : Call) (e other : Edit) → IsNoWork c → ReadsList s c (Err faults.NoMemory) → (act.Edit other ∷ []) ≡ line_acts s.clips c (Err faults.NoMemory) → Some other ≡ Some e → IsEditLine c e
  is_edit c e other u reads same h = record { no_work = u; reads = reads; acts = ap (λ (x : Edit). act.Edit x ∷ []) (sym (ap (the_edit e) h)) ∙ same }

  edit_line : (c : Call) (e : Edit) → edit_for s.clips c ≡ Some e → IsEditLine c e
  edit_line (call.Insert at name first len) e h = is_edit _ e _ tt tt refl h
  edit_line (call.Overwrite at name first len) e h = is_edit _ e _ tt tt refl h
  edit_line (call.Extract at len) e h = is_edit (call.Extract at len) e (edit.Extract at len) tt tt refl h
  edit_line (call.Lift at len) e h = is_edit (call.Lift at len) e (edit.Lift at len) tt tt refl h
  edit_line (call.Split at) e h = is_edit (call.Split at) e (edit.Split at) tt tt refl h
  edit_line (call.TrimIn at by) e h = is_edit (call.TrimIn at by) e (edit.TrimIn at by) tt tt refl h
  edit_line (call.TrimOut at by) e h = is_edit (call.TrimOut at by) e (edit.TrimOut at by) tt tt refl h
  edit_line (call.Slip at by) e h = is_edit (call.Slip at by) e (edit.Slip at by) tt tt refl h
  edit_line (call.Dissolve at len) e h = is_edit (call.Dissolve at len) e (edit.Dissolve at len) tt tt refl h
  edit_line (call.Relink at name first) e h = is_edit _ e _ tt tt refl h
  edit_line (call.Edl file) e h = absurd (cc)
  edit_line call.Undo e h = absurd (cc)
  edit_line call.Redo e h = absurd (cc)
  edit_line (call.Want first len) e h = absurd (cc)
  edit_line (call.Cancel first len) e h = absurd (cc)
  edit_line (call.Play n) e h = absurd (cc)
  edit_line (call.Show n) e h = absurd (cc)
  edit_line (call.Roll first len) e h = absurd (cc)
  edit_line (call.Work turns) e h = absurd (cc)
  edit_line (call.Export file) e h = absurd (cc)

  -- of a line whose edit was found
  pub edit_found : (c : Call) (e : Edit) (r : Option Edit) → r ≡ edit_for s.clips c → r ≡ Some e → IsEditLine c e
  edit_found c e r is some = edit_line c e (sym is ∙ some)
