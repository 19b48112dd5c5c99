-- The endings in a journal are those of the exports that were carried out, in order.
use Rattle.std.proofs.Common.{◌≡◌, ℕ, false, List, [], ◌∷◌, ◌++◌, map, refl, sym, ap, ◌∙◌, true≢false}
use Rattle.std.specs.List.{flat_map}
use Rattle.std.proofs.lemmas.List.{map-append}
use Rattle.std.proofs.lemmas.List.Concat.{flat_map-append}
use Rattle.std.proofs.lemmas.List.Elements.{filter-append}
use Rattle.tl_model.specs.Media.{Library}
use Rattle.tl_model.specs.declared.fault.Ending.{Ending}
use Rattle.tl_model.specs.declared.journal.Act.{Act}
use Rattle.tl_model.specs.declared.journal.Act.TheVariants as act
use Rattle.tl_model.specs.declared.journal.Entry.{Entry}
use Rattle.render_core.specs.Calls.{CallOf, entry_of}
use Rattle.render_core.specs.State.{start}
use Rattle.edit_desk.specs.Desk.{DeskOf, setup_of}
use Rattle.script_lang.specs.declared.out_line.OutLine.{OutLine}
use Rattle.play_head.specs.Carrying.{Carried, carried_calls}
use Rattle.timeline_app.specs.Course.{Course, all_carried}
use Rattle.timeline_app.specs.Ending.{act_endings, act_lines, end_lines, ending_line, entry_endings, entry_lines}
use Rattle.timeline_app.proofs.Among.{Each, carrying_calls, flat_filter}
use Rattle.timeline_app.proofs.AskedNames.{is_carrying}
use Rattle.timeline_app.proofs.Entered.{entries_are}
use Rattle.timeline_app.proofs.Manned.{IsManned, all_calls, first_calls, first_carrying, then_calls, then_carrying}

-- ---- what only takes and ends of exports give

module _ {A : Type 0} (given : Act → List A) (nothing : (what : Act) → is_carrying what ≡ false → given what ≡ []) where
  entries_give : {F : Type 0} (calls : List (CallOf F)) → flat_map (λ (e : Entry). given e.act) (map entry_of calls) ≡ flat_map (λ (x : CallOf F). given x.act) calls
  entries_give [] = refl
  entries_give (x ∷ calls) = ap (λ (xs : List A). given x.act ++ xs) (entries_give calls)

  gives_nothing : {F : Type 0} (calls : List (CallOf F)) → Each (λ (x : CallOf F). is_carrying x.act ≡ false → given x.act ≡ []) calls
  gives_nothing [] = tt
  gives_nothing (x ∷ calls) = (nothing x.act, gives_nothing calls)

  module _ {M K F : Type 0} (library : M → Library F) (d : DeskOf M K) (others : ℕ) (c : Course F) (a : IsManned library d others c) where
    journal_gives : flat_map (λ (e : Entry). given e.act) d.seen ≡ flat_map (λ (x : CallOf F). given x.act) (flat_map (carried_calls 1) c.early) ++ flat_map (λ (x : CallOf F). given x.act) (flat_map (carried_calls 0) c.late)
    journal_gives =
        let one = first_calls library d others c a in
        let two = then_calls library d others c a in
        let give : List (CallOf F) → List A = flat_map (λ (x : CallOf F). given x.act) in
        let carrying : carrying_calls (one ++ two) ≡ flat_map (carried_calls 1) c.early ++ flat_map (carried_calls 0) c.late =
        filter-append (λ (x : CallOf F). is_carrying x.act) one two
        ∙ ap (λ (xs : List (CallOf F)). xs ++ carrying_calls two) (first_carrying library d others c a)
        ∙ ap (λ (xs : List (CallOf F)). flat_map (carried_calls 1) c.early ++ xs) (then_carrying library d others c a) in
        ap (flat_map (λ (e : Entry). given e.act)) (sym (entries_are (setup_of library d) 0 d.seen start) ∙ ap (map entry_of) (all_calls library d others c a))
        ∙ entries_give (one ++ two)
        ∙ flat_filter (λ (x : CallOf F). is_carrying x.act) (λ (x : CallOf F). given x.act) (one ++ two) (gives_nothing (one ++ two))
        ∙ ap give carrying
        ∙ flat_map-append (λ (x : CallOf F). given x.act) (flat_map (carried_calls 1) c.early) (flat_map (carried_calls 0) c.late)

no_ending : (what : Act) → is_carrying what ≡ false → act_endings what ≡ []
no_ending (act.Edit edit) h = refl
no_ending act.Undo h = refl
no_ending act.Redo h = refl
no_ending (act.Want first len) h = refl
no_ending (act.Cancel first len) h = refl
no_ending act.Claim h = refl
no_ending (act.File job) h = refl
no_ending (act.Release job) h = refl
no_ending (act.Play n) h = refl
no_ending (act.Show n) h = refl
no_ending (act.Ask name) h = refl
no_ending act.Take h = refl
no_ending (act.End export why) h = absurd (true≢false h)
no_ending (act.Mark turns) h = refl
no_ending act.Skip h = refl
no_ending act.Stop h = refl

no_line : (clips : List (List ℕ × ℕ)) (what : Act) → is_carrying what ≡ false → act_lines clips what ≡ []
no_line clips (act.Edit edit) h = refl
no_line clips act.Undo h = refl
no_line clips act.Redo h = refl
no_line clips (act.Want first len) h = refl
no_line clips (act.Cancel first len) h = refl
no_line clips act.Claim h = refl
no_line clips (act.File job) h = refl
no_line clips (act.Release job) h = refl
no_line clips (act.Play n) h = refl
no_line clips (act.Show n) h = refl
no_line clips (act.Ask name) h = refl
no_line clips act.Take h = refl
no_line clips (act.End export why) h = absurd (true≢false h)
no_line clips (act.Mark turns) h = refl
no_line clips act.Skip h = refl
no_line clips act.Stop h = refl

carried_endings : (F : Type 0) (number : ℕ) (carried : List Carried) → flat_map (λ (x : CallOf F). act_endings x.act) (flat_map (carried_calls number) carried) ≡ map (λ (e : Carried). e.ending) carried
carried_endings F number [] = refl
carried_endings F number (c ∷ carried) = ap (λ (xs : List Ending). c.ending ∷ xs) (carried_endings F number carried)

carried_lines : (F : Type 0) (clips : List (List ℕ × ℕ)) (number : ℕ) (carried : List Carried) → flat_map (λ (x : CallOf F). act_lines clips x.act) (flat_map (carried_calls number) carried) ≡ end_lines clips carried
carried_lines F clips number [] = refl
carried_lines F clips number (c ∷ carried) = ap (λ (xs : List OutLine). ending_line clips c.export c.ending ∷ xs) (carried_lines F clips number carried)

-- ---- a whole session

module _ {M K F : Type 0} (library : M → Library F) (d : DeskOf M K) (others : ℕ) (c : Course F) (a : IsManned library d others c) where
  pub journal_endings : flat_map entry_endings d.seen ≡ map (λ (e : Carried). e.ending) (all_carried c)
  journal_endings =
      let late : List (CallOf F) = flat_map (carried_calls 0) c.late in
      journal_gives act_endings no_ending library d others c a
      ∙ ap (λ (xs : List Ending). xs ++ flat_map (λ (x : CallOf F). act_endings x.act) late) (carried_endings F 1 c.early)
      ∙ ap (λ (xs : List Ending). map (λ (e : Carried). e.ending) c.early ++ xs) (carried_endings F 0 c.late)
      ∙ sym (map-append (λ (e : Carried). e.ending) c.early c.late)

  pub journal_lines : (clips : List (List ℕ × ℕ)) → flat_map (entry_lines clips) d.seen ≡ end_lines clips (all_carried c)
  journal_lines clips =
      let late : List (CallOf F) = flat_map (carried_calls 0) c.late in
      journal_gives (act_lines clips) (no_line clips) library d others c a
      ∙ ap (λ (xs : List OutLine). xs ++ flat_map (λ (x : CallOf F). act_lines clips x.act) late) (carried_lines F clips 1 c.early)
      ∙ ap (λ (xs : List OutLine). end_lines clips c.early ++ xs) (carried_lines F clips 0 c.late)
      ∙ sym (map-append (λ (e : Carried). ending_line clips e.export e.ending) c.early c.late)
