-- The end lines and endings of a journal, entry after entry.
use Rattle.std.proofs.Common.{◌≡◌, ℕ, ◌+◌, ◌<◌, ◌≤◌, Bool, List, [], ◌∷◌, ◌++◌, length, take, drop, get_or, Ok, Err, refl, sym, ap, subst, ◌∙◌}
use Rattle.std.specs.Prelude.{◌||◌}
use Rattle.std.specs.List.{flat_map, list_any}
use Rattle.std.proofs.lemmas.List.{append-nil, take_more, take_all, take-append-drop}
use Rattle.std.proofs.lemmas.List.Concat.{flat_map-append}
use Rattle.std.proofs.lemmas.List.Folds.{list_any-append}
use Rattle.tl_model.specs.declared.fault.Ending.{Ending}
use Rattle.tl_model.specs.declared.journal.Entry.{Entry}
use Rattle.tl_ports.specs.declared.fault.PutFault.{PutFault}
use Rattle.tl_ports.specs.Seen.{SinkSeen}
use Rattle.script_lang.specs.declared.out_line.OutLine.{OutLine}
use Rattle.play_head.specs.PlayingLine.{texts}
use Rattle.play_head.specs.Putting.{GotAll}
use Rattle.timeline_app.specs.Course.{SaysBy}
use Rattle.timeline_app.specs.Ending.{any_ending, entry_endings, entry_lines}
use Rattle.timeline_app.proofs.Speaking.{all_lines, says_silent, says_then}

entries_more : (es : List Entry) (i : ℕ) (e : Entry) → i < length es → e ≡ get_or es i e → take (i + 1) es ≡ take i es ++ e ∷ []
entries_more es i e within is = take_more es i e within ∙ ap (λ (x : Entry). take i es ++ x ∷ []) (sym is)

module _ (clips : List (List ℕ × ℕ)) where
  lines_more : (es : List Entry) (i : ℕ) (e : Entry) → i < length es → e ≡ get_or es i e → flat_map (entry_lines clips) (take i es) ++ entry_lines clips e ≡ flat_map (entry_lines clips) (take (i + 1) es)
  lines_more es i e within is =
      sym (ap (flat_map (entry_lines clips)) (entries_more es i e within is)
      ∙ flat_map-append (entry_lines clips) (take i es) (e ∷ [])
      ∙ ap (λ (ls : List OutLine). flat_map (entry_lines clips) (take i es) ++ ls) (append-nil (entry_lines clips e)))

  -- one entry's lines more
  pub said_more : (tells : Bool) (old mid new : SinkSeen) (es : List Entry) (i : ℕ) (e : Entry) → i < length es → e ≡ get_or es i e → GotAll tells old mid (texts (flat_map (entry_lines clips) (take i es))) → SaysBy tells mid new (entry_lines clips e) (Ok tt) → GotAll tells old new (texts (flat_map (entry_lines clips) (take (i + 1) es)))
  said_more tells old mid new es i e within is h k =
      subst (λ (ls : List OutLine). GotAll tells old new (texts ls)) (lines_more es i e within is)
      (all_lines tells old mid new (flat_map (entry_lines clips) (take i es)) (entry_lines clips e) h k)

  -- an entry's lines that weren't all put
  pub said_some : (tells : Bool) (old mid new : SinkSeen) (es : List Entry) (i : ℕ) (e : Entry) (fault : PutFault) → i < length es → e ≡ get_or es i e → old.faults ≤ mid.faults → GotAll tells old mid (texts (flat_map (entry_lines clips) (take i es))) → SaysBy tells mid new (entry_lines clips e) (Err fault) → SaysBy tells old new (flat_map (entry_lines clips) es) (Err fault)
  said_some tells old mid new es i e fault within is le h k =
      let first = flat_map (entry_lines clips) (take i es) in
      let rest = flat_map (entry_lines clips) (drop (i + 1) es) in
      let all : (first ++ entry_lines clips e) ++ rest ≡ flat_map (entry_lines clips) es =
      ap (λ (ls : List OutLine). ls ++ rest) (lines_more es i e within is)
      ∙ sym (flat_map-append (entry_lines clips) (take (i + 1) es) (drop (i + 1) es))
      ∙ ap (flat_map (entry_lines clips)) (take-append-drop (i + 1) es) in
      subst (λ (ls : List OutLine). SaysBy tells old new ls (Err fault)) all
      (says_silent tells old new (first ++ entry_lines clips e) rest fault
      (says_then tells old mid new first (entry_lines clips e) (Err fault) h le k))

  -- all entries' lines
  pub said_all : (tells : Bool) (old new : SinkSeen) (es : List Entry) (i : ℕ) → length es ≤ i → GotAll tells old new (texts (flat_map (entry_lines clips) (take i es))) → SaysBy tells old new (flat_map (entry_lines clips) es) (Ok tt)
  said_all tells old new es i past h =
      subst (λ (xs : List Entry). GotAll tells old new (texts (flat_map (entry_lines clips) xs))) (take_all i es past) h

-- some entry has such an ending, or some of their endings is such a one
pub any-endings : (is : Ending → Bool) (es : List Entry) → list_any (any_ending is) es ≡ list_any is (flat_map entry_endings es)
any-endings is [] = refl
any-endings is (e ∷ es) =
    ap (λ (b : Bool). any_ending is e || b) (any-endings is es) ∙ sym (list_any-append is (entry_endings e) (flat_map entry_endings es))
