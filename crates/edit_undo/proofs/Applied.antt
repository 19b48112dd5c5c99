-- An edit that was made, and one that was refused.
use Rattle.std.proofs.Common.{◌≡◌, ℕ, List, [], ◌∷◌, ◌++◌, length, reverse, Result, Ok, Err, refl, sym, ap, subst, ◌∙◌}
use Rattle.std.proofs.lemmas.List.{reverse-append}
use Rattle.tl_model.specs.Cells.{Cell}
use Rattle.tl_model.specs.declared.edit.EditRefusal.{EditRefusal}
use Rattle.tl_model.specs.declared.edit.EditReply.TheVariants as answer
use Rattle.time_list.specs.declared.lane.ApplyFault.TheVariants as fault
use Rattle.time_list.specs.Apply.{Applies}
use Rattle.time_list.specs.Patch.{PatchOf, LeadsBack}
use Rattle.edit_undo.specs.History.{History, with_line, Makes}
use Rattle.edit_undo.specs.Patches.{lines_back, LeadBack, Stacks, AreStacks, history_of}

pub applied : (made : Result (List Cell) EditRefusal) (old new : List Cell) (patch : PatchOf) → Applies made old new (Ok patch) → (made ≡ Ok new) × LeadsBack patch new old
applied (Ok after) old new patch h = (ap Ok (sym h.0), h.1)
applied (Err why) old new patch h = absurd h

pub refused : (made : Result (List Cell) EditRefusal) (old new : List Cell) (why : EditRefusal) → Applies made old new (Err (fault.Refused why)) → (made ≡ Err why) × (new ≡ old)
refused (Ok after) old new why h = absurd h
refused (Err given) old new why h = (ap Err (sym h.0), h.1)

reverse-push : (patches : List PatchOf) (patch : PatchOf) → reverse (patches ++ patch ∷ []) ≡ patch ∷ reverse patches
reverse-push patches patch = reverse-append patches (patch ∷ [])

-- the stack with the patch of an edit on top leads to the line before it
pub lines_back-push : (undos undos' : List PatchOf) (patch : PatchOf) (line old : List Cell) → undos' ≡ undos ++ patch ∷ [] → LeadsBack patch line old → lines_back (reverse undos') line ≡ old ∷ lines_back (reverse undos) old
lines_back-push undos undos' patch line old is back =
    ap (λ (ps : List PatchOf). lines_back ps line) (ap reverse is ∙ reverse-push undos patch)
    ∙ ap (λ (before : List Cell). before ∷ lines_back (reverse undos) before) back.back

pub LeadBack-push : (undos undos' : List PatchOf) (patch : PatchOf) (line old : List Cell) → undos' ≡ undos ++ patch ∷ [] → LeadsBack patch line old → LeadBack (reverse undos) old → LeadBack (reverse undos') line
LeadBack-push undos undos' patch line old is back h =
    subst (λ (ps : List PatchOf). LeadBack ps line) (sym (ap reverse is ∙ reverse-push undos patch))
    (back.fits, subst (LeadBack (reverse undos)) (sym back.back) h)

pub AreStacks-made : (made : Result (List Cell) EditRefusal) (s next : Stacks) (patch : PatchOf) → Applies made s.line next.line (Ok patch) → next.undos ≡ s.undos ++ patch ∷ [] → next.redos ≡ [] → AreStacks s → AreStacks next
AreStacks-made made s next patch h undos redos b = record {
  undos = LeadBack-push s.undos next.undos patch next.line s.line undos (applied made s.line next.line patch h).1 b.undos;
  redos = subst (λ (ps : List PatchOf). LeadBack (reverse ps) next.line) (sym redos) tt;
}

pub Makes-made : (edit : List Cell → Result (List Cell) EditRefusal) (s next : Stacks) (h : History) (patch : PatchOf) (len : ℕ) → history_of s ≡ h → Applies (edit s.line) s.line next.line (Ok patch) → next.undos ≡ s.undos ++ patch ∷ [] → next.redos ≡ [] → len ≡ length next.line → Makes (with_line h (edit h.line)) h (history_of next) (answer.Ok len)
Makes-made edit s next h patch len is made undos redos n =
    let a = applied (edit s.line) s.line next.line patch made in
    let past : lines_back (reverse next.undos) next.line ≡ s.line ∷ lines_back (reverse s.undos) s.line = lines_back-push s.undos next.undos patch next.line s.line undos a.1 in
    let future : lines_back (reverse next.redos) next.line ≡ [] = ap (λ (ps : List PatchOf). lines_back (reverse ps) next.line) redos in
    let history : history_of next ≡ record { past = s.line ∷ lines_back (reverse s.undos) s.line; line = next.line; future = [] } = cc in
    subst (λ (x : History). Makes (with_line x (edit x.line)) x (history_of next) (answer.Ok len)) is
    (subst (λ (o : Result (List Cell) EditRefusal). Makes (with_line (history_of s) o) (history_of s) (history_of next) (answer.Ok len)) (sym a.0) (history, ap answer.Ok n))

same_stacks : (s next : Stacks) → next.line ≡ s.line → next.undos ≡ s.undos → next.redos ≡ s.redos → next ≡ s
same_stacks s next line undos redos =
    ap (λ (l : List Cell). record next { line = l }) line
    ∙ ap (λ (ps : List PatchOf). record s { undos = ps; redos = next.redos }) undos
    ∙ ap (λ (ps : List PatchOf). record s { redos = ps }) redos

pub AreStacks-refused : (made : Result (List Cell) EditRefusal) (s next : Stacks) (why : EditRefusal) → Applies made s.line next.line (Err (fault.Refused why)) → next.undos ≡ s.undos → next.redos ≡ s.redos → AreStacks s → AreStacks next
AreStacks-refused made s next why h undos redos b =
    subst AreStacks (sym (same_stacks s next (refused made s.line next.line why h).1 undos redos)) b

pub Makes-refused : (edit : List Cell → Result (List Cell) EditRefusal) (s next : Stacks) (h : History) (why : EditRefusal) → history_of s ≡ h → Applies (edit s.line) s.line next.line (Err (fault.Refused why)) → next.undos ≡ s.undos → next.redos ≡ s.redos → Makes (with_line h (edit h.line)) h (history_of next) (answer.Refused why)
Makes-refused edit s next h why is made undos redos =
    let a = refused (edit s.line) s.line next.line why made in
    let same = same_stacks s next a.1 undos redos in
    subst (λ (x : History). Makes (with_line x (edit x.line)) x (history_of next) (answer.Refused why)) is
    (subst (λ (o : Result (List Cell) EditRefusal). Makes (with_line (history_of s) o) (history_of s) (history_of next) (answer.Refused why)) (sym a.0) (ap history_of same, refl))
