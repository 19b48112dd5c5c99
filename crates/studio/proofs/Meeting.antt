-- Two passes that meet.
use Rattle.std.proofs.Common.{◌≡◌, ◌≤◌, ltb, cond, Bool, true, false, List, [], ◌∷◌, ◌++◌, length, length-append, sym, refl, ap, ◌∙◌, subst, append-nil, arith}
use borrow.Author.Tests.{ltb-false}
use Rattle.tl_model.specs.declared.journal.Entry.{Entry}
use Rattle.turn_lock.specs.Entries.{IsFront, longer}
use Rattle.turn_lock.specs.Passes.{PassOf, NoteOf, note_from}

none_of : (es : List Entry) → length es ≤ 0 → es ≡ []
none_of [] few = refl
none_of (e ∷ es) few = absurd (omega arith)

longer_at : (front log : List Entry) (t : Bool) → IsFront front log → ltb (length front) (length log) ≡ t → cond t log front ≡ log
longer_at front log true f is = refl
longer_at front log false f is =
    let le = ltb-false (length front) (length log) is in
    let none = none_of f.0 (omega (arith, le, ap length f.1, length-append front f.0)) in
    sym (f.1 ∙ ap (λ (l : List Entry). front ++ l) none ∙ append-nil front)

-- of a list and its front the list is the longer
longer-front : (front log : List Entry) → IsFront front log → longer front log ≡ log
longer-front front log f = longer_at front log (ltb (length front) (length log)) f refl

-- one pass takes a note of another, and then that one of it
pub meet_told : {B : Type 0} (a b one two both : PassOf B) (of_b of_a : NoteOf B) → two ≡ b → of_b ≡ note_from b → one ≡ record a { seen = longer a.seen of_b.seen } → IsFront of_b.seen one.seen → of_a ≡ note_from one
    → both ≡ record two { seen = longer two.seen of_a.seen } → both ≡ record b { seen = longer a.seen b.seen }
meet_told {B} a b one two both of_b of_a same given_b told_a front given_a told_b =
    let saw_b : of_b.seen ≡ b.seen = ap (λ (n : NoteOf B). n.seen) given_b in
    let saw_a : of_a.seen ≡ one.seen = ap (λ (n : NoteOf B). n.seen) given_a in
    let is : one.seen ≡ longer a.seen b.seen = ap (λ (p : PassOf B). p.seen) told_a ∙ ap (λ (es : List Entry). longer a.seen es) saw_b in
    let whole : longer b.seen of_a.seen ≡ longer a.seen b.seen = ap (λ (es : List Entry). longer b.seen es) saw_a
    ∙ longer-front b.seen one.seen (subst (λ (es : List Entry). IsFront es one.seen) saw_b front) ∙ is in
    told_b ∙ ap (λ (p : PassOf B). record p { seen = longer p.seen of_a.seen }) same ∙ ap (λ (es : List Entry). record b { seen = es }) whole
