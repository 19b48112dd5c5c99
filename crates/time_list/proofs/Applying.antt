-- Edits and patches made on a list of segments, as the definitions have them.
use Rattle.std.proofs.Common.{inl, inr, ◌≡◌, ℕ, ◌+◌, ◌-◌, ◌≤◌, min, Bool, true, false, List, ◌++◌, length, take, drop, Option, Some, None, refl, sym, ap, ◌∙◌, subst, arith}
use Rattle.std.specs.Prelude.{IsTrue, Result, Ok, Err, IfOk}
use Rattle.std.proofs.lemmas.Bool.{cases_lt}
use Rattle.std.proofs.lemmas.List.{length-append, length-drop, length-take-le, append-nil}
use Rattle.tl_limits.specs.Limits.{max_frames, max_segments}
use Rattle.tl_model.specs.Media.{Library}
use Rattle.tl_model.specs.Segment.{ArePieces}
use Rattle.tl_model.specs.declared.edit.Edit.{Edit}
use Rattle.tl_model.specs.declared.edit.EditRefusal.{EditRefusal}
use Rattle.tl_model.specs.declared.recipe.Side.TheVariants as side
use Rattle.tl_model.specs.declared.segment.Segment.{Segment}
use Rattle.tl_model.specs.Cells.{Cell, cells, segment_count}
use Rattle.time_list.specs.Apply.{first_of, against, too_large, unless, apply, Applies}
use Rattle.time_list.specs.Changes.{IsCutAt, spliced, Changes, IsMade, IsReverted, Makes}
use Rattle.time_list.specs.Edits.{proposal}
use Rattle.time_list.specs.Parts.{is_cut}
use Rattle.time_list.specs.Patch.{PatchOf, patched, IsPatchOf, LeadsBack}
use Rattle.time_list.specs.Pieces.{IsLane}
use Rattle.time_list.specs.declared.change.Change.{Change}
use Rattle.time_list.specs.declared.change.Made.{Made}
use Rattle.time_list.specs.declared.change.Span.{Span}
use Rattle.time_list.specs.declared.cut.Cut.{Cut}
use Rattle.time_list.specs.declared.lane.ApplyFault.{ApplyFault}
use Rattle.time_list.specs.declared.lane.ApplyFault.TheVariants as fault
use Rattle.time_list.proofs.Places.{inside_index, inside_len}
use Rattle.time_list.proofs.Changed.{cells-three, take-place, drop-place, segments-spliced, ArePieces-spliced}
use Rattle.time_list.proofs.Reshaped.{first_of-left, first_of-right}
use Rattle.time_list.proofs.Located.{is_cut-inside}

no_memory : (outcome : Result (List Cell) EditRefusal) (line : List Cell) → Applies outcome line line (Err fault.NoMemory)
no_memory (Ok after) line = refl
no_memory (Err why) line = refl

refused_is : {F : Type 0} (lib : Library F) (e : Edit) (line : List Cell) (why : EditRefusal) → first_of (against lib (proposal e line) ++ too_large (proposal e line).line) ≡ Some why → Applies (apply lib e line) line line (Err (fault.Refused why))
refused_is lib e line why h = subst (λ (o : Option EditRefusal). Applies (unless o (proposal e line).line) line line (Err (fault.Refused why))) (sym h) (refl, refl)

pub change-applies : {F : Type 0} (lib : Library F) (items : List Segment) (e : Edit) (line : List Cell) (f : ApplyFault) → cells items ≡ line → Changes lib items (proposal e (cells items)) (Err f) → Applies (apply lib e line) line line (Err f)
change-applies lib items e line (fault.Refused why) is h =
    let at : first_of (against lib (proposal e line)) ≡ Some why = ap (λ (l : List Cell). first_of (against lib (proposal e l))) (sym is) ∙ h in
    refused_is lib e line why (first_of-left (against lib (proposal e line)) (too_large (proposal e line).line) why at)
change-applies lib items e line fault.NoMemory is h = no_memory (apply lib e line) line

pub make-applies : {F : Type 0} (lib : Library F) (items : List Segment) (e : Edit) (line : List Cell) (change : Change) (f : ApplyFault) → cells items ≡ line → Changes lib items (proposal e (cells items)) (Ok change) → Makes items (spliced change.span change.put.items items) (Err f) → Applies (apply lib e line) line line (Err f)
make-applies lib items e line change (fault.Refused why) is c h =
    let at : first_of (against lib (proposal e line)) ≡ None = ap (λ (l : List Cell). first_of (against lib (proposal e l))) (sym is) ∙ c.0 in
    let after : (proposal e line).line ≡ cells (spliced change.span change.put.items items) = ap (λ (l : List Cell). (proposal e l).line) (sym is) ∙ sym c.1.line in
    refused_is lib e line why (first_of-right (against lib (proposal e line)) (too_large (proposal e line).line) at ∙ ap (λ (l : List Cell). first_of (too_large l)) after ∙ h)
make-applies lib items e line change fault.NoMemory is c h = no_memory (apply lib e line) line

pub made-applies : {F : Type 0} (lib : Library F) (items : List Segment) (e : Edit) (line new : List Cell) (change : Change) (made : Made) → cells items ≡ line → new ≡ cells made.items.items → Changes lib items (proposal e (cells items)) (Ok change) → Makes items (spliced change.span change.put.items items) (Ok made) → Applies (apply lib e line) line new (Ok made.patch)
made-applies lib items e line new change made is view c h =
    let after = cells (spliced change.span change.put.items items) in
    let at : first_of (against lib (proposal e line)) ≡ None = ap (λ (l : List Cell). first_of (against lib (proposal e l))) (sym is) ∙ c.0 in
    let same : (proposal e line).line ≡ after = ap (λ (l : List Cell). (proposal e l).line) (sym is) ∙ sym c.1.line in
    let ok : first_of (against lib (proposal e line) ++ too_large (proposal e line).line) ≡ None = first_of-right (against lib (proposal e line)) (too_large (proposal e line).line) at ∙ ap (λ (l : List Cell). first_of (too_large l)) same ∙ h.0 in
    let now : new ≡ after = view ∙ ap cells h.1.items in
    let back : LeadsBack made.patch new line = subst (λ (l : List Cell). LeadsBack made.patch new l) is (subst (λ (l : List Cell). LeadsBack made.patch l (cells items)) (sym now) h.1.patch) in
    subst (λ (o : Option EditRefusal). Applies (unless o (proposal e line).line) line new (Ok made.patch)) (sym ok) (now ∙ sym same, back)

-- a patch between two segments' starts
false_true : (b : Bool) → b ≡ false → IsTrue b → ⊥
false_true true e h = cc
false_true false e h = cc

pub offset_zero : (items : List Segment) (at : ℕ) (cut : Cut) → ArePieces items → IsCutAt items at cut → IsTrue (is_cut at (cells items)) → cut.offset ≡ 0
offset_zero items at cut p c h =
    elim (cases_lt 0 cut.offset) [
      | inl some ↦
          let index = inside_index items cut.index cut.offset c.within c.inside some in
          let d : Segment = record { first = side.Black; len = 0; mix = None } in
          absurd (false_true (is_cut at (cells items)) (ap (λ (k : ℕ). is_cut k (cells items)) c.place ∙ is_cut-inside items cut d cut.offset c.start index some (inside_len items cut.index cut.offset d index c.inside)) h)
      | inr none_left ↦ let z : cut.offset ≡ 0 = omega arith in z
    ]

pub patched_is : (items put : List Segment) (patch : PatchOf) (first last : Cut) → ArePieces items → IsPatchOf patch (cells items) → IsCutAt items patch.at first → IsCutAt items (patch.at + patch.count) last → cells put ≡ patch.cells → cells (spliced (record { at = first.start; from = first.index; to = last.index }) put items) ≡ patched patch (cells items)
patched_is items put patch first last p fits one two is =
    let z = offset_zero items patch.at first p one fits.begin in
    let y = offset_zero items (patch.at + patch.count) last p two fits.end in
    let place = one.place in
    let place_two = two.place in
    let a : first.start + 0 ≡ patch.at = omega arith in
    let b : last.start + 0 ≡ patch.at + patch.count = omega arith in
    let front : take patch.at (cells items) ≡ cells (take first.index items) = ap (λ (k : ℕ). take k (cells items)) (sym a) ∙ take-place items first.index first.start 0 one.start ∙ append-nil (cells (take first.index items)) in
    let rest : drop (patch.at + patch.count) (cells items) ≡ cells (drop last.index items) = ap (λ (k : ℕ). drop k (cells items)) (sym b) ∙ drop-place items last.index last.start 0 two.start in
    cells-three (take first.index items) put (drop last.index items)
    ∙ ap (λ (line : List Cell). line ++ cells put ++ cells (drop last.index items)) (sym front)
    ∙ ap (λ (line : List Cell). take patch.at (cells items) ++ line ++ cells (drop last.index items)) is
    ∙ ap (λ (line : List Cell). take patch.at (cells items) ++ patch.cells ++ line) (sym rest)

patched-length : (patch : PatchOf) (line : List Cell) → patch.at + patch.count ≤ length line → length (patched patch line) + patch.count ≡ length line + length patch.cells
patched-length patch line h =
    let a = length-append (take patch.at line ++ patch.cells) (drop (patch.at + patch.count) line) in
    let b = length-append (take patch.at line) patch.cells in
    let c = length-take-le patch.at line (omega arith) in
    let d = length-drop (patch.at + patch.count) line in
    omega arith

pub reverted-lane : (items put : List Segment) (patch : PatchOf) (first last : Cut) (frames added total : ℕ) → IsLane items frames → IsPatchOf patch (cells items) → IsCutAt items patch.at first → IsCutAt items (patch.at + patch.count) last → cells put ≡ patch.cells → ArePieces put → added ≡ min (length (cells put)) 18446744073709551615 → total ≡ (frames - patch.count) + added → IsLane (spliced (record { at = first.start; from = first.index; to = last.index }) put items) total
reverted-lane items put patch first last frames added total lane fits one two is q a t =
    let span : Span = record { at = first.start; from = first.index; to = last.index } in
    let whole = patched_is items put patch first last lane.pieces fits one two is in
    let len = patched-length patch (cells items) fits.within in
    let size = ap length is in
    let same = lane.counted in
    let within = fits.within in
    let short : length (patched patch (cells items)) ≤ max_frames = fits.frames in
    let lengths = ap length whole in
    let count = segments-spliced span put items lane.pieces q in
    let segments = ap segment_count whole in
    let few : segment_count (patched patch (cells items)) ≤ max_segments = fits.segments in
    let less : length patch.cells ≤ max_frames = omega arith in
    let counted : total ≡ length (cells (spliced span put items)) = omega arith in
    record {
      pieces = ArePieces-spliced span put items lane.pieces q;
      counted = counted;
      short = omega arith;
      few = omega arith;
    }

pub reverted_of : {E : Type 0} (items after : List Segment) (patch : PatchOf) (r : Result Made E) → cells after ≡ patched patch (cells items) → IfOk r (λ made. IsMade items after made) → IfOk r (λ made. IsReverted patch items made)
reverted_of items after patch (Ok made) e h = record {
  line = ap cells h.items ∙ e;
  lane = subst (λ (ss : List Segment). IsLane ss made.frames) (sym h.items) h.lane;
  patch = subst (λ (line : List Cell). LeadsBack made.patch line (cells items)) e h.patch;
}
reverted_of items after patch (Err want) e h = h
