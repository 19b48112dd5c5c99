-- What the code finds, as the proposals for a timeline have it.
use Rattle.std.proofs.Common.{inl, inr, ◌≡◌, ℕ, zero, suc, ◌+◌, ◌-◌, ◌<◌, ◌≤◌, min, cond, Bool, true, false, not, ◌||◌, List, [], ◌∷◌, ◌++◌, length, get_or, take, drop, Some, refl, sym, ap, ◌∙◌, subst, arith}
use Rattle.std.specs.Prelude.{nat_lt, nat_le, ◌==◌, Result, Ok, Err}
use Rattle.std.proofs.lemmas.Bool.{cases_lt}
use Rattle.std.proofs.lemmas.Bool.Decides.{nat_tests}
use Rattle.std.proofs.lemmas.List.{append-nil, drop_all}
use Rattle.tl_model.specs.Media.{Library}
use Rattle.tl_model.specs.Segment.{ArePieces}
use Rattle.tl_model.specs.declared.recipe.Side.{Side}
use Rattle.tl_model.specs.declared.segment.Segment.{Segment}
use Rattle.tl_model.specs.declared.edit.EditRefusal.{EditRefusal}
use Rattle.tl_model.specs.declared.edit.EditRefusal.TheVariants as refusal
use Rattle.tl_model.specs.Cells.{Cell, cells_of, cells}
use Rattle.time_list.specs.Apply.{first_of, not_taken, against}
use Rattle.time_list.specs.Changes.{IsInside, IsCutAt, IsChangeTo, Rearranges, Changes}
use Rattle.time_list.specs.Edits.{Proposal, taking, rearranged, headed, in_segment, with_dissolve, joined, with_own}
use Rattle.time_list.specs.Parts.{is_cut, Parts, parts_at, last_side}
use Rattle.time_list.specs.declared.change.Change.{Change}
use Rattle.time_list.specs.declared.cut.Cut.{Cut}
use Rattle.time_list.specs.declared.lane.ApplyFault.{ApplyFault}
use Rattle.time_list.specs.declared.lane.ApplyFault.TheVariants as fault
use Rattle.time_list.proofs.Cuts.{length-cells_more}
use Rattle.time_list.proofs.Places.{length_take_le, inside_less, inside_len, inside_index}
use Rattle.time_list.proofs.Located.{located, is_cut-inside, is_cut-start, last_side-before}

-- the first tests
pub past_is : {F : Type 0} (lib : Library F) (p : Proposal) → p.past_end ≡ true → first_of (against lib p) ≡ Some refusal.PastEnd
past_is lib p e = ap (λ (b : Bool). cond b (Some refusal.PastEnd) (first_of ((p.no_cut, refusal.NoCut) ∷ (not_taken lib p.taken p.early ++ (p.too_long, refusal.MixTooLong) ∷ [])))) e

pub no_cut_is : {F : Type 0} (lib : Library F) (p : Proposal) → p.past_end ≡ false → p.no_cut ≡ true → first_of (against lib p) ≡ Some refusal.NoCut
no_cut_is lib p e f =
    ap (λ (b : Bool). cond b (Some refusal.PastEnd) (first_of ((p.no_cut, refusal.NoCut) ∷ (not_taken lib p.taken p.early ++ (p.too_long, refusal.MixTooLong) ∷ [])))) e
    ∙ ap (λ (b : Bool). cond b (Some refusal.NoCut) (first_of (not_taken lib p.taken p.early ++ (p.too_long, refusal.MixTooLong) ∷ []))) f

pub taking_is : {F : Type 0} (lib : Library F) (taken : List Side) (past : Bool) (line : List Cell) → past ≡ false → first_of (against lib (taking taken past line)) ≡ first_of (not_taken lib taken false)
taking_is lib taken past line e = ap (λ (b : Bool). cond b (Some refusal.PastEnd) (first_of (not_taken lib taken false))) e

-- a change for a line that is spelled otherwise
pub IsChangeTo-as : (items : List Segment) (x y : List Cell) (change : Change) → x ≡ y → IsChangeTo items x change → IsChangeTo items y change
IsChangeTo-as items x y change e h = subst (λ (line : List Cell). IsChangeTo items line change) e h

pub between_as : (line new n : List Cell) (a b at end : ℕ) → a ≡ at → b ≡ end → new ≡ n → take a line ++ new ++ headed (drop b line) ≡ take at line ++ n ++ headed (drop end line)
between_as line new n a b at end e f h = cc

pub without_as : (line : List Cell) (a b at end : ℕ) → a ≡ at → b ≡ end → take a line ++ [] ++ headed (drop b line) ≡ take at line ++ headed (drop end line)
without_as line a b at end e f = between_as line [] [] a b at end e f refl ∙ ap (λ (xs : List Cell). xs ++ headed (drop end line)) (append-nil (take at line))

pub drop_min : (line : List Cell) (e : ℕ) → drop (min e (length line)) line ≡ drop e line
drop_min line e =
    elim (cases_lt e (length line)) [
      | inl h ↦ let m : min e (length line) ≡ e = omega arith in ap (λ (k : ℕ). drop k line) m
      | inr h ↦ drop_all (min e (length line)) line (omega arith) ∙ sym (drop_all e line h)
    ]

-- places and the end
inside_le : (ss : List Segment) (i o : ℕ) → i ≤ length ss → IsInside o (drop i ss) → length (cells (take i ss)) + o ≤ length (cells ss)
inside_le ss i zero h k = let less = length_take_le ss i in omega arith
inside_le ss i (suc o) h k = let less = inside_less ss i (suc o) (inside_index ss i (suc o) h k (omega arith)) k in omega arith

pub place-within : (items : List Segment) (at : ℕ) (cut : Cut) → IsCutAt items at cut → at ≤ length (cells items)
place-within items at cut c =
    let le = inside_le items cut.index cut.offset c.within c.inside in
    let start = c.start in
    let place = c.place in
    omega arith

pub frame-within : (items : List Segment) (at : ℕ) (cut : Cut) → IsCutAt items at cut → cut.index < length items → at < length (cells items)
frame-within items at cut c h =
    let less = inside_less items cut.index cut.offset h c.inside in
    let start = c.start in
    let place = c.place in
    omega arith

pub not_past_lt : (n at : ℕ) → at ≤ n → nat_lt n at ≡ false
not_past_lt n at h = grind (arith, nat_tests)

pub not_past_le : (n at : ℕ) → at < n → nat_le n at ≡ false
not_past_le n at h = grind (arith, nat_tests)

-- a proposal that takes no frames
pub rearranges-changes : {F : Type 0} (lib : Library F) (items : List Segment) (past : Bool) (line : List Cell) (r : Result Change ApplyFault) → Rearranges items (rearranged past line) r → Changes lib items (rearranged past line) r
rearranges-changes lib items past line (Ok change) h = (taking_is lib [] past line h.0, h.1)
rearranges-changes lib items past line (Err (fault.Refused why)) h = past_is lib (rearranged past line) h.0 ∙ ap (λ (w : EditRefusal). Some w) (sym h.1)
rearranges-changes lib items past line (Err fault.NoMemory) h = tt

pub Rearranges-as : (items : List Segment) (past : Bool) (x y : List Cell) (r : Result Change ApplyFault) → x ≡ y → Rearranges items (rearranged past x) r → Rearranges items (rearranged past y) r
Rearranges-as items past x y r e h = subst (λ (line : List Cell). Rearranges items (rearranged past line) r) e h

-- a proposal for a segment's own cells
own_parts : (items : List Segment) (at : ℕ) (cut : Cut) (d : Segment) → ArePieces items → IsCutAt items at cut → cut.index < length items → parts_at at (cells items) ≡ record { before = cells (take cut.index items); own = cells_of (get_or items cut.index d); after = cells (drop (cut.index + 1) items) }
own_parts items at cut d p c h =
    let moved : IsCutAt items (cut.start + cut.offset) cut = record { within = c.within; start = c.start; place = refl; inside = c.inside } in
    ap (λ (k : ℕ). parts_at k (cells items)) c.place ∙ located items cut d p moved h

pub in_segment_is : {F : Type 0} (lib : Library F) (f : List Cell → Proposal) (items : List Segment) (at : ℕ) (cut : Cut) (d : Segment) → ArePieces items → IsCutAt items at cut → cut.index < length items → first_of (against lib (in_segment f at (cells items))) ≡ first_of (against lib (f (cells_of (get_or items cut.index d))))
in_segment_is lib f items at cut d p c h =
    let q = f (parts_at at (cells items)).own in
    let past = not_past_le (length (cells items)) at (frame-within items at cut c h) in
    ap (λ (b : Bool). cond (b || q.past_end) (Some refusal.PastEnd) (first_of ((q.no_cut, refusal.NoCut) ∷ (not_taken lib q.taken q.early ++ (q.too_long, refusal.MixTooLong) ∷ [])))) past
    ∙ ap (λ (parts : Parts). first_of (against lib (f parts.own))) (own_parts items at cut d p c h)

pub in_segment_line : (f : List Cell → Proposal) (items : List Segment) (at : ℕ) (cut : Cut) (d : Segment) (new : List Cell) → ArePieces items → IsCutAt items at cut → cut.index < length items → new ≡ (f (cells_of (get_or items cut.index d))).line → cells (take cut.index items) ++ new ++ cells (drop (cut.index + 1) items) ≡ (in_segment f at (cells items)).line
in_segment_line f items at cut d new p c h e =
    ap (λ (line : List Cell). cells (take cut.index items) ++ line ++ cells (drop (cut.index + 1) items)) e
    ∙ sym (ap (λ (parts : Parts). with_own parts (f parts.own).line) (own_parts items at cut d p c h))

pub in_segment_past : {F : Type 0} (lib : Library F) (f : List Cell → Proposal) (line : List Cell) (at : ℕ) → length line ≤ at → first_of (against lib (in_segment f at line)) ≡ Some refusal.PastEnd
in_segment_past lib f line at h =
    let t : nat_le (length line) at ≡ true = grind (arith, nat_tests) in
    past_is lib (in_segment f at line) (ap (λ (b : Bool). b || (f (parts_at at line).own).past_end) t)

-- a dissolve between two segments
before_is : (items : List Segment) (at : ℕ) (cut : Cut) (d : Segment) → ArePieces items → IsCutAt items at cut → cut.index < length items → 0 < cut.index → last_side (parts_at at (cells items)).before ≡ last_side (cells_of (get_or items (cut.index - 1) d))
before_is items at cut d p c h some = ap (λ (parts : Parts). last_side parts.before) (own_parts items at cut d p c h) ∙ last_side-before items cut.index d p some (omega arith)

take-some : (ss : List Segment) (i : ℕ) → ArePieces ss → 0 < i → i ≤ length ss → 0 < length (cells (take i ss))
take-some ss zero p h l = absurd (omega arith)
take-some [] (suc i) p h l = absurd (omega arith)
take-some (s ∷ ss) (suc i) p h l =
    let more = length-cells_more s (take i ss) in
    let some = p.0.formed.0 in
    omega arith

pub joined_inside : {F : Type 0} (lib : Library F) (items : List Segment) (at len : ℕ) (cut : Cut) (d : Segment) → IsCutAt items at cut → cut.index < length items → 0 < cut.offset → first_of (against lib (joined at len (cells items))) ≡ Some refusal.NoCut
joined_inside lib items at len cut d c h some =
    let past = not_past_le (length (cells items)) at (frame-within items at cut c h) in
    let inside : is_cut at (cells items) ≡ false = ap (λ (k : ℕ). is_cut k (cells items)) c.place ∙ is_cut-inside items cut d cut.offset c.start h some (inside_len items cut.index cut.offset d h c.inside) in
    let b : ((at == 0) || not (is_cut at (cells items))) ≡ true = grind (arith, nat_tests) in
    no_cut_is lib (joined at len (cells items)) (ap (λ (b : Bool). b || false) past) b

pub joined_first : {F : Type 0} (lib : Library F) (items : List Segment) (at len : ℕ) (cut : Cut) → IsCutAt items at cut → cut.index < length items → cut.offset ≤ 0 → cut.index ≡ 0 → first_of (against lib (joined at len (cells items))) ≡ Some refusal.NoCut
joined_first lib items at len cut c h z first =
    let past = not_past_le (length (cells items)) at (frame-within items at cut c h) in
    let start : cut.start ≡ 0 = c.start ∙ ap (λ (k : ℕ). length (cells (take k items))) first in
    let place = c.place in
    let t : (at == 0) ≡ true = grind (arith, nat_tests) in
    no_cut_is lib (joined at len (cells items)) (ap (λ (b : Bool). b || false) past) (ap (λ (b : Bool). b || not (is_cut at (cells items))) t)

joined_cut : (items : List Segment) (at : ℕ) (cut : Cut) → ArePieces items → IsCutAt items at cut → cut.index < length items → cut.offset ≤ 0 → 0 < cut.index → ((at == 0) || not (is_cut at (cells items))) ≡ false
joined_cut items at cut p c h z some =
    let start = c.start in
    let place = c.place in
    let more = take-some items cut.index p some (omega arith) in
    let t : (at == 0) ≡ false = grind (arith, nat_tests) in
    let e : at ≡ cut.start + 0 = omega arith in
    let u : is_cut at (cells items) ≡ true = ap (λ (k : ℕ). is_cut k (cells items)) e ∙ is_cut-start items cut p c.start in
    ap (λ (b : Bool). b || not (is_cut at (cells items))) t ∙ ap not u

pub joined_is : {F : Type 0} (lib : Library F) (items : List Segment) (at len : ℕ) (cut : Cut) (d e : Segment) → ArePieces items → IsCutAt items at cut → cut.index < length items → cut.offset ≤ 0 → 0 < cut.index → first_of (against lib (joined at len (cells items))) ≡ first_of (against lib (with_dissolve (last_side (cells_of (get_or items (cut.index - 1) e))) len (cells_of (get_or items cut.index d))))
joined_is lib items at len cut d e p c h z some =
    let from = last_side (parts_at at (cells items)).before in
    let q = in_segment (with_dissolve from len) at (cells items) in
    ap (λ (b : Bool). first_of (against lib (record q { no_cut = b }))) (joined_cut items at cut p c h z some)
    ∙ in_segment_is lib (with_dissolve from len) items at cut d p c h
    ∙ ap (λ (x : Side). first_of (against lib (with_dissolve x len (cells_of (get_or items cut.index d))))) (before_is items at cut e p c h some)

pub joined_line : (items : List Segment) (at len : ℕ) (cut : Cut) (d e : Segment) (new : List Cell) → ArePieces items → IsCutAt items at cut → cut.index < length items → 0 < cut.index → new ≡ (with_dissolve (last_side (cells_of (get_or items (cut.index - 1) e))) len (cells_of (get_or items cut.index d))).line → cells (take cut.index items) ++ new ++ cells (drop (cut.index + 1) items) ≡ (joined at len (cells items)).line
joined_line items at len cut d e new p c h some is =
    let from = last_side (parts_at at (cells items)).before in
    in_segment_line (with_dissolve from len) items at cut d new p c h
    (is ∙ ap (λ (x : Side). (with_dissolve x len (cells_of (get_or items cut.index d))).line) (sym (before_is items at cut e p c h some)))
