-- The cells of a list of segments that was changed, and the patch that leads back.
use Rattle.std.proofs.Common.{◌≡◌, ℕ, zero, suc, ◌+◌, ◌-◌, ◌^◌, ◌<◌, ◌≤◌, min, cond, Bool, true, false, List, [], ◌∷◌, ◌++◌, length, get_or, take, drop, Option, Some, None, refl, sym, ap, ◌∙◌, subst, append_assoc, arith}
use Rattle.std.specs.Prelude.{nat_lt, IsTrue}
use Rattle.std.proofs.lemmas.Bool.Decides.{nat_tests}
use Rattle.std.proofs.lemmas.Grind.{common_steps}
use Rattle.std.proofs.lemmas.List.{length-append, length-drop, length-take-le, append-nil, take-append-drop}
use Rattle.tl_limits.specs.Limits.{max_frames, max_segments}
use Rattle.tl_model.specs.declared.edit.EditRefusal.TheVariants as refusal
use Rattle.tl_model.specs.declared.segment.Segment.{Segment}
use Rattle.tl_model.specs.Cells.{Cell, cell_at, run, cells_of, cells, segment_count}
use Rattle.tl_model.specs.Segment.{IsPiece, ArePieces}
use Rattle.time_list.specs.Apply.{first_of, too_large}
use Rattle.time_list.specs.Changes.{IsCutAt, IsSpan, spliced, IsChangeTo}
use Rattle.time_list.specs.Edits.{headed}
use Rattle.time_list.specs.Parts.{begins_segment, is_cut}
use Rattle.time_list.specs.Patch.{PatchOf, patched, LeadsBack}
use Rattle.time_list.specs.Pieces.{IsLane, fronts, backs}
use Rattle.time_list.specs.declared.change.Change.{Change}
use Rattle.time_list.specs.declared.change.Span.{Span}
use Rattle.time_list.specs.declared.cut.Cut.{Cut}
use Rattle.time_list.proofs.Runs.{take_over, drop_over}
use Rattle.time_list.proofs.Cuts.{cells-append, ArePieces-append, ArePieces-drop, ArePieces-fronts, ArePieces-backs, cells-fronts, cells-backs, segment_count-cells}

drop-none : {A : Type 0} (n : ℕ) → drop {A = A} n [] ≡ []
drop-none zero = refl
drop-none (suc n) = refl

drop-drop : {A : Type 0} (m n : ℕ) (xs : List A) → drop n (drop m xs) ≡ drop (m + n) xs
drop-drop zero n xs = let e : n ≡ 0 + n = omega arith in cc
drop-drop (suc m) n [] = drop-none n ∙ sym (drop-none (suc m + n))
drop-drop (suc m) n (x ∷ xs) = let e : suc m + n ≡ suc (m + n) = omega arith in let rest = drop-drop m n xs in cc

ArePieces-take : (n : ℕ) (ss : List Segment) → ArePieces ss → ArePieces (take n ss)
ArePieces-take zero ss p = tt
ArePieces-take (suc n) [] p = tt
ArePieces-take (suc n) (s ∷ ss) p = (p.0, ArePieces-take n ss p.1)

ArePieces-left : (xs ys : List Segment) → ArePieces (xs ++ ys) → ArePieces xs
ArePieces-left [] ys p = tt
ArePieces-left (s ∷ ss) ys p = (p.0, ArePieces-left ss ys p.1)

-- the parts of a list round a span
abbrev pub gone_of : Span → List Segment → List Segment
gone_of span items = take (span.to - span.from) (drop span.from items)

pub parted : (span : Span) (items : List Segment) → IsSpan span items → items ≡ take span.from items ++ gone_of span items ++ drop span.to items
parted span items s =
    let to : span.from + (span.to - span.from) ≡ span.to = omega (arith, s.order) in
    sym (append_assoc (take span.from items) (take (span.to - span.from) (drop span.from items)) (drop span.to items)
    ∙ ap (λ (rest : List Segment). take span.from items ++ (take (span.to - span.from) (drop span.from items) ++ rest)) (sym (drop-drop span.from (span.to - span.from) items ∙ ap (λ (k : ℕ). drop k items) to))
    ∙ ap (λ (rest : List Segment). take span.from items ++ rest) (take-append-drop (span.to - span.from) (drop span.from items))
    ∙ take-append-drop span.from items)

pub cells-three : (xs ys zs : List Segment) → cells (xs ++ ys ++ zs) ≡ cells xs ++ cells ys ++ cells zs
cells-three xs ys zs = cells-append (xs ++ ys) zs ∙ ap (λ (line : List Cell). line ++ cells zs) (cells-append xs ys)

length-three : {A : Type 0} (xs ys zs : List A) → length (xs ++ ys ++ zs) ≡ length xs + length ys + length zs
length-three xs ys zs = length-append (xs ++ ys) zs ∙ ap (λ (k : ℕ). k + length zs) (length-append xs ys)

pub length-cells-three : (xs ys zs : List Segment) → length (cells (xs ++ ys ++ zs)) ≡ length (cells xs) + length (cells ys) + length (cells zs)
length-cells-three xs ys zs = ap length (cells-three xs ys zs) ∙ length-three (cells xs) (cells ys) (cells zs)

pub ArePieces-three : (xs ys zs : List Segment) → ArePieces xs → ArePieces ys → ArePieces zs → ArePieces (xs ++ ys ++ zs)
ArePieces-three xs ys zs p q r = ArePieces-append (xs ++ ys) zs (ArePieces-append xs ys p q) r

pub ArePieces-spliced : (span : Span) (put items : List Segment) → ArePieces items → ArePieces put → ArePieces (spliced span put items)
ArePieces-spliced span put items p q = ArePieces-three (take span.from items) put (drop span.to items) (ArePieces-take span.from items p) q (ArePieces-drop items span.to p)

-- what begins with segments begins with the start of one
begins-run : (s : Segment) (n : ℕ) (rest : List Cell) → 1 ≤ n → begins_segment (run (cell_at s) 0 n ++ rest) ≡ true
begins-run s zero rest h = absurd (omega arith)
begins-run s (suc n) rest h = refl

pub begins-cells : (ss : List Segment) → ArePieces ss → begins_segment (cells ss) ≡ true
begins-cells [] p = refl
begins-cells (s ∷ ss) p = begins-run s s.len (cells ss) p.0.formed.0

-- the fronts and rests of a line at a place
pub take-place : (items : List Segment) (i start o : ℕ) → start ≡ length (cells (take i items)) → take (start + o) (cells items) ≡ cells (take i items) ++ take o (cells (drop i items))
take-place items i start o e =
    let left : (start + o) - length (cells (take i items)) ≡ o = omega arith in
    ap (λ (ss : List Segment). take (start + o) (cells ss)) (sym (take-append-drop i items))
    ∙ ap (take (start + o)) (cells-append (take i items) (drop i items))
    ∙ take_over (cells (take i items)) (cells (drop i items)) (start + o) (omega arith)
    ∙ ap (λ (k : ℕ). cells (take i items) ++ take k (cells (drop i items))) left

pub drop-place : (items : List Segment) (i start o : ℕ) → start ≡ length (cells (take i items)) → drop (start + o) (cells items) ≡ drop o (cells (drop i items))
drop-place items i start o e =
    let left : (start + o) - length (cells (take i items)) ≡ o = omega arith in
    ap (λ (ss : List Segment). drop (start + o) (cells ss)) (sym (take-append-drop i items))
    ∙ ap (drop (start + o)) (cells-append (take i items) (drop i items))
    ∙ drop_over (cells (take i items)) (cells (drop i items)) (start + o) (omega arith)
    ∙ ap (λ (k : ℕ). drop k (cells (drop i items))) left

before-place : (items : List Segment) (cut : Cut) → IsCutAt items (cut.start + cut.offset) cut → cells (take cut.index items) ++ cells (fronts (drop cut.index items) cut.offset) ≡ take (cut.start + cut.offset) (cells items)
before-place items cut one =
    ap (λ (line : List Cell). cells (take cut.index items) ++ line) (cells-fronts (drop cut.index items) cut.offset)
    ∙ sym (take-place items cut.index cut.start cut.offset one.start)

after-place : (items : List Segment) (cut : Cut) → ArePieces items → IsCutAt items (cut.start + cut.offset) cut → cells (backs (drop cut.index items) cut.offset) ≡ headed (drop (cut.start + cut.offset) (cells items))
after-place items cut p one =
    cells-backs (drop cut.index items) cut.offset (ArePieces-drop items cut.index p)
    ∙ ap headed (sym (drop-place items cut.index cut.start cut.offset one.start))

-- the change between two places
between-line : (items new put rest : List Segment) (first last : Cut) → ArePieces items → IsCutAt items (first.start + first.offset) first → IsCutAt items (last.start + last.offset) last → put ++ rest ≡ (fronts (drop first.index items) first.offset ++ new) ++ backs (drop last.index items) last.offset → cells (take first.index items ++ put ++ rest) ≡ take (first.start + first.offset) (cells items) ++ cells new ++ headed (drop (last.start + last.offset) (cells items))
between-line items new put rest first last p one two is =
    let a = take first.index items in
    let f = fronts (drop first.index items) first.offset in
    let b = backs (drop last.index items) last.offset in
    ap cells (append_assoc a put rest ∙ ap (λ (ss : List Segment). a ++ ss) is)
    ∙ cells-append a ((f ++ new) ++ b)
    ∙ ap (λ (line : List Cell). cells a ++ line) (cells-three f new b)
    ∙ sym (append_assoc (cells a) (cells f ++ cells new) (cells b))
    ∙ ap (λ (line : List Cell). line ++ cells b) (sym (append_assoc (cells a) (cells f) (cells new)))
    ∙ ap (λ (line : List Cell). (line ++ cells new) ++ cells b) (before-place items first one)
    ∙ ap (λ (line : List Cell). (take (first.start + first.offset) (cells items) ++ cells new) ++ line) (after-place items last p two)

pub between_is : (items new : List Segment) (first last : Cut) (change : Change) → ArePieces items → ArePieces new → IsCutAt items (first.start + first.offset) first → IsCutAt items (last.start + last.offset) last → change.span.at ≡ first.start → change.span.from ≡ first.index → first.index ≤ change.span.to → change.span.to ≤ length items → change.put.items ++ drop change.span.to items ≡ (fronts (drop first.index items) first.offset ++ new) ++ backs (drop last.index items) last.offset → IsChangeTo items (take (first.start + first.offset) (cells items) ++ cells new ++ headed (drop (last.start + last.offset) (cells items))) change
between_is items new first last change p q one two at from order within put =
    let all : ArePieces ((fronts (drop first.index items) first.offset ++ new) ++ backs (drop last.index items) last.offset) =
    ArePieces-append (fronts (drop first.index items) first.offset ++ new) (backs (drop last.index items) last.offset)
    (ArePieces-append (fronts (drop first.index items) first.offset) new (ArePieces-fronts (drop first.index items) first.offset (ArePieces-drop items first.index p)) q)
    (ArePieces-backs (drop last.index items) last.offset (ArePieces-drop items last.index p)) in
    record {
      span = record {
        at = at ∙ one.start ∙ ap (λ (k : ℕ). length (cells (take k items))) (sym from);
        order = omega arith;
        within = within;
      };
      pieces = ArePieces-left change.put.items (drop change.span.to items) (subst ArePieces (sym put) all);
      line =
          ap (λ (k : ℕ). cells (take k items ++ change.put.items ++ drop change.span.to items)) from
          ∙ between-line items new change.put.items (drop change.span.to items) first last p one two put;
    }

-- another segment in the place of one
pub segment_is : (items : List Segment) (cut : Cut) (new : Segment) (change : Change) → cut.start ≡ length (cells (take cut.index items)) → cut.index < length items → IsPiece new → change.span.at ≡ cut.start → change.span.from ≡ cut.index → change.span.to ≡ cut.index + 1 → change.put.items ≡ new ∷ [] → IsChangeTo items (cells (take cut.index items) ++ cells_of new ++ cells (drop (cut.index + 1) items)) change
segment_is items cut new change start within piece at from to put = record {
  span = record {
    at = at ∙ start ∙ ap (λ (k : ℕ). length (cells (take k items))) (sym from);
    order = omega arith;
    within = omega arith;
  };
  pieces = subst ArePieces (sym put) (piece, tt);
  line =
      ap (λ (k : ℕ). cells (take k items ++ change.put.items ++ drop change.span.to items)) from
      ∙ ap (λ (k : ℕ). cells (take cut.index items ++ change.put.items ++ drop k items)) to
      ∙ ap (λ (ss : List Segment). cells (take cut.index items ++ ss ++ drop (cut.index + 1) items)) put
      ∙ cells-three (take cut.index items) (new ∷ []) (drop (cut.index + 1) items)
      ∙ ap (λ (line : List Cell). cells (take cut.index items) ++ line ++ cells (drop (cut.index + 1) items)) (append-nil (cells_of new));
}

-- the patch that leads back
is_true : (b : Bool) → b ≡ true → IsTrue b
is_true true e = refl
is_true false e = absurd cc

cut-in : (xs ys : List Segment) (n : ℕ) → ArePieces ys → n ≡ length (cells xs) → is_cut n (cells (xs ++ ys)) ≡ true
cut-in xs ys n p e =
    let left : n - length (cells xs) ≡ 0 = omega arith in
    ap (λ (line : List Cell). begins_segment (drop n line)) (cells-append xs ys)
    ∙ ap begins_segment (drop_over (cells xs) (cells ys) n (omega arith) ∙ ap (λ (k : ℕ). drop k (cells ys)) left)
    ∙ begins-cells ys p

patched-three : (a b c : List Cell) (at count : ℕ) (put : List Cell) → at ≡ length a → count ≡ length b → patched (record { at = at; count = count; cells = put }) (a ++ b ++ c) ≡ a ++ put ++ c
patched-three a b c at count put e f =
    let none : at - length a ≡ 0 = omega arith in
    let both = length-append a b in
    let over : at + count - length (a ++ b) ≡ 0 = omega arith in
    let front : take at (a ++ b ++ c) ≡ a = ap (take at) (append_assoc a b c) ∙ take_over a (b ++ c) at (omega arith) ∙ ap (λ (k : ℕ). a ++ take k (b ++ c)) none ∙ append-nil a in
    let rest : drop (at + count) (a ++ b ++ c) ≡ c = drop_over (a ++ b) c (at + count) (omega arith) ∙ ap (λ (k : ℕ). drop k c) over in
    ap (λ (line : List Cell). line ++ put ++ drop (at + count) (a ++ b ++ c)) front ∙ ap (λ (line : List Cell). a ++ put ++ line) rest

leads-three : (a b c gone : List Segment) (at count : ℕ) → ArePieces a → ArePieces b → ArePieces c → ArePieces gone → at ≡ length (cells a) → count ≡ length (cells b) → length (cells (a ++ gone ++ c)) ≤ max_frames → length (a ++ gone ++ c) ≤ max_segments → LeadsBack (record { at = at; count = count; cells = cells gone }) (cells (a ++ b ++ c)) (cells (a ++ gone ++ c))
leads-three a b c gone at count p q r s e f frames few =
    let patch : PatchOf = record { at = at; count = count; cells = cells gone } in
    let back : patched patch (cells (a ++ b ++ c)) ≡ cells (a ++ gone ++ c) = ap (patched patch) (cells-three a b c) ∙ patched-three (cells a) (cells b) (cells c) at count (cells gone) e f ∙ sym (cells-three a gone c) in
    let all = length-cells-three a b c in
    let ab = ap length (cells-append a b) ∙ length-append (cells a) (cells b) in
    let count_is = segment_count-cells (a ++ gone ++ c) (ArePieces-three a gone c p s r) in
    record {
      fits = record {
        within = omega arith;
        begin = is_true (is_cut at (cells (a ++ b ++ c))) (ap (λ (ss : List Segment). is_cut at (cells ss)) (append_assoc a b c) ∙ cut-in a (b ++ c) at (ArePieces-append b c q r) e);
        end = is_true (is_cut (at + count) (cells (a ++ b ++ c))) (cut-in (a ++ b) c (at + count) r (omega arith));
        frames = subst (λ (line : List Cell). length line ≤ max_frames) (sym back) frames;
        segments = subst (λ (line : List Cell). segment_count line ≤ max_segments) (sym back) (omega arith);
      };
      back = back;
    }

pub leads_back : (span : Span) (put items : List Segment) (count : ℕ) → IsLane items (length (cells items)) → IsSpan span items → ArePieces put → count ≡ length (cells put) → LeadsBack (record { at = span.at; count = count; cells = cells (gone_of span items) }) (cells (spliced span put items)) (cells items)
leads_back span put items count lane s q f =
    let a = take span.from items in
    let gone = take (span.to - span.from) (drop span.from items) in
    let c = drop span.to items in
    let whole : items ≡ a ++ gone ++ c = parted span items s in
    let pieces = lane.pieces in
    let frames : length (cells (a ++ gone ++ c)) ≤ max_frames = subst (λ (ss : List Segment). length (cells ss) ≤ max_frames) whole lane.short in
    let few : length (a ++ gone ++ c) ≤ max_segments = subst (λ (ss : List Segment). length ss ≤ max_segments) whole lane.few in
    let lead = leads-three a put c gone span.at count (ArePieces-take span.from items pieces) q (ArePieces-drop items span.to pieces) (ArePieces-take (span.to - span.from) (drop span.from items) (ArePieces-drop items span.from pieces)) s.at f frames few in
    subst (λ (ss : List Segment). LeadsBack (record { at = span.at; count = count; cells = cells gone }) (cells (spliced span put items)) (cells ss)) (sym whole) lead

-- the sizes of a changed list
pub frames-spliced : (span : Span) (put items : List Segment) → IsSpan span items → length (cells (spliced span put items)) + length (cells (gone_of span items)) ≡ length (cells items) + length (cells put)
frames-spliced span put items s =
    let one = length-cells-three (take span.from items) put (drop span.to items) in
    let two = ap (λ (ss : List Segment). length (cells ss)) (parted span items s) ∙ length-cells-three (take span.from items) (take (span.to - span.from) (drop span.from items)) (drop span.to items) in
    omega arith

pub length-spliced : (span : Span) (put items : List Segment) → IsSpan span items → length (spliced span put items) + (span.to - span.from) ≡ length items + length put
length-spliced span put items s =
    let one = length-three (take span.from items) put (drop span.to items) in
    let two = length-take-le span.from items (omega (arith, s.order, s.within)) in
    let three = length-drop span.to items in
    let order = s.order in
    let within = s.within in
    omega arith

pub gone-less : (span : Span) (items : List Segment) → IsSpan span items → length (cells (gone_of span items)) ≤ length (cells items)
gone-less span items s =
    let two = ap (λ (ss : List Segment). length (cells ss)) (parted span items s) ∙ length-cells-three (take span.from items) (take (span.to - span.from) (drop span.from items)) (drop span.to items) in
    omega arith

pub segments-spliced : (span : Span) (put items : List Segment) → ArePieces items → ArePieces put → segment_count (cells (spliced span put items)) ≡ length (spliced span put items)
segments-spliced span put items p q = segment_count-cells (spliced span put items) (ArePieces-spliced span put items p q)

pub put-less : (span : Span) (put items : List Segment) → length (cells put) ≤ length (cells (spliced span put items))
put-less span put items =
    let one = length-cells-three (take span.from items) put (drop span.to items) in
    omega arith

pub ArePieces-gone : (span : Span) (items : List Segment) → ArePieces items → ArePieces (gone_of span items)
ArePieces-gone span items p = ArePieces-take (span.to - span.from) (drop span.from items) (ArePieces-drop items span.from p)

-- why a changed list is refused
pub too_many_frames : (line : List Cell) → max_frames < length line → first_of (too_large line) ≡ Some refusal.TooManyFrames
too_many_frames line h = let t : nat_lt max_frames (length line) ≡ true = grind (arith, nat_tests) in cc

pub too_many_segments : (line : List Cell) → length line ≤ max_frames → max_segments < segment_count line → first_of (too_large line) ≡ Some refusal.TooManySegments
too_many_segments line h k =
    let t : nat_lt max_frames (length line) ≡ false = grind (arith, nat_tests) in
    let u : nat_lt max_segments (segment_count line) ≡ true = grind (arith, nat_tests) in
    cc

pub not_too_large : (line : List Cell) → length line ≤ max_frames → segment_count line ≤ max_segments → first_of (too_large line) ≡ None
not_too_large line h k =
    let t : nat_lt max_frames (length line) ≡ false = grind (arith, nat_tests) in
    let u : nat_lt max_segments (segment_count line) ≡ false = grind (arith, nat_tests) in
    cc

-- the number of frames after a change, counted in 64 bits
pub counted : (span : Span) (put items : List Segment) (frames gone added count : ℕ) → IsLane items frames → IsSpan span items → gone ≡ min (length (cells (gone_of span items))) 18446744073709551615 → added ≡ min (length (cells put)) 18446744073709551615 → count ≡ min ((frames - gone) + added) 18446744073709551615 → count ≤ max_frames → count ≡ length (cells (spliced span put items))
counted span put items frames gone added count lane s g a e h =
    let sum = frames-spliced span put items s in
    let less = gone-less span items s in
    let same = lane.counted in
    let short = lane.short in
    omega arith

pub over_counted : (span : Span) (put items : List Segment) (frames gone added count : ℕ) → IsLane items frames → IsSpan span items → gone ≡ min (length (cells (gone_of span items))) 18446744073709551615 → added ≡ min (length (cells put)) 18446744073709551615 → count ≡ min ((frames - gone) + added) 18446744073709551615 → max_frames < count → max_frames < length (cells (spliced span put items))
over_counted span put items frames gone added count lane s g a e h =
    let sum = frames-spliced span put items s in
    let less = gone-less span items s in
    let same = lane.counted in
    let short = lane.short in
    omega arith

pub over_segments : (span : Span) (put items : List Segment) → ArePieces items → ArePieces put → IsSpan span items → length items ≤ max_segments → max_segments - (length items - (span.to - span.from)) < length put → max_segments < segment_count (cells (spliced span put items))
over_segments span put items p q s few h =
    let sum = length-spliced span put items s in
    let count = segments-spliced span put items p q in
    let within = s.within in
    let order = s.order in
    omega arith

pub within_segments : (span : Span) (put items : List Segment) → IsSpan span items → length items ≤ max_segments → length put ≤ max_segments - (length items - (span.to - span.from)) → length (spliced span put items) ≤ max_segments
within_segments span put items s few h =
    let sum = length-spliced span put items s in
    let within = s.within in
    let order = s.order in
    omega arith

pub ruleset spliced_steps = (append_assoc, common_steps)
