-- An accepted edit keeps a line sound.
use Rattle.std.proofs.Common.{◌≡◌, ℕ, zero, suc, ◌+◌, ◌-◌, ◌<◌, ◌≤◌, min, cond, Bool, true, false, not, ◌||◌, ◌&&◌, List, [], ◌∷◌, ◌++◌, length, map, take, drop, Option, Some, None, Ok, refl, sym, ap, ◌∙◌, subst, arith}
use Rattle.std.specs.Prelude.{nat_lt, nat_le, IsTrue, All, ℤ, pos, negsuc}
use Rattle.std.specs.List.{list_any, flat_map}
use Rattle.std.proofs.lemmas.Bool.Decides.{nat_tests}
use Rattle.tl_limits.specs.Limits.{max_frames, max_segments}
use Rattle.tl_model.specs.Media.{Library, IsShown}
use Rattle.tl_model.specs.declared.recipe.Side.{Side}
use Rattle.tl_model.specs.declared.recipe.Side.TheVariants as side
use Rattle.tl_model.specs.declared.recipe.Mix.{Mix}
use Rattle.tl_model.specs.declared.segment.Segment.{Segment}
use Rattle.tl_model.specs.declared.edit.Edit.{Edit}
use Rattle.tl_model.specs.declared.edit.Edit.TheVariants as edit
use Rattle.tl_model.specs.declared.edit.EditRefusal.{EditRefusal}
use Rattle.tl_model.specs.declared.edit.EditRefusal.TheVariants as refusal
use Rattle.tl_model.specs.Cells.{Cell, side_at, mix_at, cell_at, run, cells_of, cells, segment_count}
use Rattle.tl_model.specs.Edit.{IsReplacement, IsEdit}
use Rattle.tl_model.specs.Segment.{IsMix}
use Rattle.tl_model.specs.Sound.{IsSoundMix, AreSound, IsSound}
use Rattle.time_list.specs.Parts.{start_of, end_of, parts_at, first_side, last_side}
use Rattle.time_list.specs.Edits.{Proposal, headed, fresh, plain, sides_from, side_before, side_by, trimmed_in, trimmed_out, slipped, with_dissolve, dissolved, shown_from, outgoing_sides, sides_of, with_own, proposal}
use Rattle.time_list.specs.Apply.{names_no_clip, differs, is_late, first_of, unless, too_large, against, apply}

AreSound-append : {F : Type 0} (lib : Library F) (xs ys : List Cell) → AreSound lib xs → AreSound lib ys → AreSound lib (xs ++ ys)
AreSound-append lib [] ys one two = two
AreSound-append lib (x ∷ xs) ys one two = (one.0, AreSound-append lib xs ys one.1 two)

AreSound-take : {F : Type 0} (lib : Library F) (n : ℕ) (xs : List Cell) → AreSound lib xs → AreSound lib (take n xs)
AreSound-take lib zero xs s = tt
AreSound-take lib (suc n) [] s = tt
AreSound-take lib (suc n) (x ∷ xs) s = (s.0, AreSound-take lib n xs s.1)

AreSound-drop : {F : Type 0} (lib : Library F) (n : ℕ) (xs : List Cell) → AreSound lib xs → AreSound lib (drop n xs)
AreSound-drop lib zero xs s = s
AreSound-drop lib (suc n) [] s = tt
AreSound-drop lib (suc n) (x ∷ xs) s = AreSound-drop lib n xs s.1

AreSound-headed : {F : Type 0} (lib : Library F) (xs : List Cell) → AreSound lib xs → AreSound lib (headed xs)
AreSound-headed lib [] s = tt
AreSound-headed lib (x ∷ xs) s = s

-- sides that can be shown
pub AreShown : {F : Type 0} → Library F → List Side → Type 0
AreShown lib [] = Unit {0}
AreShown lib (x ∷ xs) = IsShown lib x × AreShown lib xs

or_false : (a b : Bool) → (a || b) ≡ false → (a ≡ false) × (b ≡ false)
or_false true b e = absurd cc
or_false false b e = (refl, e)

was_true : (b : Bool) → not b ≡ false → IsTrue b
was_true true e = refl
was_true false e = absurd cc

under : (a b : Bool) → a ≡ true → (a && b) ≡ false → b ≡ false
under true b e f = f
under false b e f = absurd cc

shown : {F : Type 0} (lib : Library F) (x : Side) → names_no_clip lib x ≡ false → differs lib x ≡ false → is_late lib x ≡ false → IsShown lib x
shown lib side.Black a b c = tt
shown lib (side.Clip clip frame) a b c =
    let less : clip < lib.clips = grind (arith, nat_tests) in
    let test : nat_lt clip lib.clips ≡ true = grind (arith, nat_tests) in
    let late : nat_le (lib.frames clip) frame ≡ false = under (nat_lt clip lib.clips) (nat_le (lib.frames clip) frame) test c in
    let within : frame < lib.frames clip = grind (arith, nat_tests) in
    (less, was_true (lib.fits clip) (under (nat_lt clip lib.clips) (not (lib.fits clip)) test b), within)

shown_sides : {F : Type 0} (lib : Library F) (xs : List Side) → list_any (names_no_clip lib) xs ≡ false → list_any (differs lib) xs ≡ false → list_any (is_late lib) xs ≡ false → AreShown lib xs
unfolding AreShown
shown_sides lib [] a b c = tt
shown_sides lib (x ∷ xs) a b c =
    let d = or_false (names_no_clip lib x) (list_any (names_no_clip lib) xs) a in
    let e = or_false (differs lib x) (list_any (differs lib) xs) b in
    let f = or_false (is_late lib x) (list_any (is_late lib) xs) c in
    (shown lib x d.0 e.0 f.0, shown_sides lib xs d.1 e.1 f.1)

AreShown-fronts : {F : Type 0} (lib : Library F) (xs ys : List Side) → AreShown lib (xs ++ ys) → AreShown lib xs × AreShown lib ys
unfolding AreShown
AreShown-fronts lib [] ys s = (tt, s)
AreShown-fronts lib (x ∷ xs) ys s = let rest = AreShown-fronts lib xs ys s.1 in ((s.0, rest.0), rest.1)

-- the reasons against an edit, one by one
pub record IsClear {F : Type 0} (lib : Library F) (p : Proposal) : Type 0 where
  pub within : p.past_end ≡ false
  pub cut : p.no_cut ≡ false
  pub taken : AreShown lib p.taken
  pub short : p.too_long ≡ false
  pub frames : length p.line ≤ max_frames
  pub segments : segment_count p.line ≤ max_segments

none_of : (b : Bool) (why : EditRefusal) (reasons : List (Bool × EditRefusal)) → first_of ((b, why) ∷ reasons) ≡ None → (b ≡ false) × (first_of reasons ≡ None)
none_of true why reasons e = absurd cc
none_of false why reasons e = (refl, e)

accepted : (o : Option EditRefusal) (line after : List Cell) → unless o line ≡ Ok after → (o ≡ None) × (line ≡ after)
accepted None line after e = (refl, cc)
accepted (Some why) line after e = absurd cc

eight : (a b c d e f g h : Bool) (reasons : (a b c d e f g h : Bool) → List (Bool × EditRefusal)) → ((a b c d e f g h : Bool) → reasons a b c d e f g h ≡ (a, refusal.PastEnd) ∷ (b, refusal.NoCut) ∷ (c, refusal.NoClip) ∷ (d, refusal.ShapeDiffers) ∷ (e, refusal.OutsideClip) ∷ (f, refusal.MixTooLong) ∷ (g, refusal.TooManyFrames) ∷ (h, refusal.TooManySegments) ∷ []) → first_of (reasons a b c d e f g h) ≡ None → (a ≡ false) × (b ≡ false) × (c ≡ false) × (d ≡ false) × (e ≡ false) × (f ≡ false) × (g ≡ false) × (h ≡ false)
eight a b c d e f g h reasons is given =
    let start : first_of ((a, refusal.PastEnd) ∷ (b, refusal.NoCut) ∷ (c, refusal.NoClip) ∷ (d, refusal.ShapeDiffers) ∷ (e, refusal.OutsideClip) ∷ (f, refusal.MixTooLong) ∷ (g, refusal.TooManyFrames) ∷ (h, refusal.TooManySegments) ∷ []) ≡ None = ap first_of (sym (is a b c d e f g h)) ∙ given in
    let one = none_of a refusal.PastEnd ((b, refusal.NoCut) ∷ (c, refusal.NoClip) ∷ (d, refusal.ShapeDiffers) ∷ (e, refusal.OutsideClip) ∷ (f, refusal.MixTooLong) ∷ (g, refusal.TooManyFrames) ∷ (h, refusal.TooManySegments) ∷ []) start in
    let two = none_of b refusal.NoCut ((c, refusal.NoClip) ∷ (d, refusal.ShapeDiffers) ∷ (e, refusal.OutsideClip) ∷ (f, refusal.MixTooLong) ∷ (g, refusal.TooManyFrames) ∷ (h, refusal.TooManySegments) ∷ []) one.1 in
    let three = none_of c refusal.NoClip ((d, refusal.ShapeDiffers) ∷ (e, refusal.OutsideClip) ∷ (f, refusal.MixTooLong) ∷ (g, refusal.TooManyFrames) ∷ (h, refusal.TooManySegments) ∷ []) two.1 in
    let four = none_of d refusal.ShapeDiffers ((e, refusal.OutsideClip) ∷ (f, refusal.MixTooLong) ∷ (g, refusal.TooManyFrames) ∷ (h, refusal.TooManySegments) ∷ []) three.1 in
    let five = none_of e refusal.OutsideClip ((f, refusal.MixTooLong) ∷ (g, refusal.TooManyFrames) ∷ (h, refusal.TooManySegments) ∷ []) four.1 in
    let six = none_of f refusal.MixTooLong ((g, refusal.TooManyFrames) ∷ (h, refusal.TooManySegments) ∷ []) five.1 in
    let seven = none_of g refusal.TooManyFrames ((h, refusal.TooManySegments) ∷ []) six.1 in
    let last = none_of h refusal.TooManySegments [] seven.1 in
    (one.0, two.0, three.0, four.0, five.0, six.0, seven.0, last.0)

clear : {F : Type 0} (lib : Library F) (p : Proposal) → first_of (against lib p ++ too_large p.line) ≡ None → IsClear lib p
clear lib p given =
    let all = eight p.past_end p.no_cut (list_any (names_no_clip lib) p.taken) (list_any (differs lib) p.taken) (p.early || list_any (is_late lib) p.taken) p.too_long (nat_lt max_frames (length p.line)) (nat_lt max_segments (segment_count p.line))
    (λ (a b c d e f g h : Bool). (a, refusal.PastEnd) ∷ (b, refusal.NoCut) ∷ (c, refusal.NoClip) ∷ (d, refusal.ShapeDiffers) ∷ (e, refusal.OutsideClip) ∷ (f, refusal.MixTooLong) ∷ (g, refusal.TooManyFrames) ∷ (h, refusal.TooManySegments) ∷ []) (λ a b c d e f g h. refl) given in
    record {
      within = all.0;
      cut = all.1;
      taken = shown_sides lib p.taken all.2 all.3 (or_false p.early (list_any (is_late lib) p.taken) all.4).1;
      short = all.5;
      frames = grind (arith, nat_tests, all.6);
      segments = grind (arith, nat_tests, all.7);
    }

-- new cells from the sides that are taken
fresh-sound : {F : Type 0} (lib : Library F) (first : Side) (len from n : ℕ) → AreShown lib (run (side_at first) from n) → AreSound lib (run (cell_at (record { first = first; len = len; mix = None })) from n)
unfolding AreShown
fresh-sound lib first len from zero s = tt
fresh-sound lib first len from (suc n) s = ((s.0, tt), fresh-sound lib first len (from + 1) n s.1)

black-shown : {F : Type 0} (lib : Library F) (from n : ℕ) → AreShown lib (run (side_at side.Black) from n)
unfolding AreShown
black-shown lib from zero = tt
black-shown lib from (suc n) = (tt, black-shown lib (from + 1) n)

plain-sound : {F : Type 0} (lib : Library F) (xs : List Side) → AreShown lib xs → AreSound lib (map plain xs)
unfolding AreShown
plain-sound lib [] s = tt
plain-sound lib (x ∷ xs) s = ((s.0, tt), plain-sound lib xs s.1)

unmixed-sound : {F : Type 0} (lib : Library F) (xs : List Cell) → AreSound lib xs → AreSound lib (map (λ c. plain c.side) xs)
unmixed-sound lib [] s = tt
unmixed-sound lib (c ∷ cs) s = ((s.0.0, tt), unmixed-sound lib cs s.1)

slipped-sound : {F : Type 0} (lib : Library F) (by : ℤ) (xs : List Cell) → AreShown lib (map (λ (c : Cell). side_by by c.side) xs) → AreSound lib xs → AreSound lib (map (λ (c : Cell). record { side = side_by by c.side; mix = c.mix; is_head = c.is_head }) xs)
unfolding AreShown
slipped-sound lib by [] s old = tt
slipped-sound lib by (c ∷ cs) s old = ((s.0, old.0.1), slipped-sound lib by cs s.1 old.1)

one_dissolved : {F : Type 0} (lib : Library F) (from : Side) (total done n : ℕ) (b : Bool) → nat_lt done total ≡ b → AreShown lib (run (side_at from) (done + 1) (min (total - done) (suc n))) → IsSoundMix lib (cond b (Some (record { from = side_at from (done + 1); step = done + 1; total = total })) None)
unfolding AreShown
one_dissolved lib from total done n true e s =
    let h : done < total = grind (arith, nat_tests) in
    let more : min (total - done) (suc n) ≡ suc (min (total - (done + 1)) n) = omega arith in
    let all : AreShown lib (run (side_at from) (done + 1) (suc (min (total - (done + 1)) n))) = subst (λ (k : ℕ). AreShown lib (run (side_at from) (done + 1) k)) more s in
    (all.0, omega arith)
one_dissolved lib from total done n false e s = tt

rest_dissolved : {F : Type 0} (lib : Library F) (from : Side) (total done n : ℕ) (b : Bool) → nat_lt done total ≡ b → AreShown lib (run (side_at from) (done + 1) (min (total - done) (suc n))) → AreShown lib (run (side_at from) ((done + 1) + 1) (min (total - (done + 1)) n))
unfolding AreShown
rest_dissolved lib from total done n true e s =
    let h : done < total = grind (arith, nat_tests) in
    let more : min (total - done) (suc n) ≡ suc (min (total - (done + 1)) n) = omega arith in
    let all : AreShown lib (run (side_at from) (done + 1) (suc (min (total - (done + 1)) n))) = subst (λ (k : ℕ). AreShown lib (run (side_at from) (done + 1) k)) more s in
    all.1
rest_dissolved lib from total done n false e s =
    let h : total ≤ done = grind (arith, nat_tests) in
    let none_left : 0 ≡ min (total - (done + 1)) n = omega arith in
    subst (λ (k : ℕ). AreShown lib (run (side_at from) ((done + 1) + 1) k)) none_left tt

dissolved-sound : {F : Type 0} (lib : Library F) (from : Side) (total done : ℕ) (xs : List Cell) → AreShown lib (run (side_at from) (done + 1) (min (total - done) (length xs))) → AreSound lib xs → AreSound lib (dissolved from total done xs)
dissolved-sound lib from total done [] s old = tt
dissolved-sound lib from total done (c ∷ cs) s old = (
  (old.0.0, one_dissolved lib from total done (length cs) (nat_lt done total) refl s),
  dissolved-sound lib from total (done + 1) cs (rest_dissolved lib from total done (length cs) (nat_lt done total) refl s) old.1,
)

relinked-sound : {F : Type 0} (lib : Library F) (clip first skip at : ℕ) (xs : List Cell) → at ≡ first + skip → AreShown lib (run (side_at (side.Clip clip first)) skip (length xs)) → AreSound lib xs → AreSound lib (shown_from clip at xs)
unfolding AreShown
relinked-sound lib clip first skip at [] e s old = tt
relinked-sound lib clip first skip at (c ∷ cs) e s old =
    let here : IsShown lib (side.Clip clip at) = subst (λ (k : ℕ). IsShown lib (side.Clip clip k)) (sym e) s.0 in
    ((here, old.0.1), relinked-sound lib clip first (skip + 1) (at + 1) cs (omega arith) s.1 old.1)

-- the cells of a replacement
shown-run : {F : Type 0} (lib : Library F) (f : ℕ → Side) (from n k : ℕ) → k < n → AreShown lib (run f from n) → IsShown lib (f (from + k))
unfolding AreShown
shown-run lib f from zero k h s = absurd (omega arith)
shown-run lib f from (suc n) zero h s = let e : from ≡ from + 0 = omega arith in subst (λ (m : ℕ). IsShown lib (f m)) e s.0
shown-run lib f from (suc n) (suc k) h s =
    let e : (from + 1) + k ≡ from + suc k = omega arith in
    subst (λ (m : ℕ). IsShown lib (f m)) e (shown-run lib f (from + 1) n k (omega arith) s.1)

one_mixed : {F : Type 0} (lib : Library F) (mix : Mix) (len n : ℕ) (b : Bool) → nat_lt n mix.steps ≡ b → n < len → IsMix (Some mix) → AreShown lib (outgoing_sides (Some mix) len) → IsSoundMix lib (cond b (Some (record { from = side_at mix.from n; step = mix.done + n + 1; total = mix.total })) None)
one_mixed lib mix len n true e h formed s =
    let less : n < mix.steps = grind (arith, nat_tests) in
    let z : 0 + n ≡ n = omega arith in
    let here : IsShown lib (side_at mix.from (0 + n)) = shown-run lib (side_at mix.from) 0 (min mix.steps len) n (omega arith) s in
    (subst (λ (k : ℕ). IsShown lib (side_at mix.from k)) z here, omega (arith, formed.1))
one_mixed lib mix len n false e h formed s = tt

mix-sound : {F : Type 0} (lib : Library F) (m : Option Mix) (len n : ℕ) → n < len → IsMix m → AreShown lib (outgoing_sides m len) → IsSoundMix lib (mix_at m n)
mix-sound lib None len n h formed s = tt
mix-sound lib (Some mix) len n h formed s = one_mixed lib mix len n (nat_lt n mix.steps) refl h formed s

segment-sound : {F : Type 0} (lib : Library F) (s : Segment) (from n : ℕ) → from + n ≤ s.len → IsMix s.mix → AreShown lib (run (side_at s.first) from n) → AreShown lib (outgoing_sides s.mix s.len) → AreSound lib (run (cell_at s) from n)
unfolding AreShown
segment-sound lib s from zero h formed own out = tt
segment-sound lib s from (suc n) h formed own out =
    ((own.0, mix-sound lib s.mix s.len from (omega arith) formed out), segment-sound lib s (from + 1) n (omega arith) formed own.1 out)

cells-sound : {F : Type 0} (lib : Library F) (ss : List Segment) → All IsReplacement ss → AreShown lib (flat_map sides_of ss) → AreSound lib (cells ss)
cells-sound lib [] formed s = tt
cells-sound lib (x ∷ xs) formed s =
    let first : IsReplacement x = formed 0 x (omega arith) in
    let both = AreShown-fronts lib (sides_of x) (flat_map sides_of xs) s in
    let own = AreShown-fronts lib (sides_from x.first 0 x.len) (outgoing_sides x.mix x.len) both.0 in
    AreSound-append lib (cells_of x) (cells xs)
    (segment-sound lib x 0 x.len (omega arith) first.0.1 own.0 own.1)
    (cells-sound lib xs (λ k d h. formed (suc k) d (omega arith)) both.1)

-- the parts of a line, and a line with other cells in a segment's place
slice-sound : {F : Type 0} (lib : Library F) (at n : ℕ) (line : List Cell) → AreSound lib line → AreSound lib (take n (drop at line))
slice-sound lib at n line s = AreSound-take lib n (drop at line) (AreSound-drop lib at line s)

own-sound : {F : Type 0} (lib : Library F) (at : ℕ) (line : List Cell) → AreSound lib line → AreSound lib (parts_at at line).own
own-sound lib at line s = slice-sound lib (start_of at line) (end_of at line - start_of at line) line s

with_own-sound : {F : Type 0} (lib : Library F) (at : ℕ) (line own : List Cell) → AreSound lib line → AreSound lib own → AreSound lib (with_own (parts_at at line) own)
with_own-sound lib at line own s new =
    AreSound-append lib (take (start_of at line) line ++ own) (drop (end_of at line) line)
    (AreSound-append lib (take (start_of at line) line) own (AreSound-take lib (start_of at line) line s) new)
    (AreSound-drop lib (end_of at line) line s)

between-sound : {F : Type 0} (lib : Library F) (at end : ℕ) (new line : List Cell) → AreSound lib line → AreSound lib new → AreSound lib (take at line ++ new ++ headed (drop end line))
between-sound lib at end new line s fresh =
    AreSound-append lib (take at line ++ new) (headed (drop end line))
    (AreSound-append lib (take at line) new (AreSound-take lib at line s) fresh)
    (AreSound-headed lib (drop end line) (AreSound-drop lib end line s))

cut-sound : {F : Type 0} (lib : Library F) (at end : ℕ) (line : List Cell) → AreSound lib line → AreSound lib (take at line ++ headed (drop end line))
cut-sound lib at end line s = AreSound-append lib (take at line) (headed (drop end line)) (AreSound-take lib at line s) (AreSound-headed lib (drop end line) (AreSound-drop lib end line s))

-- what an edit of a segment's own cells keeps
trim_in-sound : {F : Type 0} (lib : Library F) (by : ℤ) (own : List Cell) → AreSound lib own → AreShown lib (trimmed_in by own).taken → AreSound lib (trimmed_in by own).line
trim_in-sound lib (pos by) own s t = AreSound-headed lib (drop by own) (AreSound-drop lib by own s)
trim_in-sound lib (negsuc by) own s t =
    let first = side_before (by + 1) (first_side own) in
    AreSound-append lib (fresh first (by + 1)) (map (λ (c : Cell). plain c.side) own) (fresh-sound lib first (by + 1) 0 (by + 1) t) (unmixed-sound lib own s)

trim_out-sound : {F : Type 0} (lib : Library F) (by : ℤ) (own : List Cell) → AreSound lib own → AreShown lib (trimmed_out by own).taken → AreSound lib (trimmed_out by own).line
trim_out-sound lib (pos by) own s t = AreSound-take lib (length own - by) own s
trim_out-sound lib (negsuc by) own s t =
    let more = sides_from (last_side own) 1 (by + 1) in
    AreSound-append lib own (map plain more) s (plain-sound lib more t)

dissolve-sound : {F : Type 0} (lib : Library F) (from : Side) (len : ℕ) (own : List Cell) → AreSound lib own → AreShown lib (with_dissolve from len own).taken → AreSound lib (with_dissolve from len own).line
dissolve-sound lib from len own s t =
    let z : 1 ≡ 0 + 1 = omega arith in
    let l : len ≡ len - 0 = omega arith in
    let taken : AreShown lib (run (side_at from) (0 + 1) (min (len - 0) (length own))) = subst (λ (k : ℕ). AreShown lib (run (side_at from) (0 + 1) (min k (length own)))) l (subst (λ (k : ℕ). AreShown lib (run (side_at from) k (min len (length own)))) z t) in
    dissolved-sound lib from len 0 own taken s

pub proposal-sound : {F : Type 0} (lib : Library F) (e : Edit) (line : List Cell) → AreSound lib line → IsEdit e → IsClear lib (proposal e line) → AreSound lib (proposal e line).line
proposal-sound lib (edit.Insert at side len) line s formed c = between-sound lib at at (fresh side len) line s (fresh-sound lib side len 0 len c.taken)
proposal-sound lib (edit.Extract at len) line s formed c = cut-sound lib at (at + len) line s
proposal-sound lib (edit.Overwrite at side len) line s formed c = between-sound lib at (at + len) (fresh side len) line s (fresh-sound lib side len 0 len c.taken)
proposal-sound lib (edit.Lift at len) line s formed c = between-sound lib at (at + len) (fresh side.Black len) line s (fresh-sound lib side.Black len 0 len (black-shown lib 0 len))
proposal-sound lib (edit.Split at) line s formed c = cut-sound lib at at line s
proposal-sound lib (edit.TrimIn at by) line s formed c =
    let own = (parts_at at line).own in
    with_own-sound lib at line (trimmed_in by own).line s (trim_in-sound lib by own (own-sound lib at line s) c.taken)
proposal-sound lib (edit.TrimOut at by) line s formed c =
    let own = (parts_at at line).own in
    with_own-sound lib at line (trimmed_out by own).line s (trim_out-sound lib by own (own-sound lib at line s) c.taken)
proposal-sound lib (edit.Slip at by) line s formed c =
    let own = (parts_at at line).own in
    with_own-sound lib at line (slipped by own).line s (slipped-sound lib by own c.taken (own-sound lib at line s))
proposal-sound lib (edit.Dissolve at len) line s formed c =
    let own = (parts_at at line).own in
    let from = last_side (parts_at at line).before in
    with_own-sound lib at line (with_dissolve from len own).line s (dissolve-sound lib from len own (own-sound lib at line s) c.taken)
proposal-sound lib (edit.Relink at clip first) line s formed c =
    let own = (parts_at at line).own in
    with_own-sound lib at line (shown_from clip first own) s (relinked-sound lib clip first 0 first own (omega arith) c.taken (own-sound lib at line s))
proposal-sound lib (edit.Replace segments) line s formed c = cells-sound lib segments formed c.taken

pub apply_keeps : {F : Type 0} (lib : Library F) (e : Edit) (line after : List Cell) → IsSound lib line → IsEdit e → apply lib e line ≡ Ok after → IsSound lib after
apply_keeps lib e line after s formed given =
    let a = accepted (first_of (against lib (proposal e line) ++ too_large (proposal e line).line)) (proposal e line).line after given in
    let c = clear lib (proposal e line) a.0 in
    subst (IsSound lib) a.1 (record { shown = proposal-sound lib e line s.shown formed c; frames = c.frames; segments = c.segments })
