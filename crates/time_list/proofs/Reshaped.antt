-- The cells of a segment that an edit reshapes, and the frames that it takes.
use Rattle.std.proofs.Common.{◌≡◌, ℕ, zero, suc, ◌+◌, ◌-◌, ◌<◌, ◌≤◌, min, cond, Bool, true, false, not, ◌||◌, ◌&&◌, ◌⊎◌, List, [], ◌∷◌, ◌++◌, length, map, take, drop, Option, Some, None, refl, sym, ap, ◌∙◌, subst, arith}
use Rattle.std.specs.Prelude.{nat_lt, nat_le, ◌==◌, ℤ, pos, negsuc, ◌≤ℤ◌, ◌<ℤ◌, unsigned_abs, Result, Ok, Err}
use Rattle.std.specs.List.{list_any}
use Rattle.std.proofs.lemmas.Bool.Decides.{nat_tests}
use Rattle.std.proofs.lemmas.Int.{ints}
use Rattle.tl_limits.specs.Limits.{max_mix}
use Rattle.tl_model.specs.Media.{Library}
use Rattle.tl_model.specs.Segment.{IsMixOf, Reaches, IsPiece}
use Rattle.tl_model.specs.declared.recipe.Side.{Side}
use Rattle.tl_model.specs.declared.recipe.Side.TheVariants as side
use Rattle.tl_model.specs.declared.recipe.Mix.{Mix}
use Rattle.tl_model.specs.declared.segment.Segment.{Segment}
use Rattle.tl_model.specs.declared.edit.EditRefusal.{EditRefusal}
use Rattle.tl_model.specs.declared.edit.EditRefusal.TheVariants as refusal
use Rattle.tl_model.specs.Cells.{Cell, side_at, mix_at, cell_at, run, cells_of}
use Rattle.time_list.specs.Apply.{names_no_clip, differs, is_late, first_of, not_taken, against}
use Rattle.time_list.specs.Edits.{headed, rearranged, shortened_in, shortened_out, trimmed_in, trimmed_out, fresh, plain, sides_from, side_before, is_early, lengthened_in, lengthened_out, slipped, dissolved, with_dissolve, shown_from, relinked}
use Rattle.time_list.specs.Changes.{Shortens, Reshapes}
use Rattle.time_list.specs.Parts.{first_side, last_side}
use Rattle.time_list.specs.Pieces.{front_of, back_of}
use Rattle.time_list.proofs.Runs.{same_runs, map-run}
use Rattle.time_list.proofs.Parts.{length-cells_of, side_at-side_at, cells_of-front, cells_of-back}
use Rattle.time_list.proofs.Cuts.{Reaches-less, Reaches-later, IsPiece-front, IsPiece-back}
use Rattle.time_list.proofs.Reasons.{any-same}

side_at-zero : (x : Side) → side_at x 0 ≡ x
side_at-zero side.Black = refl
side_at-zero (side.Clip c f) = let e : f + 0 ≡ f = omega arith in cc

first_run : (s : Segment) (n : ℕ) → 1 ≤ n → first_side (run (cell_at s) 0 n) ≡ s.first
first_run s zero h = absurd (omega arith)
first_run s (suc n) h = side_at-zero s.first

pub first_side-cells : (s : Segment) → 1 ≤ s.len → first_side (cells_of s) ≡ s.first
first_side-cells s h = first_run s s.len h

last_run : (s : Segment) (from n : ℕ) → last_side (run (cell_at s) from (suc n)) ≡ side_at s.first (from + n)
last_run s from zero = let e : from ≡ from + 0 = omega arith in ap (side_at s.first) e
last_run s from (suc n) = let e : (from + 1) + n ≡ from + suc n = omega arith in last_run s (from + 1) n ∙ ap (side_at s.first) e

pub last_side-cells : (s : Segment) → 1 ≤ s.len → last_side (cells_of s) ≡ side_at s.first (s.len - 1)
last_side-cells s h =
    let e : s.len ≡ suc (s.len - 1) = omega arith in
    let z : 0 + (s.len - 1) ≡ s.len - 1 = omega arith in
    ap (λ (k : ℕ). last_side (run (cell_at s) 0 k)) e ∙ last_run s 0 (s.len - 1) ∙ ap (side_at s.first) z

run-append : {A : Type 0} (f : ℕ → A) (from a b : ℕ) → run f from (a + b) ≡ run f from a ++ run f (from + a) b
run-append f from zero b =
    let e : 0 + b ≡ b = omega arith in
    let z : from + 0 ≡ from = omega arith in
    cc
run-append f from (suc a) b =
    let e : suc a + b ≡ suc (a + b) = omega arith in
    let z : (from + 1) + a ≡ from + suc a = omega arith in
    let rest = run-append f (from + 1) a b in
    cc

-- what follows the last frame
after-last : (s : Segment) (k : ℕ) → 1 ≤ s.len → side_at (last_side (cells_of s)) (1 + k) ≡ side_at s.first (s.len + k)
after-last s k h =
    let e : (s.len - 1) + (1 + k) ≡ s.len + k = omega arith in
    ap (λ (x : Side). side_at x (1 + k)) (last_side-cells s h) ∙ side_at-side_at s.first (s.len - 1) (1 + k) ∙ ap (side_at s.first) e

pub sides-after : (s : Segment) (n : ℕ) → 1 ≤ s.len → sides_from (last_side (cells_of s)) 1 n ≡ sides_from s.first s.len n
sides-after s n h = same_runs (side_at (last_side (cells_of s))) (side_at s.first) 1 s.len n (λ k l. after-last s k h)

-- steps that are past
mix_past : (m : Option Mix) (len n : ℕ) → IsMixOf len m → len ≤ n → mix_at m n ≡ None
mix_past None len n h l = refl
mix_past (Some mix) len n h l = let t : nat_lt n mix.steps ≡ false = grind (arith, nat_tests, h.0) in ap (λ (b : Bool). cond b (Some (record { from = side_at mix.from n; step = mix.done + n + 1; total = mix.total })) None) t

IsMixOf-more : (m : Option Mix) (len more : ℕ) → len ≤ more → IsMixOf len m → IsMixOf more m
IsMixOf-more None len more l h = tt
IsMixOf-more (Some mix) len more l h = (omega (arith, h.0), h.1)

-- a segment with more frames after its end
pub cells-lengthened_out : (s : Segment) (by : ℕ) → IsPiece s → cells_of (record { first = s.first; len = s.len + by; mix = s.mix }) ≡ cells_of s ++ map plain (sides_from (last_side (cells_of s)) 1 by)
cells-lengthened_out s by p =
    let z : 0 + s.len ≡ s.len = omega arith in
    run-append (cell_at s) 0 s.len by
    ∙ ap (λ (k : ℕ). cells_of s ++ run (cell_at s) k by) z
    ∙ ap (λ (line : List Cell). cells_of s ++ line)
    (same_runs (cell_at s) (λ (k : ℕ). plain (side_at (last_side (cells_of s)) k)) s.len 1 by (λ k l.
    let sides = after-last s k p.formed.0 in
    let mix = mix_past s.mix s.len (s.len + k) p.mix (omega arith) in
    let some = p.formed.0 in
    let head : (s.len + k == 0) ≡ false = grind (arith, nat_tests) in
    cc)
    ∙ sym (map-run plain (side_at (last_side (cells_of s))) 1 by))

pub IsPiece-lengthened_out : (s : Segment) (by : ℕ) → IsPiece s → Reaches s.first (s.len + by) → IsPiece (record { first = s.first; len = s.len + by; mix = s.mix })
IsPiece-lengthened_out s by p r = record { formed = (omega (arith, p.formed.0), p.formed.1); side = r; mix = IsMixOf-more s.mix s.len (s.len + by) (omega arith) p.mix }

pub against-lengthened_out : {F : Type 0} (lib : Library F) (s : Segment) (by : ℕ) → 1 ≤ s.len → first_of (against lib (lengthened_out by (cells_of s))) ≡ first_of (not_taken lib (sides_from s.first s.len by) false)
against-lengthened_out lib s by h = ap (λ (xs : List Side). first_of (not_taken lib xs false)) (sides-after s by h)

-- a segment with more frames before its start
back_on : (by : ℕ) (x : Side) (k : ℕ) → is_early by x ≡ false → side_at (side_before by x) (by + k) ≡ side_at x k
back_on by side.Black k e = refl
back_on by (side.Clip c f) k e =
    let h : by ≤ f = grind (arith, nat_tests) in
    let n : (f - by) + (by + k) ≡ f + k = omega arith in
    ap (side.Clip c) n

pub cells-lengthened_in : (s : Segment) (by : ℕ) → 1 ≤ s.len → 1 ≤ by → is_early by s.first ≡ false → cells_of (record { first = side_before by s.first; len = s.len + by; mix = None }) ≡ fresh (side_before by (first_side (cells_of s))) by ++ map (λ c. plain c.side) (cells_of s)
cells-lengthened_in s by some h early =
    let new : Segment = record { first = side_before by s.first; len = s.len + by; mix = None } in
    let turn : s.len + by ≡ by + s.len = omega arith in
    let z : 0 + by ≡ by = omega arith in
    ap (run (cell_at new) 0) turn
    ∙ run-append (cell_at new) 0 by s.len
    ∙ ap (λ (k : ℕ). run (cell_at new) 0 by ++ run (cell_at new) k s.len) z
    ∙ ap (λ (line : List Cell). run (cell_at new) 0 by ++ line)
    (same_runs (cell_at new) (λ (k : ℕ). plain (side_at s.first k)) by 0 s.len (λ k l.
    let zero_on : 0 + k ≡ k = omega arith in
    let sides = back_on by s.first k early in
    let head : (by + k == 0) ≡ false = grind (arith, nat_tests) in
    cc)
    ∙ sym (map-run (λ (c : Cell). plain c.side) (cell_at s) 0 s.len))
    ∙ ap (λ (x : Side). fresh (side_before by x) by ++ map (λ (c : Cell). plain c.side) (cells_of s)) (sym (first_side-cells s some))

back-reaches : (x : Side) (len by : ℕ) → is_early by x ≡ false → Reaches x len → Reaches (side_before by x) (len + by)
back-reaches side.Black len by e r = tt
back-reaches (side.Clip c f) len by e r = let h : by ≤ f = grind (arith, nat_tests) in omega arith

pub IsPiece-lengthened_in : (s : Segment) (by : ℕ) → IsPiece s → is_early by s.first ≡ false → IsPiece (record { first = side_before by s.first; len = s.len + by; mix = None })
IsPiece-lengthened_in s by p e = record { formed = (omega (arith, p.formed.0), tt); side = back-reaches s.first s.len by e p.side; mix = tt }

pub against-lengthened_in : {F : Type 0} (lib : Library F) (s : Segment) (by : ℕ) → 1 ≤ s.len → first_of (against lib (lengthened_in by (cells_of s))) ≡ first_of (not_taken lib (sides_from (side_before by s.first) 0 by) (is_early by s.first))
against-lengthened_in lib s by h = ap (λ (x : Side). first_of (not_taken lib (sides_from (side_before by x) 0 by) (is_early by x))) (first_side-cells s h)

-- what is accepted isn't early
early_none : (a b e l : Bool) → first_of ((a, refusal.NoClip) ∷ (b, refusal.ShapeDiffers) ∷ (e || l, refusal.OutsideClip) ∷ []) ≡ None → e ≡ false
early_none a b false l h = refl
early_none true b true l h = absurd cc
early_none false true true l h = absurd cc
early_none false false true l h = absurd cc

pub not_early : {F : Type 0} (lib : Library F) (xs : List Side) (early : Bool) → first_of (not_taken lib xs early) ≡ None → early ≡ false
not_early lib xs early h = early_none (list_any (names_no_clip lib) xs) (list_any (differs lib) xs) early (list_any (is_late lib) xs) h

-- a segment whose sides move on
pub cells-slipped_on : (s : Segment) (by : ℕ) → cells_of (record { first = side_at s.first by; len = s.len; mix = s.mix }) ≡ (slipped (pos by) (cells_of s)).line
cells-slipped_on s by =
    same_runs (cell_at (record { first = side_at s.first by; len = s.len; mix = s.mix })) (λ (k : ℕ). record { side = side_at (side_at s.first k) by; mix = mix_at s.mix k; is_head = k == 0 }) 0 0 s.len (λ k l.
    let e : by + (0 + k) ≡ (0 + k) + by = omega arith in
    let sides : side_at (side_at s.first by) (0 + k) ≡ side_at (side_at s.first (0 + k)) by = side_at-side_at s.first by (0 + k) ∙ ap (side_at s.first) e ∙ sym (side_at-side_at s.first (0 + k) by) in
    cc)
    ∙ sym (map-run (λ (c : Cell). record { side = side_at c.side by; mix = c.mix; is_head = c.is_head }) (cell_at s) 0 s.len)

any-never : {A : Type 0} (xs : List A) → list_any (λ x. false) xs ≡ false
any-never [] = refl
any-never (x ∷ xs) = any-never xs

taken-slipped_on : (s : Segment) (by : ℕ) → (slipped (pos by) (cells_of s)).taken ≡ sides_from s.first by s.len
taken-slipped_on s by =
    map-run (λ (c : Cell). side_at c.side by) (cell_at s) 0 s.len
    ∙ same_runs (λ (k : ℕ). side_at (side_at s.first k) by) (side_at s.first) 0 by s.len (λ k l.
    let e : (0 + k) + by ≡ by + k = omega arith in
    side_at-side_at s.first (0 + k) by ∙ ap (side_at s.first) e)

pub against-slipped_on : {F : Type 0} (lib : Library F) (s : Segment) (by : ℕ) → first_of (against lib (slipped (pos by) (cells_of s))) ≡ first_of (not_taken lib (sides_from s.first by s.len) false)
against-slipped_on lib s by =
    ap (λ (xs : List Side). first_of (not_taken lib xs (list_any (λ (c : Cell). false) (cells_of s)))) (taken-slipped_on s by)
    ∙ ap (λ (b : Bool). first_of (not_taken lib (sides_from s.first by s.len) b)) (any-never (cells_of s))

pub IsPiece-slipped_on : (s : Segment) (by : ℕ) → IsPiece s → Reaches s.first (by + s.len) → IsPiece (record { first = side_at s.first by; len = s.len; mix = s.mix })
IsPiece-slipped_on s by p r = record { formed = p.formed; side = Reaches-later s.first by s.len (by + s.len) (omega arith) r; mix = p.mix }

-- a segment that shows a clip from a frame on
shown-run : (s : Segment) (clip first at from n : ℕ) → at ≡ first + from → run (cell_at (record { first = side.Clip clip first; len = s.len; mix = s.mix })) from n ≡ shown_from clip at (run (cell_at s) from n)
shown-run s clip first at from zero e = refl
shown-run s clip first at from (suc n) e = let rest = shown-run s clip first (at + 1) (from + 1) n (omega arith) in cc

pub cells-relinked : (s : Segment) (clip first : ℕ) → cells_of (record { first = side.Clip clip first; len = s.len; mix = s.mix }) ≡ shown_from clip first (cells_of s)
cells-relinked s clip first = shown-run s clip first first 0 s.len (omega arith)

pub against-relinked : {F : Type 0} (lib : Library F) (s : Segment) (clip first : ℕ) → first_of (against lib (relinked clip first (cells_of s))) ≡ first_of (not_taken lib (sides_from (side.Clip clip first) 0 s.len) false)
against-relinked lib s clip first = ap (λ (k : ℕ). first_of (not_taken lib (sides_from (side.Clip clip first) 0 k) false)) (length-cells_of s)

pub IsPiece-relinked : (s : Segment) (x : Side) → IsPiece s → Reaches x (0 + s.len) → IsPiece (record { first = x; len = s.len; mix = s.mix })
IsPiece-relinked s x p r = record { formed = p.formed; side = Reaches-less x (0 + s.len) s.len (omega arith) r; mix = p.mix }

-- a segment whose sides move back
back_along : (by : ℕ) (x : Side) (k : ℕ) → is_early by x ≡ false → side_at (side_before by x) k ≡ side_before by (side_at x k)
back_along by side.Black k e = refl
back_along by (side.Clip c f) k e =
    let h : by ≤ f = grind (arith, nat_tests) in
    let n : (f - by) + k ≡ (f + k) - by = omega arith in
    ap (side.Clip c) n

pub cells-slipped_back : (s : Segment) (n : ℕ) → is_early (n + 1) s.first ≡ false → cells_of (record { first = side_before (n + 1) s.first; len = s.len; mix = s.mix }) ≡ (slipped (negsuc n) (cells_of s)).line
cells-slipped_back s n early =
    same_runs (cell_at (record { first = side_before (n + 1) s.first; len = s.len; mix = s.mix })) (λ (k : ℕ). record { side = side_before (n + 1) (side_at s.first k); mix = mix_at s.mix k; is_head = k == 0 }) 0 0 s.len (λ k l.
    let sides = back_along (n + 1) s.first (0 + k) early in
    cc)
    ∙ sym (map-run (λ (c : Cell). record { side = side_before (n + 1) c.side; mix = c.mix; is_head = c.is_head }) (cell_at s) 0 s.len)

early-step : (by : ℕ) (x : Side) (k : ℕ) → (is_early by (side_at x k) || is_early by (side_at x (k + 1))) ≡ is_early by (side_at x k)
early-step by side.Black k = refl
early-step by (side.Clip c f) k = grind (arith, nat_tests)

or-no : (a : Bool) → (a || false) ≡ a
or-no true = refl
or-no false = refl

any-early : (s : Segment) (by from n : ℕ) → list_any (λ (c : Cell). is_early by c.side) (run (cell_at s) from (suc n)) ≡ is_early by (side_at s.first from)
any-early s by from zero = or-no (is_early by (side_at s.first from))
any-early s by from (suc n) =
    let rest = any-early s by (from + 1) n in
    let step = early-step by s.first from in
    cc

is_early-cells : (s : Segment) (by : ℕ) → 1 ≤ s.len → list_any (λ (c : Cell). is_early by c.side) (cells_of s) ≡ is_early by s.first
is_early-cells s by h =
    let e : s.len ≡ suc (s.len - 1) = omega arith in
    ap (λ (k : ℕ). list_any (λ (c : Cell). is_early by c.side) (run (cell_at s) 0 k)) e
    ∙ any-early s by 0 (s.len - 1)
    ∙ ap (is_early by) (side_at-zero s.first)

same_refusal : {F : Type 0} (lib : Library F) (clip : ℕ) (f g : ℕ → ℕ) (n : ℕ) → first_of (not_taken lib (run (λ k. side.Clip clip (f k)) 0 (suc n)) true) ≡ first_of (not_taken lib (run (λ k. side.Clip clip (g k)) 0 (suc n)) true)
same_refusal lib clip f g n =
    let a = any-same (names_no_clip lib) (λ (k : ℕ). side.Clip clip (f k)) (nat_le lib.clips clip) 0 n (λ k. refl) in
    let b = any-same (names_no_clip lib) (λ (k : ℕ). side.Clip clip (g k)) (nat_le lib.clips clip) 0 n (λ k. refl) in
    let c = any-same (differs lib) (λ (k : ℕ). side.Clip clip (f k)) (nat_lt clip lib.clips && not (lib.fits clip)) 0 n (λ k. refl) in
    let d = any-same (differs lib) (λ (k : ℕ). side.Clip clip (g k)) (nat_lt clip lib.clips && not (lib.fits clip)) 0 n (λ k. refl) in
    cc

early-refusal : {F : Type 0} (lib : Library F) (by : ℕ) (x : Side) (n : ℕ) → is_early by x ≡ true → first_of (not_taken lib (run (λ k. side_before by (side_at x k)) 0 (suc n)) true) ≡ first_of (not_taken lib (sides_from (side_before by x) 0 (suc n)) true)
early-refusal lib by side.Black n e = absurd cc
early-refusal lib by (side.Clip c f) n e = same_refusal lib c (λ k. (f + k) - by) (λ k. (f - by) + k) n

back-refusal : {F : Type 0} (lib : Library F) (by : ℕ) (x : Side) (len : ℕ) (b : Bool) → 1 ≤ len → is_early by x ≡ b → first_of (not_taken lib (run (λ k. side_before by (side_at x k)) 0 len) b) ≡ first_of (not_taken lib (sides_from (side_before by x) 0 len) b)
back-refusal lib by x len true h e =
    let m : len ≡ suc (len - 1) = omega arith in
    ap (λ (k : ℕ). first_of (not_taken lib (run (λ k. side_before by (side_at x k)) 0 k) true)) m
    ∙ early-refusal lib by x (len - 1) e
    ∙ sym (ap (λ (k : ℕ). first_of (not_taken lib (sides_from (side_before by x) 0 k) true)) m)
back-refusal lib by x len false h e =
    ap (λ (xs : List Side). first_of (not_taken lib xs false)) (same_runs (λ (k : ℕ). side_before by (side_at x k)) (side_at (side_before by x)) 0 0 len (λ k l. sym (back_along by x (0 + k) e)))

pub against-slipped_back : {F : Type 0} (lib : Library F) (s : Segment) (n : ℕ) → 1 ≤ s.len → first_of (against lib (slipped (negsuc n) (cells_of s))) ≡ first_of (not_taken lib (sides_from (side_before (n + 1) s.first) 0 s.len) (is_early (n + 1) s.first))
against-slipped_back lib s n h =
    ap (λ (xs : List Side). first_of (not_taken lib xs (list_any (λ (c : Cell). is_early (n + 1) c.side) (cells_of s)))) (map-run (λ (c : Cell). side_before (n + 1) c.side) (cell_at s) 0 s.len)
    ∙ ap (λ (b : Bool). first_of (not_taken lib (run (λ k. side_before (n + 1) (side_at s.first k)) 0 s.len) b)) (is_early-cells s (n + 1) h)
    ∙ back-refusal lib (n + 1) s.first s.len (is_early (n + 1) s.first) h refl

back-reaches_same : (x : Side) (len by : ℕ) → Reaches x len → Reaches (side_before by x) len
back-reaches_same side.Black len by r = tt
back-reaches_same (side.Clip c f) len by r = omega arith

pub IsPiece-slipped_back : (s : Segment) (by : ℕ) → IsPiece s → IsPiece (record { first = side_before by s.first; len = s.len; mix = s.mix })
IsPiece-slipped_back s by p = record { formed = p.formed; side = back-reaches_same s.first s.len by p.side; mix = p.mix }

-- a segment with another dissolve
pub first_of-left : (xs ys : List (Bool × EditRefusal)) (why : EditRefusal) → first_of xs ≡ Some why → first_of (xs ++ ys) ≡ Some why
first_of-left [] ys why e = absurd cc
first_of-left ((true, w) ∷ xs) ys why e = e
first_of-left ((false, w) ∷ xs) ys why e = first_of-left xs ys why e

pub first_of-right : (xs ys : List (Bool × EditRefusal)) → first_of xs ≡ None → first_of (xs ++ ys) ≡ first_of ys
first_of-right [] ys e = refl
first_of-right ((true, w) ∷ xs) ys e = absurd cc
first_of-right ((false, w) ∷ xs) ys e = first_of-right xs ys e

dissolved-run : (s : Segment) (from x : Side) (total k n : ℕ) → x ≡ side_at from 1 → run (cell_at (record { first = s.first; len = s.len; mix = Some (record { from = x; done = 0; steps = total; total = total }) })) k n ≡ dissolved from total k (run (cell_at s) k n)
dissolved-run s from x total k zero e = refl
dissolved-run s from x total k (suc n) e =
    let rest = dissolved-run s from x total (k + 1) n e in
    let turn : 1 + k ≡ k + 1 = omega arith in
    let step : 0 + k + 1 ≡ k + 1 = omega arith in
    let side : side_at x k ≡ side_at from (k + 1) = ap (λ (y : Side). side_at y k) e ∙ side_at-side_at from 1 k ∙ ap (side_at from) turn in
    cc

undissolved-run : (s : Segment) (from : Side) (k n : ℕ) → run (cell_at (record { first = s.first; len = s.len; mix = None })) k n ≡ dissolved from 0 k (run (cell_at s) k n)
undissolved-run s from k zero = refl
undissolved-run s from k (suc n) =
    let rest = undissolved-run s from (k + 1) n in
    let t : nat_lt k 0 ≡ false = grind (arith, nat_tests) in
    cc

pub cells-dissolved : (s before : Segment) (total : ℕ) → 1 ≤ before.len → cells_of (record { first = s.first; len = s.len; mix = Some (record { from = side_at before.first before.len; done = 0; steps = total; total = total }) }) ≡ dissolved (last_side (cells_of before)) total 0 (cells_of s)
cells-dissolved s before total h =
    let z : before.len + 0 ≡ before.len = omega arith in
    dissolved-run s (last_side (cells_of before)) (side_at before.first before.len) total 0 s.len (sym (after-last before 0 h ∙ ap (side_at before.first) z))

pub cells-undissolved : (s : Segment) (from : Side) (total : ℕ) → total ≡ 0 → cells_of (record { first = s.first; len = s.len; mix = None }) ≡ dissolved from total 0 (cells_of s)
cells-undissolved s from total e = undissolved-run s from 0 s.len ∙ ap (λ (k : ℕ). dissolved from k 0 (cells_of s)) (sym e)

pub against-undissolved : {F : Type 0} (lib : Library F) (from : Side) (own : List Cell) (total : ℕ) → total ≡ 0 → first_of (against lib (with_dissolve from total own)) ≡ None
against-undissolved lib from own total e =
    let m : min total (length own) ≡ 0 = omega arith in
    let t : nat_lt (length own) total ≡ false = grind (arith, nat_tests) in
    let u : nat_lt max_mix total ≡ false = grind (arith, nat_tests) in
    let xs : sides_from from 1 (min total (length own)) ≡ [] = ap (run (side_at from) 1) m in
    ap (λ (xs : List Side). first_of (not_taken lib xs false ++ (nat_lt (length own) total || nat_lt max_mix total, refusal.MixTooLong) ∷ [])) xs
    ∙ ap (λ (b : Bool). cond (b || nat_lt max_mix total) (Some refusal.MixTooLong) None) t
    ∙ ap (λ (b : Bool). cond b (Some refusal.MixTooLong) None) u

against-dissolved : {F : Type 0} (lib : Library F) (s before : Segment) (total : ℕ) → 1 ≤ before.len → first_of (against lib (with_dissolve (last_side (cells_of before)) total (cells_of s))) ≡ first_of (not_taken lib (sides_from before.first before.len (min total s.len)) false ++ (nat_lt s.len total || nat_lt max_mix total, refusal.MixTooLong) ∷ [])
against-dissolved lib s before total h =
    ap (λ (k : ℕ). first_of (not_taken lib (sides_from (last_side (cells_of before)) 1 (min total k)) false ++ (nat_lt k total || nat_lt max_mix total, refusal.MixTooLong) ∷ [])) (length-cells_of s)
    ∙ ap (λ (xs : List Side). first_of (not_taken lib xs false ++ (nat_lt s.len total || nat_lt max_mix total, refusal.MixTooLong) ∷ [])) (sides-after before (min total s.len) h)

pub refused-dissolve : {F : Type 0} (lib : Library F) (s before : Segment) (total : ℕ) (why : EditRefusal) → 1 ≤ before.len → first_of (not_taken lib (sides_from before.first before.len (min total s.len)) false) ≡ Some why → first_of (against lib (with_dissolve (last_side (cells_of before)) total (cells_of s))) ≡ Some why
refused-dissolve lib s before total why h e = against-dissolved lib s before total h ∙ first_of-left (not_taken lib (sides_from before.first before.len (min total s.len)) false) ((nat_lt s.len total || nat_lt max_mix total, refusal.MixTooLong) ∷ []) why e

pub refused-long : {F : Type 0} (lib : Library F) (s before : Segment) (total : ℕ) → 1 ≤ before.len → first_of (not_taken lib (sides_from before.first before.len (min total s.len)) false) ≡ None → ((s.len < total) ⊎ (max_mix < total)) → first_of (against lib (with_dissolve (last_side (cells_of before)) total (cells_of s))) ≡ Some refusal.MixTooLong
refused-long lib s before total h e long =
    let t : (nat_lt s.len total || nat_lt max_mix total) ≡ true = grind (arith, nat_tests) in
    against-dissolved lib s before total h
    ∙ first_of-right (not_taken lib (sides_from before.first before.len (min total s.len)) false) ((nat_lt s.len total || nat_lt max_mix total, refusal.MixTooLong) ∷ []) e
    ∙ ap (λ (b : Bool). cond b (Some refusal.MixTooLong) None) t

pub can-dissolve : {F : Type 0} (lib : Library F) (s before : Segment) (total : ℕ) → 1 ≤ before.len → first_of (not_taken lib (sides_from before.first before.len (min total s.len)) false) ≡ None → total ≤ s.len → total ≤ max_mix → first_of (against lib (with_dissolve (last_side (cells_of before)) total (cells_of s))) ≡ None
can-dissolve lib s before total h e short few =
    let t : (nat_lt s.len total || nat_lt max_mix total) ≡ false = grind (arith, nat_tests) in
    against-dissolved lib s before total h
    ∙ first_of-right (not_taken lib (sides_from before.first before.len (min total s.len)) false) ((nat_lt s.len total || nat_lt max_mix total, refusal.MixTooLong) ∷ []) e
    ∙ ap (λ (b : Bool). cond b (Some refusal.MixTooLong) None) t

pub IsPiece-dissolved : (s before : Segment) (total : ℕ) → IsPiece s → 1 ≤ total → total ≤ s.len → Reaches before.first (before.len + min total s.len) → IsPiece (record { first = s.first; len = s.len; mix = Some (record { from = side_at before.first before.len; done = 0; steps = total; total = total }) })
IsPiece-dissolved s before total p some short r = record {
  formed = (p.formed.0, (some, omega arith));
  side = p.side;
  mix = (short, Reaches-later before.first before.len total (before.len + min total s.len) (omega arith) r);
}

pub IsPiece-undissolved : (s : Segment) → IsPiece s → IsPiece (record { first = s.first; len = s.len; mix = None })
IsPiece-undissolved s p = record { formed = (p.formed.0, tt); side = p.side; mix = tt }

-- what the code finds, as the proposals have it
same_first : {F : Type 0} (lib : Library F) (first x : Side) (early b : Bool) (skip n : ℕ) → first ≡ x → early ≡ b → first_of (not_taken lib (sides_from x skip n) b) ≡ first_of (not_taken lib (sides_from first skip n) early)
same_first lib first x early b skip n e f =
    ap (λ (y : Side). first_of (not_taken lib (sides_from y skip n) b)) (sym e)
    ∙ ap (λ (c : Bool). first_of (not_taken lib (sides_from first skip n) c)) (sym f)

pub lengthened_in_err : {F : Type 0} (lib : Library F) (s : Segment) (by : ℕ) (first : Side) (early : Bool) (why : EditRefusal) → IsPiece s → first ≡ side_before by s.first → early ≡ is_early by s.first → first_of (not_taken lib (sides_from first 0 by) early) ≡ Some why → first_of (against lib (lengthened_in by (cells_of s))) ≡ Some why
lengthened_in_err lib s by first early why p e f r = against-lengthened_in lib s by p.formed.0 ∙ same_first lib first (side_before by s.first) early (is_early by s.first) 0 by e f ∙ r

pub lengthened_in_ok : {F : Type 0} (lib : Library F) (s : Segment) (by : ℕ) (first : Side) (early : Bool) → IsPiece s → 1 ≤ by → first ≡ side_before by s.first → early ≡ is_early by s.first → first_of (not_taken lib (sides_from first 0 by) early) ≡ None → Reshapes lib (lengthened_in by (cells_of s)) (Ok (record { first = first; len = s.len + by; mix = None }))
lengthened_in_ok lib s by first early p some e f r =
    let ok = same_first lib first (side_before by s.first) early (is_early by s.first) 0 by e f ∙ r in
    let late = not_early lib (sides_from (side_before by s.first) 0 by) (is_early by s.first) ok in
    subst (λ (x : Side). Reshapes lib (lengthened_in by (cells_of s)) (Ok (record { first = x; len = s.len + by; mix = None }))) (sym e)
    (against-lengthened_in lib s by p.formed.0 ∙ ok, IsPiece-lengthened_in s by p late, cells-lengthened_in s by p.formed.0 some late)

pub lengthened_out_err : {F : Type 0} (lib : Library F) (s : Segment) (by : ℕ) (why : EditRefusal) → IsPiece s → first_of (not_taken lib (sides_from s.first s.len by) false) ≡ Some why → first_of (against lib (lengthened_out by (cells_of s))) ≡ Some why
lengthened_out_err lib s by why p r = against-lengthened_out lib s by p.formed.0 ∙ r

pub lengthened_out_ok : {F : Type 0} (lib : Library F) (s : Segment) (by : ℕ) → IsPiece s → Reaches s.first (s.len + by) → first_of (not_taken lib (sides_from s.first s.len by) false) ≡ None → Reshapes lib (lengthened_out by (cells_of s)) (Ok (record { first = s.first; len = s.len + by; mix = s.mix }))
lengthened_out_ok lib s by p reach r = (against-lengthened_out lib s by p.formed.0 ∙ r, IsPiece-lengthened_out s by p reach, cells-lengthened_out s by p)

pub slipped_on_err : {F : Type 0} (lib : Library F) (s : Segment) (by : ℕ) (why : EditRefusal) → first_of (not_taken lib (sides_from s.first by s.len) false) ≡ Some why → first_of (against lib (slipped (pos by) (cells_of s))) ≡ Some why
slipped_on_err lib s by why r = against-slipped_on lib s by ∙ r

pub slipped_on_ok : {F : Type 0} (lib : Library F) (s : Segment) (by : ℕ) (first : Side) → IsPiece s → first ≡ side_at s.first by → Reaches s.first (by + s.len) → first_of (not_taken lib (sides_from s.first by s.len) false) ≡ None → Reshapes lib (slipped (pos by) (cells_of s)) (Ok (record { first = first; len = s.len; mix = s.mix }))
slipped_on_ok lib s by first p e reach r =
    subst (λ (x : Side). Reshapes lib (slipped (pos by) (cells_of s)) (Ok (record { first = x; len = s.len; mix = s.mix }))) (sym e)
    (against-slipped_on lib s by ∙ r, IsPiece-slipped_on s by p reach, cells-slipped_on s by)

pub slipped_back_err : {F : Type 0} (lib : Library F) (s : Segment) (by n : ℕ) (first : Side) (early : Bool) (why : EditRefusal) → IsPiece s → n + 1 ≡ by → first ≡ side_before by s.first → early ≡ is_early by s.first → first_of (not_taken lib (sides_from first 0 s.len) early) ≡ Some why → first_of (against lib (slipped (negsuc n) (cells_of s))) ≡ Some why
slipped_back_err lib s by n first early why p m e f r =
    against-slipped_back lib s n p.formed.0
    ∙ ap (λ (k : ℕ). first_of (not_taken lib (sides_from (side_before k s.first) 0 s.len) (is_early k s.first))) m
    ∙ same_first lib first (side_before by s.first) early (is_early by s.first) 0 s.len e f ∙ r

pub slipped_back_ok : {F : Type 0} (lib : Library F) (s : Segment) (by n : ℕ) (first : Side) (early : Bool) → IsPiece s → n + 1 ≡ by → first ≡ side_before by s.first → early ≡ is_early by s.first → first_of (not_taken lib (sides_from first 0 s.len) early) ≡ None → Reshapes lib (slipped (negsuc n) (cells_of s)) (Ok (record { first = first; len = s.len; mix = s.mix }))
slipped_back_ok lib s by n first early p m e f r =
    let g : first ≡ side_before (n + 1) s.first = e ∙ ap (λ (k : ℕ). side_before k s.first) (sym m) in
    let h : early ≡ is_early (n + 1) s.first = f ∙ ap (λ (k : ℕ). is_early k s.first) (sym m) in
    let ok = same_first lib first (side_before (n + 1) s.first) early (is_early (n + 1) s.first) 0 s.len g h ∙ r in
    let late = not_early lib (sides_from (side_before (n + 1) s.first) 0 s.len) (is_early (n + 1) s.first) ok in
    subst (λ (x : Side). Reshapes lib (slipped (negsuc n) (cells_of s)) (Ok (record { first = x; len = s.len; mix = s.mix }))) (sym g)
    (against-slipped_back lib s n p.formed.0 ∙ ok, IsPiece-slipped_back s (n + 1) p, cells-slipped_back s n late)

pub relinked_err : {F : Type 0} (lib : Library F) (s : Segment) (clip first : ℕ) (why : EditRefusal) → first_of (not_taken lib (sides_from (side.Clip clip first) 0 s.len) false) ≡ Some why → first_of (against lib (relinked clip first (cells_of s))) ≡ Some why
relinked_err lib s clip first why r = against-relinked lib s clip first ∙ r

pub relinked_ok : {F : Type 0} (lib : Library F) (s : Segment) (clip first : ℕ) → IsPiece s → Reaches (side.Clip clip first) (0 + s.len) → first_of (not_taken lib (sides_from (side.Clip clip first) 0 s.len) false) ≡ None → Reshapes lib (relinked clip first (cells_of s)) (Ok (record { first = side.Clip clip first; len = s.len; mix = s.mix }))
relinked_ok lib s clip first p reach r = (against-relinked lib s clip first ∙ r, IsPiece-relinked s (side.Clip clip first) p reach, cells-relinked s clip first)

pub dissolved_ok : {F : Type 0} (lib : Library F) (s before : Segment) (total : ℕ) (from : Side) → IsPiece s → IsPiece before → from ≡ side_at before.first before.len → 1 ≤ total → total ≤ s.len → total ≤ max_mix → Reaches before.first (before.len + min total s.len) → first_of (not_taken lib (sides_from before.first before.len (min total s.len)) false) ≡ None → Reshapes lib (with_dissolve (last_side (cells_of before)) total (cells_of s)) (Ok (record { first = s.first; len = s.len; mix = Some (record { from = from; done = 0; steps = total; total = total }) }))
dissolved_ok lib s before total from p q e some short few reach r =
    subst (λ (x : Side). Reshapes lib (with_dissolve (last_side (cells_of before)) total (cells_of s)) (Ok (record { first = s.first; len = s.len; mix = Some (record { from = x; done = 0; steps = total; total = total }) }))) (sym e)
    (can-dissolve lib s before total q.formed.0 r short few, IsPiece-dissolved s before total p some short reach, cells-dissolved s before total q.formed.0)

pub undissolved_ok : {F : Type 0} (lib : Library F) (s : Segment) (from : Side) (total : ℕ) → IsPiece s → total ≡ 0 → Reshapes lib (with_dissolve from total (cells_of s)) (Ok (record { first = s.first; len = s.len; mix = None }))
undissolved_ok lib s from total p e = (against-undissolved lib from (cells_of s) total e, IsPiece-undissolved s p, cells-undissolved s from total e)

-- the two parts of a shortened segment
pub shortened_past : (s : Segment) (by : ℕ) → s.len ≤ by → nat_le (length (cells_of s)) by ≡ true
shortened_past s by h = let len = length-cells_of s in grind (arith, nat_tests)

pub shortened_within : (s : Segment) (by : ℕ) → by < s.len → nat_le (length (cells_of s)) by ≡ false
shortened_within s by h = let len = length-cells_of s in grind (arith, nat_tests)

pub shortened_in_ok : (s new : Segment) (by : ℕ) → IsPiece s → by < s.len → new ≡ back_of s by → Shortens (shortened_in by (cells_of s)) (Ok new)
shortened_in_ok s new by p h e =
    subst (λ (x : Segment). Shortens (shortened_in by (cells_of s)) (Ok x)) (sym e)
    (shortened_within s by h, IsPiece-back s by h p, cells_of-back s by h)

pub shortened_out_ok : (s new : Segment) (by : ℕ) → IsPiece s → by < s.len → new ≡ front_of s (s.len - by) → Shortens (shortened_out by (cells_of s)) (Ok new)
shortened_out_ok s new by p h e =
    let len = length-cells_of s in
    subst (λ (x : Segment). Shortens (shortened_out by (cells_of s)) (Ok x)) (sym e) (
      shortened_within s by h,
      IsPiece-front s (s.len - by) (omega arith) (omega arith) p,
      cells_of-front s (s.len - by) (omega arith) ∙ ap (λ (k : ℕ). take (k - by) (cells_of s)) (sym len),
    )

-- a shortened segment takes no frames
pub against-shortened : {F : Type 0} (lib : Library F) (past : Bool) (line : List Cell) → first_of (against lib (rearranged past line)) ≡ cond past (Some refusal.PastEnd) None
against-shortened lib true line = refl
against-shortened lib false line = refl

pub shortens-reshapes : {F : Type 0} (lib : Library F) (past : Bool) (line : List Cell) (r : Result Segment EditRefusal) → Shortens (rearranged past line) r → Reshapes lib (rearranged past line) r
shortens-reshapes lib past line (Ok s) h = (against-shortened lib past line ∙ ap (λ (b : Bool). cond b (Some refusal.PastEnd) None) h.0, h.1, h.2)
shortens-reshapes lib past line (Err why) h = against-shortened lib past line ∙ ap (λ (b : Bool). cond b (Some refusal.PastEnd) None) h.0 ∙ ap (λ (w : EditRefusal). Some w) (sym h.1)

-- signed distances
pub trimmed_in-pos : {F : Type 0} (lib : Library F) (by : ℤ) (own : List Cell) (r : Result Segment EditRefusal) → pos 0 ≤ℤ by → Shortens (shortened_in (unsigned_abs by) own) r → Reshapes lib (trimmed_in by own) r
trimmed_in-pos lib (pos n) own r h s = shortens-reshapes lib (nat_le (length own) n) (headed (drop n own)) r s
trimmed_in-pos lib (negsuc n) own r h s = absurd (omega (arith, ints))

pub trimmed_in-neg : {F : Type 0} (lib : Library F) (by : ℤ) (own : List Cell) (r : Result Segment EditRefusal) → by <ℤ pos 0 → Reshapes lib (lengthened_in (unsigned_abs by) own) r → Reshapes lib (trimmed_in by own) r
trimmed_in-neg lib (pos n) own r h s = absurd (omega (arith, ints))
trimmed_in-neg lib (negsuc n) own r h s = let e : unsigned_abs (negsuc n) ≡ n + 1 = omega (arith, ints) in subst (λ (k : ℕ). Reshapes lib (lengthened_in k own) r) e s

pub trimmed_out-pos : {F : Type 0} (lib : Library F) (by : ℤ) (own : List Cell) (r : Result Segment EditRefusal) → pos 0 ≤ℤ by → Shortens (shortened_out (unsigned_abs by) own) r → Reshapes lib (trimmed_out by own) r
trimmed_out-pos lib (pos n) own r h s = shortens-reshapes lib (nat_le (length own) n) (take (length own - n) own) r s
trimmed_out-pos lib (negsuc n) own r h s = absurd (omega (arith, ints))

pub trimmed_out-neg : {F : Type 0} (lib : Library F) (by : ℤ) (own : List Cell) (r : Result Segment EditRefusal) → by <ℤ pos 0 → Reshapes lib (lengthened_out (unsigned_abs by) own) r → Reshapes lib (trimmed_out by own) r
trimmed_out-neg lib (pos n) own r h s = absurd (omega (arith, ints))
trimmed_out-neg lib (negsuc n) own r h s = let e : unsigned_abs (negsuc n) ≡ n + 1 = omega (arith, ints) in subst (λ (k : ℕ). Reshapes lib (lengthened_out k own) r) e s

pub slipped-pos : {F : Type 0} (lib : Library F) (by : ℤ) (own : List Cell) (r : Result Segment EditRefusal) → pos 0 ≤ℤ by → Reshapes lib (slipped (pos (unsigned_abs by)) own) r → Reshapes lib (slipped by own) r
slipped-pos lib (pos n) own r h s = s
slipped-pos lib (negsuc n) own r h s = absurd (omega (arith, ints))

pub slipped-neg : {F : Type 0} (lib : Library F) (by : ℤ) (own : List Cell) (r : Result Segment EditRefusal) → by <ℤ pos 0 → Reshapes lib (slipped (negsuc (unsigned_abs by - 1)) own) r → Reshapes lib (slipped by own) r
slipped-neg lib (pos n) own r h s = absurd (omega (arith, ints))
slipped-neg lib (negsuc n) own r h s = let e : unsigned_abs (negsuc n) - 1 ≡ n = omega (arith, ints) in subst (λ (k : ℕ). Reshapes lib (slipped (negsuc k) own) r) e s

pub neg-some : (by : ℤ) → by <ℤ pos 0 → 1 ≤ unsigned_abs by
neg-some (pos n) h = absurd (omega (arith, ints))
neg-some (negsuc n) h = omega (arith, ints)
