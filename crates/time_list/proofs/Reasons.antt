-- Why frames that follow one another can't be taken.
use Rattle.std.proofs.Common.{◌≡◌, ℕ, zero, suc, ◌+◌, ◌-◌, ◌<◌, ◌≤◌, cond, Bool, true, false, not, ◌||◌, ◌&&◌, Some, None, refl, arith}
use Rattle.std.specs.Prelude.{nat_lt, nat_le}
use Rattle.std.specs.List.{list_any}
use Rattle.std.proofs.lemmas.Bool.Decides.{nat_tests}
use Rattle.tl_model.specs.Media.{Library}
use Rattle.tl_model.specs.declared.recipe.Side.{Side}
use Rattle.tl_model.specs.declared.recipe.Side.TheVariants as side
use Rattle.tl_model.specs.declared.edit.EditRefusal.TheVariants as refusal
use Rattle.tl_model.specs.Cells.{side_at, run}
use Rattle.time_list.specs.Apply.{names_no_clip, differs, is_late, first_of, not_taken}
use Rattle.time_list.specs.Edits.{sides_from}

-- a test that has one answer along a run
pub any-same : {A : Type 0} (p : A → Bool) (f : ℕ → A) (b : Bool) (from n : ℕ) → ((k : ℕ) → p (f k) ≡ b) → list_any p (run f from (suc n)) ≡ b
any-same p f true from n h = let e = h from in cc
any-same p f false from zero h = let e = h from in cc
any-same p f false from (suc n) h = let e = h from in let rest = any-same p f false (from + 1) n h in cc

pub any-late : {F : Type 0} (lib : Library F) (clip frame from n : ℕ) → clip < lib.clips → list_any (is_late lib) (run (side_at (side.Clip clip frame)) from (suc n)) ≡ nat_lt (lib.frames clip) (frame + (from + suc n))
any-late lib clip frame from zero h =
    let t : nat_lt clip lib.clips ≡ true = grind (arith, nat_tests) in
    let e : (nat_le (lib.frames clip) (frame + from) || false) ≡ nat_lt (lib.frames clip) (frame + (from + 1)) = grind (arith, nat_tests) in
    cc
any-late lib clip frame from (suc n) h =
    let t : nat_lt clip lib.clips ≡ true = grind (arith, nat_tests) in
    let rest = any-late lib clip frame (from + 1) n h in
    let e : (nat_le (lib.frames clip) (frame + from) || nat_lt (lib.frames clip) (frame + ((from + 1) + suc n))) ≡ nat_lt (lib.frames clip) (frame + (from + suc (suc n))) = grind (arith, nat_tests) in
    cc

-- the answers over a run of frames of a clip
pub refused-no_clip : {F : Type 0} (lib : Library F) (clip frame skip n : ℕ) (early : Bool) → lib.clips ≤ clip → first_of (not_taken lib (sides_from (side.Clip clip frame) skip (suc n)) early) ≡ Some refusal.NoClip
refused-no_clip lib clip frame skip n early h =
    let t : nat_le lib.clips clip ≡ true = grind (arith, nat_tests) in
    let a = any-same (names_no_clip lib) (side_at (side.Clip clip frame)) true skip n (λ k. t) in
    cc

clip_is : {F : Type 0} (lib : Library F) (clip frame skip n : ℕ) → clip < lib.clips → list_any (names_no_clip lib) (sides_from (side.Clip clip frame) skip (suc n)) ≡ false
clip_is lib clip frame skip n h =
    let t : nat_le lib.clips clip ≡ false = grind (arith, nat_tests) in
    any-same (names_no_clip lib) (side_at (side.Clip clip frame)) false skip n (λ k. t)

shape_is : {F : Type 0} (lib : Library F) (clip frame skip n : ℕ) (b : Bool) → clip < lib.clips → lib.fits clip ≡ b → list_any (differs lib) (sides_from (side.Clip clip frame) skip (suc n)) ≡ not b
shape_is lib clip frame skip n b h fits =
    let t : nat_lt clip lib.clips ≡ true = grind (arith, nat_tests) in
    let e : (nat_lt clip lib.clips && not (lib.fits clip)) ≡ not b = cc in
    any-same (differs lib) (side_at (side.Clip clip frame)) (not b) skip n (λ k. e)

pub refused-shape : {F : Type 0} (lib : Library F) (clip frame skip n : ℕ) (early : Bool) → clip < lib.clips → lib.fits clip ≡ false → first_of (not_taken lib (sides_from (side.Clip clip frame) skip (suc n)) early) ≡ Some refusal.ShapeDiffers
refused-shape lib clip frame skip n early h fits =
    let a = clip_is lib clip frame skip n h in
    let b = shape_is lib clip frame skip n false h fits in
    cc

pub refused-early : {F : Type 0} (lib : Library F) (clip frame skip n : ℕ) (early : Bool) → clip < lib.clips → lib.fits clip ≡ true → early ≡ true → first_of (not_taken lib (sides_from (side.Clip clip frame) skip (suc n)) early) ≡ Some refusal.OutsideClip
refused-early lib clip frame skip n early h fits e =
    let a = clip_is lib clip frame skip n h in
    let b = shape_is lib clip frame skip n true h fits in
    cc

pub refused-late : {F : Type 0} (lib : Library F) (clip frame skip n : ℕ) (early : Bool) → clip < lib.clips → lib.fits clip ≡ true → early ≡ false → lib.frames clip < frame + (skip + suc n) → first_of (not_taken lib (sides_from (side.Clip clip frame) skip (suc n)) early) ≡ Some refusal.OutsideClip
refused-late lib clip frame skip n early h fits e late =
    let a = clip_is lib clip frame skip n h in
    let b = shape_is lib clip frame skip n true h fits in
    let c = any-late lib clip frame skip n h in
    let t : nat_lt (lib.frames clip) (frame + (skip + suc n)) ≡ true = grind (arith, nat_tests) in
    cc

pub can-take : {F : Type 0} (lib : Library F) (clip frame skip n : ℕ) (early : Bool) → clip < lib.clips → lib.fits clip ≡ true → early ≡ false → frame + (skip + suc n) ≤ lib.frames clip → first_of (not_taken lib (sides_from (side.Clip clip frame) skip (suc n)) early) ≡ None
can-take lib clip frame skip n early h fits e late =
    let a = clip_is lib clip frame skip n h in
    let b = shape_is lib clip frame skip n true h fits in
    let c = any-late lib clip frame skip n h in
    let t : nat_lt (lib.frames clip) (frame + (skip + suc n)) ≡ false = grind (arith, nat_tests) in
    cc

-- black is always there
pub black-none : {F : Type 0} (lib : Library F) (skip n : ℕ) (p : Side → Bool) → p side.Black ≡ false → list_any p (run (side_at side.Black) skip n) ≡ false
black-none lib skip zero p h = refl
black-none lib skip (suc n) p h = let rest = black-none lib (skip + 1) n p h in cc

pub black-is : {F : Type 0} (lib : Library F) (skip n : ℕ) (early : Bool) → first_of (not_taken lib (sides_from side.Black skip n) early) ≡ cond early (Some refusal.OutsideClip) None
black-is lib skip n true =
    let a = black-none lib skip n (names_no_clip lib) refl in
    let b = black-none lib skip n (differs lib) refl in
    cc
black-is lib skip n false =
    let a = black-none lib skip n (names_no_clip lib) refl in
    let b = black-none lib skip n (differs lib) refl in
    let c = black-none lib skip n (is_late lib) refl in
    cc

-- the number of frames as the code has it
pub some-more : (n : ℕ) → 1 ≤ n → n ≡ suc (n - 1)
some-more n h = omega arith
