use Rattle.std.proofs.Common.{◌≡◌, ℕ, suc, ◌+◌, ◌-◌, ◌<◌, ◌≤◌, Bool, true, false, Option, ap, ◌∙◌, arith}
use Rattle.tl_model.specs.Media.{Library}
use Rattle.tl_model.specs.declared.recipe.Side.{Side}
use Rattle.tl_model.specs.declared.recipe.Side.TheVariants as side
use Rattle.tl_model.specs.declared.edit.EditRefusal.{EditRefusal}
use Rattle.time_list.specs.Apply.{first_of, not_taken}
use Rattle.time_list.specs.Edits.{sides_from}
use Rattle.time_list.proofs.Reasons.{refused-shape, refused-early, refused-late, can-take, black-is}
use Rattle.time_list.proofs.taken.check.Goals as goal

at_clip : {F : Type 0} (lib : Library F) (first : Side) (clip frame skip count : ℕ) (early : Bool) (why : Option EditRefusal) → first ≡ side.Clip clip frame → 1 ≤ count → ((n : ℕ) → count ≡ suc n → first_of (not_taken lib (sides_from (side.Clip clip frame) skip (suc n)) early) ≡ why) → first_of (not_taken lib (sides_from first skip count) early) ≡ why
at_clip lib first clip frame skip count early why is some h =
    let e : count ≡ suc (count - 1) = omega arith in
    ap (λ (s : Side). first_of (not_taken lib (sides_from s skip count) early)) is
    ∙ ap (λ (k : ℕ). first_of (not_taken lib (sides_from (side.Clip clip frame) skip k) early)) e
    ∙ h (count - 1) e

at_black : {F : Type 0} (lib : Library F) (first : Side) (skip count : ℕ) (early : Bool) (why : Option EditRefusal) → first ≡ side.Black → first_of (not_taken lib (sides_from side.Black skip count) early) ≡ why → first_of (not_taken lib (sides_from first skip count) early) ≡ why
at_black lib first skip count early why is h = ap (λ (s : Side). first_of (not_taken lib (sides_from s skip count) early)) is ∙ h

pub returns-then-early-clause-reason : goal.returns-then-early-clause-reason
returns-then-early-clause-reason g c =
    let lib = g.M.Media.library c.args.media.now in
    at_black lib c.args.first c.args.skip c.args.count c.args.early _ c.in-Black.is (let b = black-is lib c.args.skip c.args.count c.args.early in cc)

pub returns-else-early-clause-reason : goal.returns-else-early-clause-reason
returns-else-early-clause-reason g c =
    let lib = g.M.Media.library c.args.media.now in
    at_black lib c.args.first c.args.skip c.args.count c.args.early _ c.in-Black.is (let b = black-is lib c.args.skip c.args.count c.args.early in cc)

pub returns-then-not-fits-clause-reason : goal.returns-then-not-fits-clause-reason
returns-then-not-fits-clause-reason g c =
    let lib = g.M.Media.library c.args.media.now in
    let less : c.in-Clip.clip < lib.clips = omega (arith, c.if-clip-clips.false, c.clips.ensures) in
    let fits : lib.fits c.in-Clip.clip ≡ false = cc in
    at_clip lib c.args.first c.in-Clip.clip c.in-Clip.frame c.args.skip c.args.count c.args.early _ c.in-Clip.is c.requires (λ n e. refused-shape lib c.in-Clip.clip c.in-Clip.frame c.args.skip n c.args.early less fits)

pub returns-then-early-2-clause-reason : goal.returns-then-early-2-clause-reason
returns-then-early-2-clause-reason g c =
    let lib = g.M.Media.library c.args.media.now in
    let less : c.in-Clip.clip < lib.clips = omega (arith, c.if-clip-clips.false, c.clips.ensures) in
    let fits : lib.fits c.in-Clip.clip ≡ true = cc in
    at_clip lib c.args.first c.in-Clip.clip c.in-Clip.frame c.args.skip c.args.count c.args.early _ c.in-Clip.is c.requires (λ n e. refused-early lib c.in-Clip.clip c.in-Clip.frame c.args.skip n c.args.early less fits c.if-early-2.true)

pub returns-then-end-from-clause-reason : goal.returns-then-end-from-clause-reason
returns-then-end-from-clause-reason g c =
    let lib = g.M.Media.library c.args.media.now in
    let less : c.in-Clip.clip < lib.clips = omega (arith, c.if-clip-clips.false, c.clips.ensures) in
    let fits : lib.fits c.in-Clip.clip ≡ true = cc in
    let late : lib.frames c.in-Clip.clip < c.in-Clip.frame + (c.args.skip + c.args.count) = omega (arith, c.if-end-from.true, c.frames.ensures, c.from.ensures, c.from-in-Clip.ensures, c.from-in-Clip-2.ensures, c.from-in-Clip-3.ensures) in
    at_clip lib c.args.first c.in-Clip.clip c.in-Clip.frame c.args.skip c.args.count c.args.early _ c.in-Clip.is c.requires (λ n e. refused-late lib c.in-Clip.clip c.in-Clip.frame c.args.skip n c.args.early less fits c.if-early-2.false (omega arith))

pub returns-else-end-from-clause-reason : goal.returns-else-end-from-clause-reason
returns-else-end-from-clause-reason g c =
    let lib = g.M.Media.library c.args.media.now in
    let less : c.in-Clip.clip < lib.clips = omega (arith, c.if-clip-clips.false, c.clips.ensures) in
    let fits : lib.fits c.in-Clip.clip ≡ true = cc in
    let within : c.in-Clip.frame + (c.args.skip + c.args.count) ≤ lib.frames c.in-Clip.clip = omega (arith, c.if-end-from.false, c.frames.ensures, c.from.ensures, c.from-in-Clip.ensures, c.from-in-Clip-2.ensures, c.from-in-Clip-3.ensures) in
    at_clip lib c.args.first c.in-Clip.clip c.in-Clip.frame c.args.skip c.args.count c.args.early _ c.in-Clip.is c.requires (λ n e. can-take lib c.in-Clip.clip c.in-Clip.frame c.args.skip n c.args.early less fits c.if-early-2.false (omega arith))
