use Rattle.std.proofs.Common.{◌≡◌, ℕ, ◌+◌, not, refl, ap, ◌∙◌, arith}
use Rattle.std.specs.Prelude.{nat_lt}
use Rattle.time_list.proofs.Replacing.{found_black, found_no_clip, found_clip}
use Rattle.time_list.proofs.replace.look_at_frames.Goals as goal

pub returns-in-Black : goal.returns-in-Black
returns-in-Black g c = found_black (g.M.Media.library c.args.media.now) c.args.first c.args.count c.in-Black.is

pub returns-then-clip-clips : goal.returns-then-clip-clips
returns-then-clip-clips g c = found_no_clip (g.M.Media.library c.args.media.now) c.args.first c.in-Clip.clip c.in-Clip.frame c.args.count c.in-Clip.is (omega (arith, c.if-count-eq0.false)) (omega (arith, c.if-clip-clips.true, c.clips.ensures))

pub returns-else-clip-clips : goal.returns-else-clip-clips
returns-else-clip-clips g c =
    let lib = (g.M.Media.library c.args.media.now) in
    let frames : c.from-in-Clip-2.result ≡ lib.frames c.in-Clip.clip = c.from-in-Clip-2.ensures ∙ c.frames.ensures in
    let end : c.from.result + c.from-in-Clip.result ≡ c.in-Clip.frame + c.args.count = omega (arith, c.from.ensures, c.from-in-Clip.ensures) in
    found_clip lib c.args.first c.in-Clip.clip c.in-Clip.frame c.args.count _ c.in-Clip.is (omega (arith, c.if-count-eq0.false)) (omega (arith, c.if-clip-clips.false, c.clips.ensures)) refl (ap not c.fits.ensures) (ap (λ (n : ℕ). nat_lt n (c.from.result + c.from-in-Clip.result)) frames ∙ ap (nat_lt (lib.frames c.in-Clip.clip)) end)
