use Rattle.std.proofs.Common.{◌≡◌, ℕ, ◌+◌, min, false, inl, inr, Option, sym, ap, ◌∙◌, subst, arith}
use Rattle.tl_model.specs.Media.{Library}
use Rattle.tl_model.specs.Segment.{Reaches}
use Rattle.tl_model.specs.declared.segment.Segment.{Segment}
use Rattle.tl_model.specs.declared.edit.EditRefusal.{EditRefusal}
use Rattle.time_list.specs.Apply.{first_of, not_taken}
use Rattle.time_list.specs.Edits.{sides_from}
use Rattle.time_list.proofs.Reshaped.{refused-dissolve, refused-long, dissolved_ok, undissolved_ok}
use Rattle.time_list.proofs.reshape.dissolve.Goals as goal

shown_is : {F : Type 0} (lib : Library F) (s before : Segment) (len shown : ℕ) (why : Option EditRefusal) → shown ≡ min len s.len → first_of (not_taken lib (sides_from before.first before.len shown) false) ≡ why → first_of (not_taken lib (sides_from before.first before.len (min len s.len)) false) ≡ why
shown_is lib s before len shown why e h = ap (λ (k : ℕ). first_of (not_taken lib (sides_from before.first before.len k) false)) (sym e) ∙ h

pub returns-then-len-eq0 : goal.returns-then-len-eq0
returns-then-len-eq0 g c = undissolved_ok (g.M.Media.library c.args.media.now) c.args.segment.now _ c.args.len c.requires.piece c.if-len-eq0.true

pub returns-in-Err : goal.returns-in-Err
returns-in-Err g c =
    refused-dissolve (g.M.Media.library c.args.media.now) c.args.segment.now c.args.before.now c.args.len c.in-Err.why c.requires.before.formed.0
    (shown_is (g.M.Media.library c.args.media.now) c.args.segment.now c.args.before.now c.args.len c.min-shown.result _ c.min-shown.ensures c.in-Err.ensures.reason)

pub returns-then-len-segment : goal.returns-then-len-segment
returns-then-len-segment g c =
    refused-long (g.M.Media.library c.args.media.now) c.args.segment.now c.args.before.now c.args.len c.requires.before.formed.0
    (shown_is (g.M.Media.library c.args.media.now) c.args.segment.now c.args.before.now c.args.len c.min-shown.result _ c.min-shown.ensures c.in-Ok.ensures.reason)
    (inl c.if-len-segment.true)

pub returns-then-len-gt-MAX_MIX : goal.returns-then-len-gt-MAX_MIX
returns-then-len-gt-MAX_MIX g c =
    refused-long (g.M.Media.library c.args.media.now) c.args.segment.now c.args.before.now c.args.len c.requires.before.formed.0
    (shown_is (g.M.Media.library c.args.media.now) c.args.segment.now c.args.before.now c.args.len c.min-shown.result _ c.min-shown.ensures c.in-Ok.ensures.reason)
    (inr (omega (arith, c.if-len-gt-MAX_MIX.true)))

pub returns-else-len-gt-MAX_MIX : goal.returns-else-len-gt-MAX_MIX
returns-else-len-gt-MAX_MIX g c =
    dissolved_ok (g.M.Media.library c.args.media.now) c.args.segment.now c.args.before.now c.args.len c.moved.result c.requires.piece c.requires.before c.moved.ensures
    (omega (arith, c.if-len-eq0.false)) (omega (arith, c.if-len-segment.false)) (omega (arith, c.if-len-gt-MAX_MIX.false))
    (subst (λ (k : ℕ). Reaches c.args.before.now.first (c.args.before.now.len + k)) c.min-shown.ensures c.in-Ok.ensures.reach)
    (shown_is (g.M.Media.library c.args.media.now) c.args.segment.now c.args.before.now c.args.len c.min-shown.result _ c.min-shown.ensures c.in-Ok.ensures.reason)
