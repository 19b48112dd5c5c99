use Rattle.std.proofs.Common.{◌≡◌, refl, ap, ◌∙◌}
use Rattle.pic_planes.specs.Picture.{Image, filled}
use Rattle.work_gen.proofs.Giving.{one_given}
use Rattle.work_gen.proofs.frames.put_frames.Goals as goal

pub loop-frame-init : goal.loop-frame-init
unfolding filled
loop-frame-init g c = record {
  shape = ap (λ (i : Image). i.shape) c.in_ok-picture.ensures ∙ c.clip_shape.ensures;
  given = c.requires.given;
  held = c.requires.held;
  begun = refl;
}

pub loop-frame-preserved : goal.loop-frame-preserved
loop-frame-preserved g c = record {
  shape = c.put_frame.ensures.shape;
  given = one_given c.loop-frame.frame c.loop-frame.writer c.put_frame.new.writer c.loop-frame.invariant.given c.in_ok-put_frame.ensures.added;
  held = c.in_ok-put_frame.ensures.held;
  begun = c.put_frame.ensures.begun ∙ c.loop-frame.invariant.begun;
}
