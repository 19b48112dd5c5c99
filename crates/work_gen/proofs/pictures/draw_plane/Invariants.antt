use Rattle.std.proofs.Common.{◌≡◌}
use Rattle.pic_planes.specs.Picture.{plane_of}
use Rattle.clip_store.specs.Blend.{with_plane}
use Rattle.clip_store.proofs.Blending.{upto}
use Rattle.work_gen.specs.Picture.{rows}
use Rattle.work_gen.proofs.pictures.draw_plane.Given as goal

abbrev pub invariant-loop-y : goal.invariant-loop-y
invariant-loop-y l = record {
  shape : l.into.shape ≡ l.initial.into.shape;
  rows : l.into ≡ with_plane l.initial.into l.plane (upto l.y (rows l.plane l.frame) (plane_of l.initial.into l.plane));
}
