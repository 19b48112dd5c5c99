use Rattle.std.proofs.Common.{◌≡◌}
use Rattle.pic_planes.specs.Picture.{plane_of}
use Rattle.clip_store.specs.Blend.{blended_plane, with_plane}
use Rattle.clip_store.proofs.Blending.{upto}
use Rattle.clip_store.proofs.dissolve.put_plane.Given as goal

abbrev pub invariant-loop-y : goal.invariant-loop-y
invariant-loop-y l = record {
  shape : l.into.shape ≡ l.initial.into.shape;
  rows : l.into ≡ with_plane l.initial.into l.plane (upto l.y (blended_plane l.weight (plane_of l.from l.plane) (plane_of l.to l.plane)) (plane_of l.initial.into l.plane));
}
