-- Whether the slices of a record cover the planes of a shape. RFC 9043 section 4.6.
use Rattle.std.specs.Prelude.{◌≡◌, ◌≤◌}
use Rattle.pic_planes.specs.Shape.{Layout}
pub use Rattle.pic_planes.specs.Grid.{ReachesEnd, ReachesEnds}
use Rattle.ffv1_record.specs.Parameters.{Parameters}

-- The chroma is the shape's, the grid isn't larger than the picture, and it reaches the ends of the planes.
pub record Suits (p : Parameters) (shape : Layout) : Type 0 where
  pub chroma : p.chroma ≡ shape.chroma
  pub columns : p.columns ≤ shape.width
  pub rows : p.rows ≤ shape.height
  pub reaches : ReachesEnds p.columns p.rows shape.width shape.height p.chroma
