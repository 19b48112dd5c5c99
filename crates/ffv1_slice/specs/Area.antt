-- Rectangles of a picture's planes.
use Rattle.std.specs.Prelude.{ℕ, ◌+◌, ◌≤◌, ◌<◌, List, [], ◌∷◌, All, Option, Some, None}
use Rattle.pic_planes.specs.Shape.{Layout, plane_count, plane_width, plane_height}
use Rattle.pic_planes.specs.Picture.{Image, row_of, with_row}
use Rattle.pic_planes.specs.Bytes.{pasted}
use Rattle.ffv1_slice.specs.declared.area.Area.{Area}

-- It lies within its plane, and isn't empty.
pub record IsWithin (shape : Layout) (area : Area) : Type 0 where
  pub plane : area.plane < plane_count shape
  pub some : 1 ≤ area.width
  pub width : area.x + area.width ≤ plane_width shape area.plane
  pub height : area.y + area.height ≤ plane_height shape area.plane

-- the area below a first row
abbrev pub below : Area → Area
below area = record area { y = area.y + 1 }

-- a picture with samples in the first row of an area
abbrev pub with_first : Image → Area → List ℕ → Image
with_first image area row = with_row image area.plane area.y (pasted (row_of image area.plane area.y) area.x row)

-- a picture with rows of samples in an area, from its first row on
abbrev pub with_rows : Image → Area → List (List ℕ) → Image
with_rows image area [] = image
with_rows image area (row ∷ rows) = with_rows (with_first image area row) (below area) rows

-- They lie within their planes, and a line of a width is long enough for each.
abbrev pub AreWithin : Layout → ℕ → List Area → Type 0
AreWithin shape width areas = All (λ area. IsWithin shape area × (area.width ≤ width)) areas

-- the areas of Cb and Cr, by that of Cb: Cr has the same in its own plane
abbrev pub chroma_areas : Option Area → List Area
chroma_areas None = []
chroma_areas (Some cb) = cb ∷ record cb { plane = 2 } ∷ []
