-- What a picture holds after a row of it was lent.
use Rattle.std.specs.Prelude.{ℕ, List, length, ◌==◌, if◌then◌else◌}
use Rattle.std.specs.List.{concat, flat_map}
use Rattle.pic_planes.specs.Shape.{plane_width}
use Rattle.pic_planes.specs.Picture.{Image, with_row}
use Rattle.pic_planes.specs.Bytes.{image_in, row_start, pasted, refilled}

-- The row has what was last written to it, and the rest is as it was. A slice keeps its length, so the second case never comes:
-- it is what a list of another length would leave.
abbrev pub with_written : Image → ℕ → ℕ → List ℕ → Image
with_written image plane y row =
    if length row == plane_width image.shape plane
    then with_row image plane y row
    else
    let bytes = flat_map concat image.planes in
    image_in image.shape (refilled bytes (pasted bytes (row_start image.shape plane y) row))
