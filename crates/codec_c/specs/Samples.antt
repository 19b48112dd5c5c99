-- Pictures whose first samples are known, plane after plane and row after row.
use Rattle.std.specs.Prelude.{◌≡◌, ℕ, List, length, take}
use Rattle.std.specs.List.{concat, flat_map}
use Rattle.pic_planes.specs.Picture.{Image}
use Rattle.pic_planes.specs.Bytes.{image_in}

-- the samples of all planes
abbrev pub samples_of : Image → List ℕ
samples_of image = flat_map concat image.planes

-- The first samples of a picture are those.
abbrev pub HasFirst : List ℕ → ℕ → Image → Type 0
HasFirst samples n image =
    (bytes : List ℕ) × (length bytes ≡ length samples) × (image ≡ image_in image.shape bytes) × (take n bytes ≡ take n samples)
