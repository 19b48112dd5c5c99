-- What a picture is: a shape, and its planes Y, Cb and Cr, each a list of rows of samples.
use Rattle.std.specs.Prelude.{◌≡◌, ℕ, ◌<◌, List, length, replicate, slice_index, slice_index_or, slice_set, [], ◌∷◌}
use Rattle.pic_planes.specs.declared.shape.Chroma.{Chroma}
use Rattle.pic_planes.specs.declared.shape.Chroma.TheVariants.{Grey, Shifts}
use Rattle.pic_planes.specs.Shape.{Layout, IsShape, plane_count, plane_width, plane_height}

pub record Image : Type 0 where
  pub shape : Layout
  pub planes : List (List (List ℕ))

-- a plane, and a row of it, counted from 0
abbrev pub plane_of : Image → ℕ → List (List ℕ)
plane_of image plane = slice_index_or image.planes plane []

abbrev pub row_of : Image → ℕ → ℕ → List ℕ
row_of image plane y = slice_index_or (plane_of image plane) y []

-- the image with other samples in one row
abbrev pub with_row : Image → ℕ → ℕ → List ℕ → Image
with_row image plane y row = record image { planes = slice_set image.planes plane (slice_set (plane_of image plane) y row) }

pub record IsRow (width : ℕ) (row : List ℕ) : Type 0 where
  pub len : length row ≡ width
  pub samples : (x : ℕ) → slice_index row x < 256

pub record IsPlane (width height : ℕ) (plane : List (List ℕ)) : Type 0 where
  pub len : length plane ≡ height
  pub rows : (y : ℕ) → y < height → IsRow width (slice_index_or plane y [])

-- The planes are those of the shape, with samples of 8 bits.
pub record IsPicture (image : Image) : Type 0 where
  pub shape : IsShape image.shape
  pub count : length image.planes ≡ plane_count image.shape
  pub planes : (plane : ℕ) → plane < plane_count image.shape
      → IsPlane (plane_width image.shape plane) (plane_height image.shape plane) (plane_of image plane)

-- a plane of one value
abbrev pub filled_plane : Layout → ℕ → ℕ → List (List ℕ)
filled_plane s plane value = replicate (plane_height s plane) (replicate (plane_width s plane) value)

abbrev pub filled_planes : Layout → Chroma → ℕ → ℕ → List (List (List ℕ))
filled_planes s Grey luma chroma = filled_plane s 0 luma ∷ []
filled_planes s (Shifts h v) luma chroma = filled_plane s 0 luma ∷ filled_plane s 1 chroma ∷ filled_plane s 2 chroma ∷ []

-- the picture with one value in Y and one in Cb and Cr
unfoldable pub filled : Layout → ℕ → ℕ → Image
filled s luma chroma = record { shape = s; planes = filled_planes s s.chroma luma chroma }

-- black: 16 in Y, and 128 in Cb and Cr
abbrev pub black : Layout → Image
black s = filled s 16 128
