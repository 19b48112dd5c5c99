-- Tests of shapes and of pictures.
use Rattle.std.specs.Prelude.{ℕ, Bool, true, false, ◌&&◌, ◌==◌, nat_lt, List, [], ◌∷◌, length}
use Rattle.std.specs.List.{list_all}
use Rattle.pic_planes.specs.declared.shape.Chroma.{Chroma}
use Rattle.pic_planes.specs.declared.shape.Chroma.TheVariants.{Grey, Shifts}
use Rattle.pic_planes.specs.Shape.{Layout}
use Rattle.pic_planes.specs.Picture.{Image}
use Rattle.pic_planes.specs.Bytes.{Size, sizes}

-- whether two shapes are the same
abbrev pub same_chroma : Chroma → Chroma → Bool
same_chroma Grey Grey = true
same_chroma Grey (Shifts h v) = false
same_chroma (Shifts h v) Grey = false
same_chroma (Shifts h v) (Shifts i w) = (h == i) && (v == w)

abbrev pub same_shape : Layout → Layout → Bool
same_shape a b = (a.width == b.width) && ((a.height == b.height) && same_chroma a.chroma b.chroma)

-- whether rows and planes have these sizes, and samples of 8 bits
abbrev pub is_row : ℕ → List ℕ → Bool
is_row width row = (length row == width) && list_all (λ sample. nat_lt sample 256) row

abbrev pub is_plane : Size → List (List ℕ) → Bool
is_plane size rows = (length rows == size.height) && list_all (is_row size.width) rows

abbrev pub are_planes : List Size → List (List (List ℕ)) → Bool
are_planes [] [] = true
are_planes [] (plane ∷ planes) = false
are_planes (size ∷ more) [] = false
are_planes (size ∷ more) (plane ∷ planes) = is_plane size plane && are_planes more planes

-- whether the planes are those of the image's shape
abbrev pub is_picture : Image → Bool
is_picture image = are_planes (sizes image.shape) image.planes
