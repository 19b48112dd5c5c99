-- How the samples of a picture lie in memory: plane after plane, row after row.
use Rattle.std.specs.Prelude.{ℕ, zero, suc, ◌+◌, ◌*◌, List, [], ◌∷◌, ◌++◌, length, take, drop, replicate}
use Rattle.pic_planes.specs.declared.shape.Chroma.{Chroma}
use Rattle.pic_planes.specs.declared.shape.Chroma.TheVariants.{Grey, Shifts}
use Rattle.pic_planes.specs.Shape.{Layout, chroma_width, chroma_height, plane_width}
use Rattle.pic_planes.specs.Picture.{Image}

pub record Size : Type 0 where
  pub width : ℕ
  pub height : ℕ

abbrev pub size : ℕ → ℕ → Size
size width height = record { width = width; height = height }

-- the sizes of the planes
abbrev pub sizes_by : Layout → Chroma → List Size
sizes_by s Grey = size s.width s.height ∷ []
sizes_by s (Shifts h v) =
    let chroma = size (chroma_width s.width s.chroma) (chroma_height s.height s.chroma) in
    size s.width s.height ∷ chroma ∷ chroma ∷ []

abbrev pub sizes : Layout → List Size
sizes s = sizes_by s s.chroma

-- how many samples planes of these sizes have
abbrev pub sample_count : List Size → ℕ
sample_count [] = 0
sample_count (size ∷ more) = size.width * size.height + sample_count more

-- so many rows, each of that width
unfoldable pub rows_in : ℕ → ℕ → List ℕ → List (List ℕ)
rows_in width zero bytes = []
rows_in width (suc more) bytes = take width bytes ∷ rows_in width more (drop width bytes)

-- planes of these sizes
unfoldable pub planes_in : List Size → List ℕ → List (List (List ℕ))
planes_in [] bytes = []
planes_in (size ∷ more) bytes = rows_in size.width size.height bytes ∷ planes_in more (drop (size.width * size.height) bytes)

abbrev pub image_in : Layout → List ℕ → Image
image_in s bytes = record { shape = s; planes = planes_in (sizes s) bytes }

-- bytes with others written over them from a place on
abbrev pub pasted : List ℕ → ℕ → List ℕ → List ℕ
pasted bytes from others = take from bytes ++ (others ++ drop (length others) (drop from bytes))

-- where a row of a plane begins
abbrev pub row_start : Layout → ℕ → ℕ → ℕ
row_start s plane y = sample_count (take plane (sizes s)) + y * plane_width s plane

-- as many bytes as there were: what is too much is cut, and what is missing is taken from them
abbrev pub refilled : List ℕ → List ℕ → List ℕ
refilled bytes others = take (length bytes) (others ++ drop (length others) bytes)

-- the samples of both chroma planes
abbrev pub chroma_area : Layout → ℕ
chroma_area s = sample_count (drop 1 (sizes s))

-- one value for each sample of Y, and one for each of Cb and Cr
abbrev pub values_of : Layout → ℕ → ℕ → List ℕ
values_of s luma chroma = replicate (s.width * s.height) luma ++ replicate (chroma_area s) chroma
