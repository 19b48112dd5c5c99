-- The pictures of the generated clip, sample by sample. Frames, columns and rows count from 0.
use Rattle.std.specs.Prelude.{ℕ, ◌+◌, ◌*◌, ◌%◌, ◌==◌, if◌then◌else◌, List, [], ◌∷◌, map}
use Rattle.std.specs.List.{range_with_len}
use Rattle.pic_planes.specs.declared.shape.Chroma.TheVariants.{Shifts}
use Rattle.pic_planes.specs.Shape.{Layout, layout, plane_width, plane_height}
use Rattle.pic_planes.specs.Picture.{Image}

-- 64 x 48 samples of Y, and 32 x 24 of each of Cb and Cr
abbrev pub clip_shape : Layout
clip_shape = layout 64 48 (Shifts 1 1)

-- a sample of Y, of Cb and of Cr, at a column and a row
abbrev pub luma : (x y frame : ℕ) → ℕ
luma x y frame = (x + 2 * y + 3 * frame + 7 * ((x * y + frame) % 5)) % 256

abbrev pub blue : (x frame : ℕ) → ℕ
blue x frame = (128 + x + frame) % 256

abbrev pub red : (y frame : ℕ) → ℕ
red y frame = (128 + y + 2 * frame) % 256

-- a sample of a plane: Y is plane 0, Cb and Cr are 1 and 2
abbrev pub sample : (plane x y frame : ℕ) → ℕ
sample plane x y frame = if plane == 0 then luma x y frame else (if plane == 1 then blue x frame else red y frame)

-- a row of a plane
unfoldable pub row : (plane y frame : ℕ) → List ℕ
row plane y frame = map (λ x. sample plane x y frame) (range_with_len 0 (plane_width clip_shape plane))

-- all rows of a plane
unfoldable pub rows : (plane frame : ℕ) → List (List ℕ)
rows plane frame = map (λ y. row plane y frame) (range_with_len 0 (plane_height clip_shape plane))

-- the picture of a frame: Y, Cb and Cr
abbrev pub picture : (frame : ℕ) → Image
picture frame = record { shape = clip_shape; planes = rows 0 frame ∷ rows 1 frame ∷ rows 2 frame ∷ [] }
