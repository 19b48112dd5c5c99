-- A step of a dissolve between two pictures.
use Rattle.std.specs.Prelude.{ℕ, List, [], ◌∷◌, slice_set}
use Rattle.pic_planes.specs.Picture.{Image}
use Rattle.ffv1_lanes.specs.Blend.{blended}

-- two lists, place by place, up to the end of the shorter one
abbrev pub pairwise : {A : Type 0} → (A → A → A) → List A → List A → List A
pairwise join [] others = []
pairwise join (a ∷ more) [] = []
pairwise join (a ∷ more) (b ∷ others) = join a b ∷ pairwise join more others

-- At each place `weight` parts of 256 of the incoming side, and the rest of the outgoing side, to the nearest.
abbrev pub blended_row : ℕ → List ℕ → List ℕ → List ℕ
blended_row weight from to = pairwise (blended weight) from to

abbrev pub blended_plane : ℕ → List (List ℕ) → List (List ℕ) → List (List ℕ)
blended_plane weight from to = pairwise (blended_row weight) from to

-- the picture between two of one shape
abbrev pub blend : ℕ → Image → Image → Image
blend weight from to = record { shape = from.shape; planes = pairwise (blended_plane weight) from.planes to.planes }

-- the picture with other rows in one plane
abbrev pub with_plane : Image → ℕ → List (List ℕ) → Image
with_plane image plane rows = record image { planes = slice_set image.planes plane rows }
