-- What the tests of shapes and of pictures tell.
use Rattle.std.proofs.Common.{◌≡◌, ℕ, zero, suc, ◌<◌, true, ltb, eqb, List, [], ◌∷◌, length, get_or, refl, sym, ◌∙◌, ap, subst, arith}
use Rattle.std.specs.Prelude.{IsTrue, slice_index}
use Rattle.std.specs.List.{list_all}
use Rattle.std.proofs.lemmas.Bool.{and_parts, and_from, eqb-true, eq-eqb, ltb-true, lt-ltb}
use Rattle.pic_planes.specs.declared.shape.Chroma.{Chroma}
use Rattle.pic_planes.specs.declared.shape.Chroma.TheVariants.{Grey, Shifts}
use Rattle.pic_planes.specs.Shape.{Layout, IsShape, layout, chroma_count, plane_count}
use Rattle.pic_planes.specs.Picture.{Image, IsRow, IsPlane, IsPicture, plane_of}
use Rattle.pic_planes.specs.Bytes.{Size, sizes_by, sizes}
use Rattle.pic_planes.proofs.Planes.{size_at, size_of}
use Rattle.clip_store.specs.Pictures.{same_chroma, same_shape, is_row, is_plane, are_planes, is_picture}

-- ---- shapes
chroma_same : (a b : Chroma) → IsTrue (same_chroma a b) → a ≡ b
chroma_same Grey Grey is = refl
chroma_same Grey (Shifts h v) is = cc
chroma_same (Shifts h v) Grey is = cc
chroma_same (Shifts h v) (Shifts i w) is =
    let parts = and_parts (eqb h i) (eqb v w) is in
    let first : h ≡ i = eqb-true h i parts.0 in
    let second : v ≡ w = eqb-true v w parts.1 in
    cc

same-chroma : (c : Chroma) → IsTrue (same_chroma c c)
same-chroma Grey = refl
same-chroma (Shifts h v) = and_from (eqb h h) (eqb v v) (eq-eqb h h refl) (eq-eqb v v refl)

pub shape_same : (a b : Layout) → IsTrue (same_shape a b) → a ≡ b
shape_same a b is =
    let wide = and_parts (eqb a.width b.width) _ is in
    let high = and_parts (eqb a.height b.height) (same_chroma a.chroma b.chroma) wide.1 in
    let width : a.width ≡ b.width = eqb-true a.width b.width wide.0 in
    let height : a.height ≡ b.height = eqb-true a.height b.height high.0 in
    let chroma : a.chroma ≡ b.chroma = chroma_same a.chroma b.chroma high.1 in
    ap (λ w. layout w a.height a.chroma) width ∙ ap (λ h. layout b.width h a.chroma) height ∙ ap (λ c. layout b.width b.height c) chroma

pub same-shape : (a b : Layout) → a ≡ b → IsTrue (same_shape a b)
same-shape a b same =
    let self : IsTrue (same_shape a a) =
    and_from (eqb a.width a.width) _ (eq-eqb a.width a.width refl) (and_from (eqb a.height a.height) (same_chroma a.chroma a.chroma) (eq-eqb a.height a.height refl) (same-chroma a.chroma)) in
    subst (λ (s : Layout). IsTrue (same_shape a s)) same self

-- ---- rows
samples_small : (row : List ℕ) → list_all (λ s. ltb s 256) row ≡ true → (x : ℕ) → slice_index row x < 256
samples_small [] all x = omega arith
samples_small (s ∷ more) all zero = ltb-true s 256 (and_parts (ltb s 256) (list_all (λ s. ltb s 256) more) all).0
samples_small (s ∷ more) all (suc x) = samples_small more (and_parts (ltb s 256) (list_all (λ s. ltb s 256) more) all).1 x

small_samples : (row : List ℕ) → ((x : ℕ) → slice_index row x < 256) → list_all (λ s. ltb s 256) row ≡ true
small_samples [] each = refl
small_samples (s ∷ more) each = and_from (ltb s 256) (list_all (λ s. ltb s 256) more) (lt-ltb s 256 (each 0)) (small_samples more (λ x. each (suc x)))

row_is : (width : ℕ) (row : List ℕ) → is_row width row ≡ true → IsRow width row
row_is width row is =
    let parts = and_parts (eqb (length row) width) (list_all (λ s. ltb s 256) row) is in
    record { len = eqb-true (length row) width parts.0; samples = samples_small row parts.1 }

is_row_from : (width : ℕ) (row : List ℕ) → IsRow width row → is_row width row ≡ true
is_row_from width row sound = and_from (eqb (length row) width) (list_all (λ s. ltb s 256) row) (eq-eqb (length row) width sound.len) (small_samples row sound.samples)

-- ---- planes
rows_are : (width : ℕ) (rows : List (List ℕ)) → list_all (is_row width) rows ≡ true → (y : ℕ) → y < length rows → IsRow width (get_or rows y [])
rows_are width [] all y lt = absurd (omega arith)
rows_are width (row ∷ more) all zero lt = row_is width row (and_parts (is_row width row) (list_all (is_row width) more) all).0
rows_are width (row ∷ more) all (suc y) lt = rows_are width more (and_parts (is_row width row) (list_all (is_row width) more) all).1 y (omega arith)

are_rows : (width : ℕ) (rows : List (List ℕ)) → ((y : ℕ) → y < length rows → IsRow width (get_or rows y [])) → list_all (is_row width) rows ≡ true
are_rows width [] each = refl
are_rows width (row ∷ more) each =
    and_from (is_row width row) (list_all (is_row width) more) (is_row_from width row (each 0 (omega arith))) (are_rows width more (λ y lt. each (suc y) (omega arith)))

plane_is : (size : Size) (plane : List (List ℕ)) → is_plane size plane ≡ true → IsPlane size.width size.height plane
plane_is size plane is =
    let parts = and_parts (eqb (length plane) size.height) (list_all (is_row size.width) plane) is in
    let len : length plane ≡ size.height = eqb-true (length plane) size.height parts.0 in
    record { len = len; rows = λ y lt. rows_are size.width plane parts.1 y (omega (arith, len, lt)) }

is_plane_from : (size : Size) (plane : List (List ℕ)) → IsPlane size.width size.height plane → is_plane size plane ≡ true
is_plane_from size plane sound =
    and_from (eqb (length plane) size.height) (list_all (is_row size.width) plane) (eq-eqb (length plane) size.height sound.len)
    (are_rows size.width plane (λ y lt. sound.rows y (omega (arith, sound.len, lt))))

-- ---- pictures
plane_at : (ss : List Size) (planes : List (List (List ℕ))) → are_planes ss planes ≡ true → (k : ℕ) → k < length ss → IsPlane (size_at ss k).width (size_at ss k).height (get_or planes k [])
plane_at [] planes is k lt = absurd (omega arith)
plane_at (s ∷ ss) [] is k lt = absurd cc
plane_at (s ∷ ss) (p ∷ ps) is zero lt = plane_is s p (and_parts (is_plane s p) (are_planes ss ps) is).0
plane_at (s ∷ ss) (p ∷ ps) is (suc k) lt = plane_at ss ps (and_parts (is_plane s p) (are_planes ss ps) is).1 k (omega arith)

plane_number : (ss : List Size) (planes : List (List (List ℕ))) → are_planes ss planes ≡ true → length planes ≡ length ss
plane_number [] [] is = refl
plane_number [] (p ∷ ps) is = absurd cc
plane_number (s ∷ ss) [] is = absurd cc
plane_number (s ∷ ss) (p ∷ ps) is = ap suc (plane_number ss ps (and_parts (is_plane s p) (are_planes ss ps) is).1)

planes_from : (ss : List Size) (planes : List (List (List ℕ))) → length planes ≡ length ss → ((k : ℕ) → k < length ss → IsPlane (size_at ss k).width (size_at ss k).height (get_or planes k []))
    → are_planes ss planes ≡ true
planes_from [] [] len each = refl
planes_from [] (p ∷ ps) len each = absurd (omega arith)
planes_from (s ∷ ss) [] len each = absurd (omega arith)
planes_from (s ∷ ss) (p ∷ ps) len each =
    and_from (is_plane s p) (are_planes ss ps) (is_plane_from s p (each 0 (omega arith))) (planes_from ss ps (omega arith) (λ k lt. each (suc k) (omega arith)))

length-sizes : (s : Layout) (c : Chroma) → length (sizes_by s c) ≡ chroma_count c
length-sizes s Grey = refl
length-sizes s (Shifts h v) = refl

pub picture_is : (image : Image) → IsShape image.shape → IsTrue (is_picture image) → IsPicture image
picture_is image shape is = record {
  shape = shape;
  count = plane_number (sizes image.shape) image.planes is ∙ length-sizes image.shape image.shape.chroma;
  planes = λ plane lt.
      let size = size_of image.shape plane lt in
      subst (λ (z : Size). IsPlane z.width z.height (plane_of image plane)) size.1 (plane_at (sizes image.shape) image.planes is plane size.0);
}

pub is_picture_from : (image : Image) → IsPicture image → IsTrue (is_picture image)
is_picture_from image sound =
    let count : length (sizes image.shape) ≡ plane_count image.shape = length-sizes image.shape image.shape.chroma in
    planes_from (sizes image.shape) image.planes (sound.count ∙ sym count)
    (λ k lt.
    let has : k < plane_count image.shape = omega (arith, lt, count) in
    subst (λ (z : Size). IsPlane z.width z.height (plane_of image k)) (sym (size_of image.shape k has).1) (sound.planes k has))
