-- The samples of a picture in one list, and lists that agree with others in their first samples.
use Rattle.std.proofs.Common.{◌≡◌, ℕ, zero, suc, ◌+◌, ◌*◌, ◌<◌, ◌≤◌, List, [], ◌∷◌, ◌++◌, length, take, drop, get_or, refl, sym, ◌∙◌, ap, subst, arith, length-drop, length-append, append_assoc}
use Rattle.std.specs.List.{concat, flat_map}
use Rattle.std.proofs.lemmas.List.{take_at, drop_at, take_all, length-take-le, append-nil, drop_all}
use Rattle.std.proofs.Math.Seq.{take-add}
use Rattle.pic_planes.specs.declared.shape.Chroma.{Chroma}
use Rattle.pic_planes.specs.declared.shape.Chroma.TheVariants.{Grey, Shifts}
use Rattle.pic_planes.specs.Shape.{Layout, layout, plane_count, plane_width, plane_height}
use Rattle.pic_planes.specs.Picture.{Image, IsPicture, IsPlane, row_of, with_row, filled}
use Rattle.pic_planes.specs.Bytes.{Size, sizes, sample_count, rows_in, planes_in, image_in, row_start, pasted, values_of}
use Rattle.pic_planes.proofs.Pasted.{length-pasted, take-pasted, drop-pasted, take-pasted_here}
use Rattle.pic_planes.proofs.Planes.{size_at, size_of, row_start-fits, row_of-image_in, image_in-pasted, image_in-values, length-values}
use Rattle.codec_c.specs.Samples.{samples_of, HasFirst}

-- ---- the next samples of a list, written over another one
take_step : (b flat : List ℕ) (n w : ℕ) → n + w ≤ length b → n + w ≤ length flat → take n b ≡ take n flat
    → take (n + w) (pasted b n (take w (drop n flat))) ≡ take (n + w) flat
take_step b flat n w fits has first =
    let ws : List ℕ = take w (drop n flat) in
    let wide : length ws ≡ w = length-take-le w (drop n flat) (omega (arith, length-drop n flat)) in
    let front : take n (pasted b n ws) ≡ take n flat = take-pasted b n n ws (omega arith) (omega arith) ∙ first in
    let moved : drop n (pasted b n ws) ≡ pasted (drop n b) 0 ws = ap (λ k. drop n (pasted b k ws)) {x = n} {y = n + 0} (omega arith) ∙ drop-pasted b n 0 ws (omega arith) in
    let there : take w (drop n (pasted b n ws)) ≡ ws =
    ap (take w) moved ∙ ap (λ k. take k (pasted (drop n b) 0 ws)) (sym wide) ∙ take-pasted_here (drop n b) ws in
    take-add n w (pasted b n ws)
    ∙ ap (λ (l : List ℕ). l ++ take w (drop n (pasted b n ws))) front
    ∙ ap (λ (l : List ℕ). take n flat ++ l) there
    ∙ sym (take-add n w flat)

-- ---- planes, as they lie in one list
length-concat : (w : ℕ) (rows : List (List ℕ)) → ((y : ℕ) → y < length rows → length (get_or rows y []) ≡ w) → length (concat rows) ≡ length rows * w
length-concat w [] wide = omega arith
length-concat w (row ∷ rows) wide =
    let rest : length (concat rows) ≡ length rows * w = length-concat w rows (λ y lt. wide (suc y) (omega arith)) in
    let first : length row ≡ w = wide 0 (omega arith) in
    length-append row (concat rows) ∙ omega arith

rows_back : (w : ℕ) (rows : List (List ℕ)) (more : List ℕ) → ((y : ℕ) → y < length rows → length (get_or rows y []) ≡ w) → rows_in w (length rows) (concat rows ++ more) ≡ rows
unfolding rows_in
rows_back w [] more wide = refl
rows_back w (row ∷ rows) more wide =
    let first : length row ≡ w = wide 0 (omega arith) in
    let rest : List ℕ = concat rows ++ more in
    ap (rows_in w (suc (length rows))) (append_assoc row (concat rows) more)
    ∙ ap (λ (x : List ℕ). x ∷ rows_in w (length rows) (drop w (row ++ rest))) (take_at row rest w first)
    ∙ ap (λ (x : List ℕ). row ∷ rows_in w (length rows) x) (drop_at row rest w first)
    ∙ ap (λ (x : List (List ℕ)). row ∷ x) (rows_back w rows more (λ y lt. wide (suc y) (omega arith)))

wide_rows : (w h : ℕ) (plane : List (List ℕ)) → IsPlane w h plane → (y : ℕ) → y < length plane → length (get_or plane y []) ≡ w
wide_rows w h plane is y lt = (is.rows y (omega (arith, is.len))).len

length-plane : (s : Size) (plane : List (List ℕ)) → IsPlane s.width s.height plane → length (concat plane) ≡ s.width * s.height
length-plane s plane is = length-concat s.width plane (wide_rows s.width s.height plane is) ∙ ap (λ k. k * s.width) is.len ∙ omega arith

abbrev ArePlanes : List Size → List (List (List ℕ)) → Type 0
ArePlanes ss planes = (p : ℕ) → p < length ss → IsPlane (size_at ss p).width (size_at ss p).height (get_or planes p [])

length-flat : (ss : List Size) (planes : List (List (List ℕ))) → length planes ≡ length ss → ArePlanes ss planes → length (flat_map concat planes) ≡ sample_count ss
length-flat [] [] same are = refl
length-flat [] (p ∷ ps) same are = absurd (omega arith)
length-flat (s ∷ ss) [] same are = absurd (omega arith)
length-flat (s ∷ ss) (p ∷ ps) same are =
    length-append (concat p) (flat_map concat ps) ∙ omega (arith, length-plane s p (are 0 (omega arith)), length-flat ss ps (omega arith) (λ k lt. are (suc k) (omega arith)))

planes_back : (ss : List Size) (planes : List (List (List ℕ))) → length planes ≡ length ss → ArePlanes ss planes → planes_in ss (flat_map concat planes) ≡ planes
unfolding planes_in
planes_back [] [] same are = refl
planes_back [] (p ∷ ps) same are = absurd (omega arith)
planes_back (s ∷ ss) [] same are = absurd (omega arith)
planes_back (s ∷ ss) (p ∷ ps) same are =
    let first : IsPlane s.width s.height p = are 0 (omega arith) in
    let all : length (concat p) ≡ s.width * s.height = length-plane s p first in
    let rest : List ℕ = flat_map concat ps in
    let rows : rows_in s.width s.height (concat p ++ rest) ≡ p = ap (λ k. rows_in s.width k (concat p ++ rest)) (sym first.len) ∙ rows_back s.width p rest (wide_rows s.width s.height p first) in
    ap (λ (x : List (List ℕ)). x ∷ planes_in ss (drop (s.width * s.height) (concat p ++ rest))) rows
    ∙ ap (λ (x : List ℕ). p ∷ planes_in ss x) (drop_at (concat p) rest (s.width * s.height) all)
    ∙ ap (λ (x : List (List (List ℕ))). p ∷ x) (planes_back ss ps (omega arith) (λ k lt. are (suc k) (omega arith)))

count_by : (w h : ℕ) (c : Chroma) → length (sizes (layout w h c)) ≡ plane_count (layout w h c)
count_by w h Grey = refl
count_by w h (Shifts x y) = refl

planes_of : (image : Image) → IsPicture image → (length image.planes ≡ length (sizes image.shape)) × ArePlanes (sizes image.shape) image.planes
planes_of image is =
    let s : Layout = image.shape in
    let count : length (sizes s) ≡ plane_count s = count_by s.width s.height s.chroma in (
      is.count ∙ sym count,
      λ p lt.
          let there = size_of s p (omega arith) in
          subst (λ (z : Size). IsPlane z.width z.height (get_or image.planes p [])) (sym there.1) (is.planes p (omega arith)),
    )

-- a picture is what lies in its samples
image_back : (image : Image) → IsPicture image → image_in image.shape (samples_of image) ≡ image
image_back image is =
    let are = planes_of image is in
    ap (λ (planes : List (List (List ℕ))). record { shape = image.shape; planes = planes }) (planes_back (sizes image.shape) image.planes are.0 are.1)

length-samples : (image : Image) → IsPicture image → length (samples_of image) ≡ sample_count (sizes image.shape)
length-samples image is = let are = planes_of image is in length-flat (sizes image.shape) image.planes are.0 are.1

-- ---- where planes end
ends : (ss : List Size) (p : ℕ) → p < length ss → sample_count (take p ss) + (size_at ss p).height * (size_at ss p).width ≡ sample_count (take (suc p) ss)
ends [] p lt = absurd (omega arith)
ends (s ∷ ss) zero lt = omega arith
ends (s ∷ ss) (suc p) lt = omega (arith, ends ss p (omega arith))

pub next_plane : (s t : Layout) (p at : ℕ) → t ≡ s → p < plane_count s → at ≡ row_start t p (plane_height t p) → at ≡ sample_count (take (p + 1) (sizes s))
next_plane s t p at same lt is =
    let there = size_of s p lt in
    let P : Size → Type 0 = λ z. sample_count (take p (sizes s)) + z.height * z.width ≡ sample_count (take (suc p) (sizes s)) in
    is ∙ ap (λ (z : Layout). row_start z p (plane_height z p)) same ∙ subst P there.1 (ends (sizes s) p there.0) ∙ ap (λ k. sample_count (take k (sizes s))) {x = suc p} {y = p + 1} (omega arith)

-- the planes' last end is the end of the samples
all_planes : (s : Layout) (p at : ℕ) → p ≡ plane_count s → at ≡ sample_count (take p (sizes s)) → at ≡ sample_count (sizes s)
all_planes s p at all is =
    let count : length (sizes s) ≡ plane_count s = count_by s.width s.height s.chroma in
    is ∙ ap sample_count (take_all p (sizes s) (omega (arith, count)))

-- ---- samples put
pub put_step : (image : Image) (samples after row : List ℕ) (p y n : ℕ) → IsPicture image → p < plane_count image.shape → y < plane_height image.shape p
    → length samples ≡ sample_count (sizes image.shape) → n ≡ row_start image.shape p y → take n samples ≡ take n (samples_of image)
    → row ≡ row_of image p y → length row ≡ plane_width image.shape p → after ≡ pasted samples n row
    → (n + length row ≡ row_start image.shape p (y + 1)) × (take (n + length row) after ≡ take (n + length row) (samples_of image))
put_step image samples after row p y n is lt row_lt len at first row_is wide pasted_is =
    let s : Layout = image.shape in
    let flat : List ℕ = samples_of image in
    let fits = row_start-fits s p y lt row_lt in
    let there : row ≡ take (length row) (drop n flat) =
    row_is ∙ ap (λ (i : Image). row_of i p y) (sym (image_back image is)) ∙ row_of-image_in s flat p y lt row_lt
    ∙ ap (λ k. take k (drop (row_start s p y) flat)) (sym wide) ∙ ap (λ k. take (length row) (drop k flat)) (sym at) in
    let step = take_step samples flat n (length row) (omega arith) (omega (arith, length-samples image is)) first in
    (omega arith, ap (take (n + length row)) (pasted_is ∙ ap (pasted samples n) there) ∙ step)

pub put_all : (image : Image) (samples : List ℕ) (p n : ℕ) → IsPicture image → length samples ≡ sample_count (sizes image.shape) → p ≡ plane_count image.shape
    → n ≡ sample_count (take p (sizes image.shape)) → take n samples ≡ take n (samples_of image) → image_in image.shape samples ≡ image
put_all image samples p n is len all at same =
    let total : n ≡ sample_count (sizes image.shape) = all_planes image.shape p n all at in
    let flat : samples ≡ samples_of image =
    sym (take_all n samples (omega arith)) ∙ same ∙ take_all n (samples_of image) (omega (arith, length-samples image is)) in
    ap (image_in image.shape) flat ∙ image_back image is

-- ---- samples taken
pub first_none : (picture : Image) (s : Layout) (samples : List ℕ) → picture ≡ filled s 0 0 → length samples ≡ sample_count (sizes s)
    → HasFirst samples 0 picture × (picture.shape ≡ s)
first_none picture s samples is len =
    let zeros : List ℕ = values_of s 0 0 in
    let there : picture ≡ image_in s zeros = is ∙ sym (image_in-values s 0 0) in
    let shape : picture.shape ≡ s = ap (λ (i : Image). i.shape) there in
    ((zeros, length-values s 0 0 ∙ sym len, there ∙ ap (λ (z : Layout). image_in z zeros) (sym shape), refl), shape)

whole_row : (old row : List ℕ) → length row ≡ length old → pasted old 0 row ≡ row
whole_row old row same = ap (λ (l : List ℕ). row ++ l) (drop_all (length row) old (omega arith)) ∙ append-nil row

pub taken_step : (before after : Image) (samples row : List ℕ) (p y n w : ℕ) → p < plane_count before.shape → y < plane_height before.shape p
    → length samples ≡ sample_count (sizes before.shape) → n ≡ row_start before.shape p y → w ≡ plane_width before.shape p → HasFirst samples n before
    → row ≡ take w (drop n samples) → after ≡ with_row before p y (pasted (row_of before p y) 0 row)
    → (n + w ≡ row_start before.shape p (y + 1)) × HasFirst samples (n + w) after × (after.shape ≡ before.shape)
taken_step before after samples row p y n w lt row_lt len at wide (bytes, same, image_is, first) row_is after_is =
    let s : Layout = before.shape in
    let fits = row_start-fits s p y lt row_lt in
    let long : length row ≡ w = ap length row_is ∙ length-take-le w (drop n samples) (omega (arith, length-drop n samples)) in
    let old : List ℕ = row_of before p y in
    let old_is : old ≡ take (plane_width s p) (drop (row_start s p y) bytes) = ap (λ (i : Image). row_of i p y) image_is ∙ row_of-image_in s bytes p y lt row_lt in
    let old_long : length old ≡ w =
    ap length old_is ∙ length-take-le (plane_width s p) (drop (row_start s p y) bytes) (omega (arith, length-drop (row_start s p y) bytes)) ∙ sym wide in
    let put : after ≡ image_in s (pasted bytes n row) =
    after_is ∙ ap (with_row before p y) (whole_row old row (omega arith)) ∙ ap (λ (i : Image). with_row i p y row) image_is
    ∙ sym (image_in-pasted s bytes p y row lt row_lt (omega arith) (omega arith)) ∙ ap (λ k. image_in s (pasted bytes k row)) (sym at) in
    let shape : after.shape ≡ s = ap (λ (i : Image). i.shape) put in
    let step = take_step bytes samples n w (omega arith) (omega arith) first in
    let taken : take (n + w) (pasted bytes n row) ≡ take (n + w) samples = ap (λ (r : List ℕ). take (n + w) (pasted bytes n r)) row_is ∙ step in (
      omega arith,
      (pasted bytes n row, length-pasted bytes n row (omega arith) ∙ same, put ∙ ap (λ (z : Layout). image_in z (pasted bytes n row)) (sym shape), taken),
      shape,
    )

pub taken_all : (picture : Image) (s : Layout) (samples : List ℕ) (p n : ℕ) → length samples ≡ sample_count (sizes s) → p ≡ plane_count s
    → n ≡ sample_count (take p (sizes s)) → HasFirst samples n picture → picture.shape ≡ s → picture ≡ image_in s samples
taken_all picture s samples p n len all at (bytes, same, image_is, first) shape =
    let total : n ≡ sample_count (sizes s) = all_planes s p n all at in
    let bytes_are : bytes ≡ samples = sym (take_all n bytes (omega arith)) ∙ first ∙ take_all n samples (omega arith) in
    image_is ∙ ap (λ (z : Layout). image_in z bytes) shape ∙ ap (image_in s) bytes_are
