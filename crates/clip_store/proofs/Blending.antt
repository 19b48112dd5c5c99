-- Lists that are joined place by place, and what is written of them so far.
use Rattle.std.proofs.Common.{◌≡◌, ℕ, zero, suc, ◌+◌, ◌-◌, ◌*◌, ◌/◌, ◌<◌, ◌≤◌, List, [], ◌∷◌, ◌++◌, length, take, drop, set, get_or, refl, sym, ◌∙◌, ap, subst, arith, add-one}
use Rattle.std.specs.Prelude.{slice_index}
use Rattle.std.proofs.lemmas.List.{ext_get_or, get_or-set_same, set-set, set-get_or}
use Rattle.pic_planes.specs.Picture.{Image, IsPicture, plane_of, row_of, with_row}
use Rattle.pic_planes.specs.Shape.{Layout, plane_count, plane_height}
use Rattle.ffv1_lanes.specs.Blend.{blended}
use Rattle.clip_store.specs.Blend.{pairwise, blended_row, blended_plane, blend, with_plane}

pub length-pairwise : {A : Type 0} (join : A → A → A) (a b : List A) → length b ≡ length a → length (pairwise join a b) ≡ length a
length-pairwise join [] b same = refl
length-pairwise join (x ∷ a) [] same = absurd (omega arith)
length-pairwise join (x ∷ a) (y ∷ b) same = ap suc (length-pairwise join a b (omega arith))

pub get-pairwise : {A : Type 0} (join : A → A → A) (a b : List A) (k : ℕ) (d : A) → length b ≡ length a → k < length a → get_or (pairwise join a b) k d ≡ join (get_or a k d) (get_or b k d)
get-pairwise join [] b k d same lt = absurd (omega arith)
get-pairwise join (x ∷ a) [] k d same lt = absurd (omega arith)
get-pairwise join (x ∷ a) (y ∷ b) zero d same lt = refl
get-pairwise join (x ∷ a) (y ∷ b) (suc k) d same lt = get-pairwise join a b k d (omega arith) (omega arith)

-- a sample between two that are the same
parts_of_same : (rest weight x : ℕ) → rest + weight ≡ 256 → (x * rest + x * weight + 128) / 256 ≡ x
parts_of_same rest weight x whole =
    let all : x * (rest + weight) ≡ x * 256 = ap (λ n. x * n) whole in
    let parts : x * rest + x * weight ≡ 256 * x = omega (arith, all) in
    omega (arith, parts)

between_same : (weight x : ℕ) → weight ≤ 256 → blended weight x x ≡ x
between_same weight x le = parts_of_same (256 - weight) weight x (omega arith)

pub same_blended : (weight : ℕ) (a b : List ℕ) → weight ≤ 256 → a ≡ b → blended_row weight a b ≡ a
same_blended weight [] b le e = refl
same_blended weight (x ∷ a) [] le e = cc
same_blended weight (x ∷ a) (y ∷ b) le e =
    let here : x ≡ y = cc in
    let rest : a ≡ b = cc in
    let first : blended weight x y ≡ x = subst (λ (n : ℕ). blended weight x n ≡ x) here (between_same weight x le) in
    let others : pairwise (blended weight) a b ≡ a = same_blended weight a b le rest in
    ap (λ (s : ℕ). s ∷ pairwise (blended weight) a b) first ∙ ap (λ (l : List ℕ). x ∷ l) others

pub row_blended : (weight : ℕ) (a b row : List ℕ) → length b ≡ length a → length row ≡ length a → ((x : ℕ) → x < length row → slice_index row x ≡ blended weight (slice_index a x) (slice_index b x)) → row ≡ blended_row weight a b
row_blended weight a b row same long each =
    let len : length (blended_row weight a b) ≡ length a = length-pairwise (blended weight) a b same in
    ext_get_or 0 row (blended_row weight a b) (omega (arith, len)) (λ x lt. each x lt ∙ sym (get-pairwise (blended weight) a b x 0 same (omega (arith, lt, long))))

-- the first n of new ones, and the rest of old ones
abbrev pub upto : {A : Type 0} → ℕ → List A → List A → List A
upto n new old = take n new ++ drop n old

pub one_more : {A : Type 0} (n : ℕ) (new old : List A) (d : A) → length new ≡ length old → n < length old → set (upto n new old) n (get_or new n d) ≡ upto (suc n) new old
one_more zero [] old d same lt = absurd (omega arith)
one_more zero (x ∷ new) [] d same lt = absurd (omega arith)
one_more zero (x ∷ new) (y ∷ old) d same lt = refl
one_more (suc n) [] old d same lt = absurd (omega arith)
one_more (suc n) (x ∷ new) [] d same lt = absurd (omega arith)
one_more (suc n) (x ∷ new) (y ∷ old) d same lt = ap (λ (l : _). x ∷ l) (one_more n new old d (omega arith) (omega arith))

pub all_of : {A : Type 0} (n : ℕ) (new old : List A) → n ≡ length new → length new ≡ length old → upto n new old ≡ new
all_of zero [] [] is same = refl
all_of zero [] (y ∷ old) is same = absurd (omega arith)
all_of zero (x ∷ new) old is same = absurd (omega arith)
all_of (suc n) [] old is same = absurd (omega arith)
all_of (suc n) (x ∷ new) [] is same = absurd (omega arith)
all_of (suc n) (x ∷ new) (y ∷ old) is same = ap (λ (l : _). x ∷ l) (all_of n new old (omega arith) (omega arith))

-- ---- the rows of a plane
pub no_row : (old : Image) (plane : ℕ) (new : List (List ℕ)) → old ≡ with_plane old plane (upto 0 new (plane_of old plane))
no_row old plane new = ap (λ (ps : List (List (List ℕ))). record { shape = old.shape; planes = ps }) (sym (set-get_or old.planes plane []))

pub row_more : (old : Image) (plane y : ℕ) (new : List (List ℕ)) (row : List ℕ) → plane < length old.planes → length new ≡ length (plane_of old plane) → y < length (plane_of old plane) → row ≡ get_or new y []
    → with_row (with_plane old plane (upto y new (plane_of old plane))) plane y row ≡ with_plane old plane (upto (y + 1) new (plane_of old plane))
row_more old plane y new row has same lt is =
    let so_far : List (List ℕ) = upto y new (plane_of old plane) in
    let here : plane_of (with_plane old plane so_far) plane ≡ so_far = get_or-set_same old.planes plane so_far [] has in
    let next : set so_far y row ≡ upto (y + 1) new (plane_of old plane) =
    ap (set so_far y) is ∙ one_more y new (plane_of old plane) [] same lt ∙ ap (λ k. upto k new (plane_of old plane)) (sym (add-one y)) in
    ap (λ (ps : List (List (List ℕ))). record { shape = old.shape; planes = ps })
    (ap (λ (p : List (List ℕ)). set (set old.planes plane so_far) plane (set p y row)) here
    ∙ set-set old.planes plane so_far (set so_far y row)
    ∙ ap (λ (p : List (List ℕ)). set old.planes plane p) next)

height : (image : Image) (s : Layout) (plane : ℕ) → IsPicture image → image.shape ≡ s → plane < plane_count s → length (plane_of image plane) ≡ plane_height s plane
height image s plane sound at has =
    let here : plane < plane_count image.shape = subst (λ (t : Layout). plane < plane_count t) (sym at) has in
    (sound.planes plane here).len ∙ ap (λ (t : Layout). plane_height t plane) at

-- Two pictures of one shape, and one that they are blended into.
pub record AreAlike (old from to : Image) : Type 0 where
  pub whole : IsPicture old
  pub first : IsPicture from
  pub second : IsPicture to
  pub first_shape : from.shape ≡ old.shape
  pub second_shape : to.shape ≡ old.shape

pub row_put : (weight plane y : ℕ) (old from to now next : Image) → AreAlike old from to → plane < plane_count old.shape → y < plane_height old.shape plane
    → now ≡ with_plane old plane (upto y (blended_plane weight (plane_of from plane) (plane_of to plane)) (plane_of old plane))
    → next ≡ with_row now plane y (blended_row weight (row_of from plane y) (row_of to plane y))
    → next ≡ with_plane old plane (upto (y + 1) (blended_plane weight (plane_of from plane) (plane_of to plane)) (plane_of old plane))
row_put weight plane y old from to now next alike has below so_far put =
    let s : Layout = old.shape in
    let tall : length (plane_of old plane) ≡ plane_height s plane = height old s plane alike.whole refl has in
    let first : length (plane_of from plane) ≡ plane_height s plane = height from s plane alike.first alike.first_shape has in
    let second : length (plane_of to plane) ≡ plane_height s plane = height to s plane alike.second alike.second_shape has in
    let same : length (plane_of to plane) ≡ length (plane_of from plane) = second ∙ sym first in
    let new : List (List ℕ) = blended_plane weight (plane_of from plane) (plane_of to plane) in
    let all : length new ≡ length (plane_of from plane) = length-pairwise (blended_row weight) (plane_of from plane) (plane_of to plane) same in
    let row : blended_row weight (row_of from plane y) (row_of to plane y) ≡ get_or new y [] = sym (get-pairwise (blended_row weight) (plane_of from plane) (plane_of to plane) y [] same (omega (arith, first, below))) in
    put
    ∙ ap (λ (i : Image). with_row i plane y (blended_row weight (row_of from plane y) (row_of to plane y))) so_far
    ∙ row_more old plane y new (blended_row weight (row_of from plane y) (row_of to plane y)) (omega (arith, alike.whole.count, has)) (omega (arith, all, first, tall)) (omega (arith, tall, below)) row

pub rows_done : (weight plane y : ℕ) (old from to now : Image) → AreAlike old from to → plane < plane_count old.shape → plane_height old.shape plane ≡ y
    → now ≡ with_plane old plane (upto y (blended_plane weight (plane_of from plane) (plane_of to plane)) (plane_of old plane))
    → now ≡ with_plane old plane (blended_plane weight (plane_of from plane) (plane_of to plane))
rows_done weight plane y old from to now alike has last so_far =
    let s : Layout = old.shape in
    let tall : length (plane_of old plane) ≡ plane_height s plane = height old s plane alike.whole refl has in
    let first : length (plane_of from plane) ≡ plane_height s plane = height from s plane alike.first alike.first_shape has in
    let second : length (plane_of to plane) ≡ plane_height s plane = height to s plane alike.second alike.second_shape has in
    let new : List (List ℕ) = blended_plane weight (plane_of from plane) (plane_of to plane) in
    let all : length new ≡ length (plane_of from plane) = length-pairwise (blended_row weight) (plane_of from plane) (plane_of to plane) (second ∙ sym first) in
    so_far ∙ ap (with_plane old plane) (all_of y new (plane_of old plane) (omega (arith, all, first, last)) (omega (arith, all, first, tall)))

-- ---- the planes of a picture
pub plane_put : (weight plane : ℕ) (from to now next : Image) → IsPicture from → IsPicture to → to.shape ≡ from.shape → plane < plane_count from.shape
    → now ≡ record { shape = from.shape; planes = upto plane (blend weight from to).planes from.planes }
    → next ≡ with_plane now plane (blended_plane weight (plane_of from plane) (plane_of to plane))
    → next ≡ record { shape = from.shape; planes = upto (plane + 1) (blend weight from to).planes from.planes }
plane_put weight plane from to now next first second same has so_far put =
    let count : length to.planes ≡ length from.planes = second.count ∙ ap plane_count same ∙ sym first.count in
    let all : length (blend weight from to).planes ≡ length from.planes = length-pairwise (blended_plane weight) from.planes to.planes count in
    let within : plane < length from.planes = omega (arith, first.count, has) in
    let rows : List (List ℕ) = blended_plane weight (plane_of from plane) (plane_of to plane) in
    let here : rows ≡ get_or (blend weight from to).planes plane [] = sym (get-pairwise (blended_plane weight) from.planes to.planes plane [] count within) in
    put
    ∙ ap (λ (i : Image). with_plane i plane rows) so_far
    ∙ ap (λ (ps : List (List (List ℕ))). record { shape = from.shape; planes = ps })
    (ap (set (upto plane (blend weight from to).planes from.planes) plane) here
    ∙ one_more plane (blend weight from to).planes from.planes [] all within
    ∙ ap (λ k. upto k (blend weight from to).planes from.planes) (sym (add-one plane)))

pub planes_done : (weight plane : ℕ) (from to now : Image) → IsPicture from → IsPicture to → to.shape ≡ from.shape → plane_count from.shape ≡ plane
    → now ≡ record { shape = from.shape; planes = upto plane (blend weight from to).planes from.planes } → now ≡ blend weight from to
planes_done weight plane from to now first second same last so_far =
    let count : length to.planes ≡ length from.planes = second.count ∙ ap plane_count same ∙ sym first.count in
    let all : length (blend weight from to).planes ≡ length from.planes = length-pairwise (blended_plane weight) from.planes to.planes count in
    so_far ∙ ap (λ (ps : List (List (List ℕ))). record { shape = from.shape; planes = ps })
    (all_of plane (blend weight from to).planes from.planes (omega (arith, all, first.count, last)) all)
