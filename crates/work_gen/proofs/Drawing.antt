-- What is drawn so far.
use Rattle.std.proofs.Common.{◌≡◌, ℕ, zero, suc, ◌+◌, ◌*◌, ◌<◌, ◌≤◌, List, [], ◌∷◌, length, get_or, set, refl, sym, ◌∙◌, ap, subst, arith, add-one, map}
use Rattle.std.specs.List.{range_with_len}
use Rattle.std.proofs.lemmas.List.FromFn.{length-map-range_with_len, get_or-map-range_with_len, fill_by_all}
use Rattle.pic_planes.specs.Shape.{Layout, plane_count, plane_width, plane_height}
use Rattle.pic_planes.specs.Picture.{Image, IsPicture, plane_of, row_of, with_row}
use Rattle.clip_store.specs.Blend.{with_plane}
use Rattle.clip_store.proofs.Blending.{upto, one_more, all_of, row_more}
use Rattle.work_gen.specs.Picture.{clip_shape, sample, row, rows, picture}

-- ---- a row
pub row_filled : (plane y frame : ℕ) (samples : List ℕ) → length samples ≡ plane_width clip_shape plane
    → ((k : ℕ) → k < plane_width clip_shape plane → get_or samples k 0 ≡ sample plane k y frame) → samples ≡ row plane y frame
unfolding row
row_filled plane y frame samples len each = fill_by_all (λ x. sample plane x y frame) samples (plane_width clip_shape plane) 0 len each

-- ---- a plane
length-rows : (plane frame : ℕ) → length (rows plane frame) ≡ plane_height clip_shape plane
unfolding rows
length-rows plane frame = length-map-range_with_len (λ y. row plane y frame) 0 (plane_height clip_shape plane)

row_at : (plane y frame : ℕ) → y < plane_height clip_shape plane → row plane y frame ≡ get_or (rows plane frame) y []
unfolding rows
row_at plane y frame lt = sym (get_or-map-range_with_len (λ y. row plane y frame) 0 (plane_height clip_shape plane) y y [] lt (omega arith))

count : (image : Image) → IsPicture image → image.shape ≡ clip_shape → length image.planes ≡ 3
count image sound at = sound.count ∙ ap plane_count at

height : (image : Image) (plane : ℕ) → IsPicture image → image.shape ≡ clip_shape → plane < 3 → length (plane_of image plane) ≡ plane_height clip_shape plane
height image plane sound at has =
    let here : plane < plane_count image.shape = subst (λ (t : Layout). plane < plane_count t) (sym at) has in
    (sound.planes plane here).len ∙ ap (λ (t : Layout). plane_height t plane) at

pub row_drawn : (plane y frame : ℕ) (old now next : Image) → IsPicture old → old.shape ≡ clip_shape → plane < 3 → y < plane_height clip_shape plane
    → now ≡ with_plane old plane (upto y (rows plane frame) (plane_of old plane)) → next ≡ with_row now plane y (row plane y frame)
    → next ≡ with_plane old plane (upto (y + 1) (rows plane frame) (plane_of old plane))
row_drawn plane y frame old now next sound at has below so_far put =
    let tall = height old plane sound at has in
    put
    ∙ ap (λ (i : Image). with_row i plane y (row plane y frame)) so_far
    ∙ row_more old plane y (rows plane frame) (row plane y frame) (omega (arith, count old sound at)) (length-rows plane frame ∙ sym tall) (omega (arith, tall, below)) (row_at plane y frame below)

pub rows_drawn : (plane y frame : ℕ) (old now : Image) → IsPicture old → old.shape ≡ clip_shape → plane < 3 → y ≡ plane_height clip_shape plane
    → now ≡ with_plane old plane (upto y (rows plane frame) (plane_of old plane)) → now ≡ with_plane old plane (rows plane frame)
rows_drawn plane y frame old now sound at has last so_far =
    let tall = height old plane sound at has in
    so_far ∙ ap (with_plane old plane) (all_of y (rows plane frame) (plane_of old plane) (last ∙ sym (length-rows plane frame)) (length-rows plane frame ∙ sym tall))

-- ---- the planes
plane_at : (plane frame : ℕ) → plane < 3 → rows plane frame ≡ get_or (picture frame).planes plane []
plane_at zero frame has = refl
plane_at (suc zero) frame has = refl
plane_at (suc (suc zero)) frame has = refl
plane_at (suc (suc (suc plane))) frame has = absurd (omega arith)

-- The first planes are drawn.
abbrev pub drawn : (plane frame : ℕ) → Image → Image
drawn plane frame old = record { shape = clip_shape; planes = upto plane (picture frame).planes old.planes }

pub none_drawn : (frame : ℕ) (old : Image) → old.shape ≡ clip_shape → old ≡ drawn 0 frame old
none_drawn frame old at = ap (λ (s : Layout). record { shape = s; planes = old.planes }) at

pub plane_drawn : (plane frame : ℕ) (old now next : Image) → IsPicture old → old.shape ≡ clip_shape → plane < 3 → now ≡ drawn plane frame old
    → next ≡ with_plane now plane (rows plane frame) → next ≡ drawn (plane + 1) frame old
plane_drawn plane frame old now next sound at has so_far put =
    put
    ∙ ap (λ (i : Image). with_plane i plane (rows plane frame)) so_far
    ∙ ap (λ (ps : List (List (List ℕ))). record { shape = clip_shape; planes = ps })
    (ap (set (upto plane (picture frame).planes old.planes) plane) (plane_at plane frame has)
    ∙ one_more plane (picture frame).planes old.planes [] (sym (count old sound at)) (omega (arith, count old sound at))
    ∙ ap (λ k. upto k (picture frame).planes old.planes) (sym (add-one plane)))

pub all_drawn : (plane frame : ℕ) (old now : Image) → IsPicture old → old.shape ≡ clip_shape → plane ≡ 3 → now ≡ drawn plane frame old → now ≡ picture frame
all_drawn plane frame old now sound at last so_far =
    so_far ∙ ap (λ (ps : List (List (List ℕ))). record { shape = clip_shape; planes = ps }) (all_of plane (picture frame).planes old.planes last (sym (count old sound at)))
