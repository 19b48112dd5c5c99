-- A picture's samples that are written over another one's: what was written is right, and what was right before stays so.
use Rattle.std.proofs.Common.{◌≡◌, ◌≢◌, ℕ, zero, suc, ◌+◌, ◌-◌, ◌<◌, ◌≤◌, List, [], ◌∷◌, ◌++◌, length, take, drop, set, get_or, ◌⊎◌, refl, sym, ◌∙◌, ap, subst, arith, inl, inr}
use Rattle.std.specs.Prelude.{slice_index}
use Rattle.std.proofs.lemmas.Bool.{cases_lt, cases_order}
use Rattle.std.proofs.Math.Seq.{get_or-append_right}
use Rattle.std.proofs.lemmas.List.{length-set, length-take-le, length-drop, get_or-set_same, get_or-set_other, get_or-take, get_or-drop, get_or_append_left}
use Rattle.pic_planes.specs.Picture.{Image, plane_of, row_of, with_row}
use Rattle.pic_planes.specs.Bytes.{pasted}
use Rattle.pic_planes.proofs.Pasted.{length-pasted}
use Rattle.ffv1_slice.specs.declared.area.Area.{Area}
use Rattle.ffv1_slice.specs.Area.{below, with_first, with_rows}
use Rattle.ffv1_slice.specs.Slice.{Slice}
use Rattle.ffv1_slice.specs.Writing.{first_samples, samples_from, samples}
use Rattle.ffv1_golomb.specs.Law.{copied}
use Rattle.ffv1_frame.proofs.SlicesBack.{after_slice}

-- ---- a row
pasted_there : (old row : List ℕ) (x k : ℕ) → x ≤ k → k < x + length row → x + length row ≤ length old → slice_index (pasted old x row) k ≡ slice_index row (k - x)
pasted_there old row x k above below fits =
    let rest : List ℕ = drop (length row) (drop x old) in
    let front : length (take x old) ≡ x = length-take-le x old (omega arith) in
    get_or-append_right (take x old) (row ++ rest) k 0 (omega (arith, front))
    ∙ ap (λ i. get_or (row ++ rest) (k - i) 0) front
    ∙ get_or_append_left row rest 0 (k - x) (omega arith)

pasted_before : (old row : List ℕ) (x k : ℕ) → k < x → x + length row ≤ length old → slice_index (pasted old x row) k ≡ slice_index old k
pasted_before old row x k below fits =
    get_or_append_left (take x old) (row ++ drop (length row) (drop x old)) 0 k (omega (arith, length-take-le x old (omega arith))) ∙ get_or-take x old k 0 below

pasted_behind : (old row : List ℕ) (x k : ℕ) → x + length row ≤ k → x + length row ≤ length old → slice_index (pasted old x row) k ≡ slice_index old k
pasted_behind old row x k above fits =
    let rest : List ℕ = drop (length row) (drop x old) in
    let front : length (take x old) ≡ x = length-take-le x old (omega arith) in
    get_or-append_right (take x old) (row ++ rest) k 0 (omega (arith, front))
    ∙ ap (λ i. get_or (row ++ rest) (k - i) 0) front
    ∙ get_or-append_right row rest (k - x) 0 (omega arith)
    ∙ get_or-drop (length row) (drop x old) (k - x - length row) 0
    ∙ get_or-drop x old (length row + (k - x - length row)) 0
    ∙ ap (λ i. get_or old i 0) {x = x + (length row + (k - x - length row))} {y = k} (omega arith)

-- ---- a row of a picture
row_here : (before : Image) (plane y : ℕ) (row : List ℕ) → plane < length before.planes → y < length (plane_of before plane) → row_of (with_row before plane y row) plane y ≡ row
row_here before plane y row has tall =
    ap (λ (p : List (List ℕ)). get_or p y []) (get_or-set_same before.planes plane (set (plane_of before plane) y row) [] has) ∙ get_or-set_same (plane_of before plane) y row [] tall

plane_else : (before : Image) (plane y : ℕ) (row : List ℕ) (other : ℕ) → other ≢ plane → plane_of (with_row before plane y row) other ≡ plane_of before other
plane_else before plane y row other ne = get_or-set_other before.planes plane other (set (plane_of before plane) y row) [] ne

row_cases : (before : Image) (plane y : ℕ) (row : List ℕ) (other k : ℕ) → plane < length before.planes → y < length (plane_of before plane)
    → ((other ≡ plane) × (k ≡ y) × (row_of (with_row before plane y row) other k ≡ row)) ⊎ (row_of (with_row before plane y row) other k ≡ row_of before other k)
row_cases before plane y row other k has tall =
    let new : Image = with_row before plane y row in
    let else_plane : other ≢ plane → row_of new other k ≡ row_of before other k = λ ne. ap (λ (p : List (List ℕ)). get_or p k []) (plane_else before plane y row other ne) in
    let else_row : other ≡ plane → k ≢ y → row_of new other k ≡ row_of before other k = λ same ne.
    subst (λ (o : ℕ). row_of new o k ≡ row_of before o k) (sym same)
    (ap (λ (p : List (List ℕ)). get_or p k []) (get_or-set_same before.planes plane (set (plane_of before plane) y row) [] has) ∙ get_or-set_other (plane_of before plane) y k row [] ne) in
    elim (cases_order other plane) [
      | inl same ↦
          elim (cases_order k y) [
            | inl at ↦ inl (same, at, subst (λ (o : ℕ). row_of new o k ≡ row) (sym same) (subst (λ (i : ℕ). row_of new plane i ≡ row) (sym at) (row_here before plane y row has tall)))
            | inr (inl less) ↦ inr (else_row same (λ e. omega arith))
            | inr (inr more) ↦ inr (else_row same (λ e. omega arith))
          ]
      | inr (inl less) ↦ inr (else_plane (λ e. omega arith))
      | inr (inr more) ↦ inr (else_plane (λ e. omega arith))
    ]

height_kept : (before : Image) (plane y : ℕ) (row : List ℕ) (other : ℕ) → plane < length before.planes → length (plane_of (with_row before plane y row) other) ≡ length (plane_of before other)
height_kept before plane y row other has =
    let new : Image = with_row before plane y row in
    let here : length (plane_of new plane) ≡ length (plane_of before plane) =
    ap length (get_or-set_same before.planes plane (set (plane_of before plane) y row) [] has) ∙ length-set (plane_of before plane) y row in
    elim (cases_order other plane) [
      | inl same ↦ subst (λ (o : ℕ). length (plane_of new o) ≡ length (plane_of before o)) (sym same) here
      | inr (inl less) ↦ ap length (plane_else before plane y row other (λ e. omega arith))
      | inr (inr more) ↦ ap length (plane_else before plane y row other (λ e. omega arith))
    ]

-- ---- pictures
abbrev pub sample_at : Image → ℕ → ℕ → ℕ → ℕ
sample_at image plane y x = slice_index (row_of image plane y) x

-- A picture has the sizes of another one.
pub record HasSizes (image other : Image) : Type 0 where
  pub count : length other.planes ≡ length image.planes
  pub heights : (plane : ℕ) → length (plane_of other plane) ≡ length (plane_of image plane)
  pub widths : (plane y : ℕ) → length (row_of other plane y) ≡ length (row_of image plane y)

abbrev pub IsRight : Image → Image → ℕ → ℕ → ℕ → Type 0
IsRight image other plane y x = sample_at other plane y x ≡ sample_at image plane y x

-- Samples are written at some places: they are right, and those that were right stay so.
pub record Copies (image before after : Image) (Place : ℕ → ℕ → ℕ → Type 0) : Type 0 where
  pub shape : after.shape ≡ before.shape
  pub sizes : HasSizes image after
  pub there : (plane y x : ℕ) → Place plane y x → IsRight image after plane y x
  pub kept : (plane y x : ℕ) → IsRight image before plane y x → IsRight image after plane y x

pub nothing_copied : (image before : Image) → HasSizes image before → Copies image before before (λ plane y x. ⊥)
nothing_copied image before sizes = record { shape = refl; sizes = sizes; there = λ plane y x never. absurd never; kept = λ plane y x right. right }

pub both_copied : (image before between after : Image) (First Second : ℕ → ℕ → ℕ → Type 0) → Copies image before between First → Copies image between after Second
    → Copies image before after (λ plane y x. First plane y x ⊎ Second plane y x)
both_copied image before between after First Second first second = record {
  shape = second.shape ∙ first.shape;
  sizes = second.sizes;
  there = λ plane y x place. elim place [ inl one ↦ second.kept plane y x (first.there plane y x one) | inr other ↦ second.there plane y x other ];
  kept = λ plane y x right. second.kept plane y x (first.kept plane y x right);
}

pub copied_at : (image before after : Image) (Place Other : ℕ → ℕ → ℕ → Type 0) → ((plane y x : ℕ) → Other plane y x → Place plane y x) → Copies image before after Place → Copies image before after Other
copied_at image before after Place Other is copies = record { shape = copies.shape; sizes = copies.sizes; there = λ plane y x place. copies.there plane y x (is plane y x place); kept = copies.kept }

-- ---- the rows of an area
-- Some rows of an area lie within the picture.
pub record Fits (image : Image) (area : Area) (count : ℕ) : Type 0 where
  pub plane : area.plane < length image.planes
  pub height : area.y + count ≤ length (plane_of image area.plane)
  pub width : (y : ℕ) → y < area.y + count → area.x + area.width ≤ length (row_of image area.plane y)

-- the places of some rows of an area
abbrev pub InRowsOf : Area → ℕ → ℕ → ℕ → ℕ → Type 0
InRowsOf area count plane y x = (plane ≡ area.plane) × (area.y ≤ y) × (y < area.y + count) × (area.x ≤ x) × (x < area.x + area.width)

row_copied : (image before : Image) (area : Area) (count : ℕ) → HasSizes image before → Fits image area (suc count) → Copies image before (with_first before area (first_samples image area)) (InRowsOf area 1)
row_copied image before area count sizes fits =
    let p : ℕ = area.plane in
    let y : ℕ = area.y in
    let old : List ℕ = row_of before p y in
    let own : List ℕ = row_of image p y in
    let row : List ℕ = first_samples image area in
    let new : List ℕ = pasted old area.x row in
    let wide : area.x + area.width ≤ length own = fits.width y (omega arith) in
    let long : length row ≡ area.width = length-take-le area.width (drop area.x own) (omega (arith, length-drop area.x own)) in
    let room : area.x + length row ≤ length old = omega (arith, sizes.widths p y) in
    let has : p < length before.planes = omega (arith, sizes.count, fits.plane) in
    let tall : y < length (plane_of before p) = omega (arith, sizes.heights p, fits.height) in
    let after : Image = with_first before area row in
    let here : (x : ℕ) → area.x ≤ x → x < area.x + area.width → slice_index new x ≡ slice_index own x = λ x above below.
    pasted_there old row area.x x above (omega (arith, long)) room
    ∙ get_or-take area.width (drop area.x own) (x - area.x) 0 (omega arith)
    ∙ get_or-drop area.x own (x - area.x) 0
    ∙ ap (λ i. get_or own i 0) {x = area.x + (x - area.x)} {y = x} (omega arith) in
    let right_stays : (x : ℕ) → slice_index old x ≡ slice_index own x → slice_index new x ≡ slice_index own x = λ x right.
    elim (cases_lt x area.x) [
      | inl less ↦ pasted_before old row area.x x less room ∙ right
      | inr above ↦
          elim (cases_lt x (area.x + area.width)) [
            | inl below ↦ here x above below
            | inr behind ↦ pasted_behind old row area.x x (omega (arith, long)) room ∙ right
          ]
    ] in
    record {
      shape = refl;
      sizes = record {
        count = length-set before.planes p (set (plane_of before p) y new) ∙ sizes.count;
        heights = λ plane. height_kept before p y new plane has ∙ sizes.heights plane;
        widths = λ plane k. elim (row_cases before p y new plane k has tall) [
          | inl (same, at, is) ↦
              ap length is ∙ length-pasted old area.x row room ∙ sizes.widths p y
              ∙ ap (λ o. length (row_of image o y)) (sym same) ∙ ap (λ i. length (row_of image plane i)) (sym at)
          | inr is ↦ ap length is ∙ sizes.widths plane k
        ];
      };
      there = λ plane k x (same, low, high, above, below).
          let at : k ≡ y = omega arith in
          subst (λ (o : ℕ). IsRight image after o k x) (sym same) (subst (λ (i : ℕ). IsRight image after p i x) (sym at) (ap (λ (r : List ℕ). slice_index r x) (row_here before p y new has tall) ∙ here x above below));
      kept = λ plane k x right. elim (row_cases before p y new plane k has tall) [
        | inl (same, at, is) ↦
            let there : slice_index old x ≡ slice_index own x = subst (λ (i : ℕ). IsRight image before p i x) at (subst (λ (o : ℕ). IsRight image before o k x) same right) in
            ap (λ (r : List ℕ). slice_index r x) is ∙ right_stays x there
            ∙ ap (λ o. sample_at image o y x) (sym same) ∙ ap (λ i. sample_at image plane i x) (sym at)
        | inr is ↦ ap (λ (r : List ℕ). slice_index r x) is ∙ right
      ];
    }

fits_below : (image : Image) (area : Area) (count : ℕ) → Fits image area (suc count) → Fits image (below area) count
fits_below image area count fits = record { plane = fits.plane; height = omega (arith, fits.height); width = λ y lt. fits.width y (omega arith) }

row_split : (area : Area) (count plane y x : ℕ) → InRowsOf area (suc count) plane y x → InRowsOf area 1 plane y x ⊎ InRowsOf (below area) count plane y x
row_split area count plane y x (same, low, high, above, under) =
    elim (cases_lt y (area.y + 1)) [
      | inl first ↦ inl (same, low, first, above, under)
      | inr later ↦ inr (same, later, omega arith, above, under)
    ]

rows_copied : (image before : Image) (area : Area) (count : ℕ) → HasSizes image before → Fits image area count → Copies image before (with_rows before area (samples_from image area count)) (InRowsOf area count)
rows_copied image before area zero sizes fits =
    copied_at image before before (λ plane y x. ⊥) (InRowsOf area 0) (λ plane y x place. omega (arith, place.1, place.2)) (nothing_copied image before sizes)
rows_copied image before area (suc count) sizes fits =
    let next : Image = with_first before area (first_samples image area) in
    let first = row_copied image before area count sizes fits in
    let rest = rows_copied image next (below area) count first.sizes (fits_below image area count fits) in
    copied_at image before (with_rows next (below area) (samples_from image (below area) count)) (λ plane y x. InRowsOf area 1 plane y x ⊎ InRowsOf (below area) count plane y x) (InRowsOf area (suc count)) (row_split area count)
    (both_copied image before next (with_rows next (below area) (samples_from image (below area) count)) (InRowsOf area 1) (InRowsOf (below area) count) first rest)

-- ---- areas
abbrev pub InAreas : List Area → ℕ → ℕ → ℕ → Type 0
InAreas [] plane y x = ⊥
InAreas (area ∷ more) plane y x = InRowsOf area area.height plane y x ⊎ InAreas more plane y x

abbrev pub FitAll : Image → List Area → Type 0
FitAll image [] = Unit {0}
FitAll image (area ∷ more) = Fits image area area.height × FitAll image more

areas_copied : (image before : Image) (areas : List Area) → HasSizes image before → FitAll image areas → Copies image before (copied image areas before) (InAreas areas)
areas_copied image before [] sizes fits = nothing_copied image before sizes
areas_copied image before (area ∷ more) sizes fits =
    let next : Image = with_rows before area (samples image area) in
    let first = rows_copied image before area area.height sizes fits.0 in
    both_copied image before next (copied image more next) (InRowsOf area area.height) (InAreas more) first (areas_copied image next more first.sizes fits.1)

abbrev pub InSlice : Slice → ℕ → ℕ → ℕ → Type 0
InSlice slice plane y x = InAreas slice.luma.areas plane y x ⊎ InAreas slice.chroma.areas plane y x

pub slice_copied : (image before : Image) (slice : Slice) → HasSizes image before → FitAll image slice.luma.areas → FitAll image slice.chroma.areas → Copies image before (after_slice slice image before) (InSlice slice)
slice_copied image before slice sizes luma chroma =
    let next : Image = copied image slice.luma.areas before in
    let first = areas_copied image before slice.luma.areas sizes luma in
    both_copied image before next (copied image slice.chroma.areas next) (InAreas slice.luma.areas) (InAreas slice.chroma.areas) first (areas_copied image next slice.chroma.areas first.sizes chroma)
