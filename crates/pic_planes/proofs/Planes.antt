-- The planes that lie in bytes: a row of them, and bytes with another row.
use Rattle.std.proofs.Common.{◌≡◌, ℕ, zero, suc, ◌+◌, ◌-◌, ◌*◌, ◌<◌, ◌≤◌, List, [], ◌∷◌, ◌++◌, length, take, drop, set, get_or, replicate, refl, sym, ◌∙◌, ap, arith, length-drop, append_assoc, subst, inl, inr, eqb}
use Rattle.std.specs.List.{concat, flat_map}
use Rattle.std.proofs.lemmas.List.{drop-drop, length-take-le, take_at, drop_at, replicate-append-replicate, length-replicate, take_all, get_or-take, get_or-drop, get_or_past, length-take, append-nil, length-append}
use Rattle.std.proofs.lemmas.Bool.{cases_Bool, eqb-true, eq-eqb, cases_lt}
use Rattle.std.proofs.Math.Nat.{mul-le-mul_right}
use Rattle.std.proofs.Math.Seq.{take-add}
use Rattle.pic_planes.specs.declared.shape.Chroma.{Chroma}
use Rattle.pic_planes.specs.declared.shape.Chroma.TheVariants.{Grey, Shifts}
use Rattle.pic_planes.specs.Shape.{Layout, layout, IsShape, plane_count, plane_width, plane_height}
use Rattle.pic_planes.specs.Picture.{Image, plane_of, row_of, with_row, filled, filled_planes, IsRow, IsPicture}
use Rattle.pic_planes.specs.Bytes.{Size, size, sizes, sample_count, rows_in, planes_in, image_in, row_start, pasted, chroma_area, values_of}
use Rattle.pic_planes.specs.Lending.{with_written}
use Rattle.pic_planes.proofs.Pasted.{length-pasted, take-pasted, drop-pasted, take-pasted_here, drop-pasted_behind}

-- ---- rows
pub length-rows_in : (w n : ℕ) (b : List ℕ) → length (rows_in w n b) ≡ n
unfolding rows_in
length-rows_in w zero b = refl
length-rows_in w (suc n) b = ap suc (length-rows_in w n (drop w b))

pub get-rows_in : (w n k : ℕ) (b : List ℕ) → k < n → get_or (rows_in w n b) k [] ≡ take w (drop (k * w) b)
unfolding rows_in
get-rows_in w zero k b lt = absurd (omega arith)
get-rows_in w (suc n) zero b lt = ap (λ i. take w (drop i b)) {x = 0} {y = 0 * w} (omega arith)
get-rows_in w (suc n) (suc k) b lt =
    get-rows_in w n k (drop w b) (omega arith) ∙ ap (take w) (drop-drop (k * w) w b ∙ ap (λ i. drop i b) (omega arith))

rows_in-before : (w n i : ℕ) (b ws : List ℕ) → n * w ≤ i → i ≤ length b → rows_in w n (pasted b i ws) ≡ rows_in w n b
unfolding rows_in
rows_in-before w zero i b ws before within = refl
rows_in-before w (suc n) i b ws before within =
    let split : i ≡ w + (i - w) = omega arith in
    let first : take w (pasted b i ws) ≡ take w b = take-pasted b w i ws (omega arith) within in
    let moved : drop w (pasted b i ws) ≡ pasted (drop w b) (i - w) ws = ap (λ k. drop w (pasted b k ws)) split ∙ drop-pasted b w (i - w) ws (omega arith) in
    let rest : rows_in w n (pasted (drop w b) (i - w) ws) ≡ rows_in w n (drop w b) = rows_in-before w n (i - w) (drop w b) ws (omega arith) (omega (arith, length-drop w b)) in
    ap (λ (x : List ℕ). x ∷ rows_in w n (drop w (pasted b i ws))) first ∙ ap (λ (x : List (List ℕ)). take w b ∷ x) (ap (rows_in w n) moved ∙ rest)

rows_in-set : (n k : ℕ) (b ws : List ℕ) → k < n → k * length ws + length ws ≤ length b → rows_in (length ws) n (pasted b (k * length ws) ws) ≡ set (rows_in (length ws) n b) k ws
unfolding rows_in
rows_in-set zero k b ws lt within = absurd (omega arith)
rows_in-set (suc n) zero b ws lt within =
    let none : 0 * length ws ≡ 0 = omega arith in
    ap (λ i. rows_in (length ws) (suc n) (pasted b i ws)) none
    ∙ ap (λ (x : List ℕ). x ∷ rows_in (length ws) n (drop (length ws) (pasted b 0 ws))) (take-pasted_here b ws)
    ∙ ap (λ (x : List ℕ). ws ∷ rows_in (length ws) n x) (drop-pasted_behind b (length ws) 0 ws (omega arith) (omega arith))
rows_in-set (suc n) (suc k) b ws lt within =
    let w : ℕ = length ws in
    let split : suc k * w ≡ w + k * w = omega arith in
    let first : take w (pasted b (suc k * w) ws) ≡ take w b = take-pasted b w (suc k * w) ws (omega arith) (omega arith) in
    let moved : drop w (pasted b (suc k * w) ws) ≡ pasted (drop w b) (k * w) ws = ap (λ i. drop w (pasted b i ws)) split ∙ drop-pasted b w (k * w) ws (omega arith) in
    ap (λ (x : List ℕ). x ∷ rows_in w n (drop w (pasted b (suc k * w) ws))) first
    ∙ ap (λ (x : List (List ℕ)). take w b ∷ x) (ap (rows_in w n) moved ∙ rows_in-set n k (drop w b) ws (omega arith) (omega (arith, length-drop w b)))

rows_in-set_at : (w n k : ℕ) (b ws : List ℕ) → length ws ≡ w → k < n → n * w ≤ length b → rows_in w n (pasted b (k * w) ws) ≡ set (rows_in w n b) k ws
rows_in-set_at w n k b ws e lt within =
    let row_fits : (k + 1) * w ≤ n * w = mul-le-mul_right w (omega arith) in
    let P : ℕ → Type 0 = λ x. k * x + x ≤ length b → rows_in x n (pasted b (k * x) ws) ≡ set (rows_in x n b) k ws in
    subst P e (λ fits. rows_in-set n k b ws lt fits) (omega arith)

concat-rows_in : (w n : ℕ) (b : List ℕ) → concat (rows_in w n b) ≡ take (n * w) b
unfolding rows_in
concat-rows_in w zero b = ap (λ k. take k b) {x = 0} {y = 0 * w} (omega arith)
concat-rows_in w (suc n) b =
    ap (λ (x : List ℕ). take w b ++ x) (concat-rows_in w n (drop w b)) ∙ sym (take-add w (n * w) b) ∙ ap (λ k. take k b) {x = w + n * w} {y = suc n * w} (omega arith)

rows_in-replicate : (w n value : ℕ) (more : List ℕ) → rows_in w n (replicate (n * w) value ++ more) ≡ replicate n (replicate w value)
unfolding rows_in
rows_in-replicate w zero value more = refl
rows_in-replicate w (suc n) value more =
    let split : suc n * w ≡ w + n * w = omega arith in
    let bytes : replicate (suc n * w) value ++ more ≡ replicate w value ++ (replicate (n * w) value ++ more) =
    ap (λ k. replicate k value ++ more) split ∙ ap (λ (x : List ℕ). x ++ more) (sym (replicate-append-replicate w (n * w) value)) ∙ append_assoc (replicate w value) (replicate (n * w) value) more in
    ap (rows_in w (suc n)) bytes
    ∙ ap (λ (x : List ℕ). x ∷ rows_in w n (drop w (replicate w value ++ (replicate (n * w) value ++ more)))) (take_at (replicate w value) (replicate (n * w) value ++ more) w (length-replicate w value))
    ∙ ap (λ (x : List (List ℕ)). replicate w value ∷ x) (ap (rows_in w n) (drop_at (replicate w value) (replicate (n * w) value ++ more) w (length-replicate w value)) ∙ rows_in-replicate w n value more)

-- ---- planes
abbrev pub size_at : List Size → ℕ → Size
size_at ss p = get_or ss p (size 0 0)

pub length-planes_in : (ss : List Size) (b : List ℕ) → length (planes_in ss b) ≡ length ss
unfolding planes_in
length-planes_in [] b = refl
length-planes_in (s ∷ ss) b = ap suc (length-planes_in ss (drop (s.width * s.height) b))

pub get-planes_in : (ss : List Size) (p : ℕ) (b : List ℕ) → p < length ss
    → get_or (planes_in ss b) p [] ≡ rows_in (size_at ss p).width (size_at ss p).height (drop (sample_count (take p ss)) b)
unfolding planes_in
get-planes_in [] p b lt = absurd (omega arith)
get-planes_in (s ∷ ss) zero b lt = refl
get-planes_in (s ∷ ss) (suc p) b lt =
    get-planes_in ss p (drop (s.width * s.height) b) (omega arith)
    ∙ ap (rows_in (size_at ss p).width (size_at ss p).height) (drop-drop (sample_count (take p ss)) (s.width * s.height) b)

-- where a plane ends
pub sample_count-take : (ss : List Size) (p : ℕ) → p < length ss → sample_count (take p ss) + (size_at ss p).height * (size_at ss p).width ≤ sample_count ss
sample_count-take [] p lt = absurd (omega arith)
sample_count-take (s ∷ ss) zero lt = omega arith
sample_count-take (s ∷ ss) (suc p) lt = omega (arith, sample_count-take ss p (omega arith))

pub planes_in-set : (ss : List Size) (p y : ℕ) (b ws : List ℕ) → p < length ss → y < (size_at ss p).height → length ws ≡ (size_at ss p).width → sample_count ss ≤ length b
    → planes_in ss (pasted b (sample_count (take p ss) + y * (size_at ss p).width) ws) ≡ set (planes_in ss b) p (set (get_or (planes_in ss b) p []) y ws)
unfolding planes_in
planes_in-set [] p y b ws lt row_lt len within = absurd (omega arith)
planes_in-set (s ∷ ss) zero y b ws lt row_lt len within =
    let row_fits : (y + 1) * s.width ≤ s.height * s.width = mul-le-mul_right s.width (omega arith) in
    let none : 0 + y * s.width ≡ y * s.width = omega arith in
    ap (λ i. planes_in (s ∷ ss) (pasted b i ws)) none
    ∙ ap (λ (x : List (List ℕ)). x ∷ planes_in ss (drop (s.width * s.height) (pasted b (y * s.width) ws))) (rows_in-set_at s.width s.height y b ws len row_lt (omega arith))
    ∙ ap (λ (x : List ℕ). set (rows_in s.width s.height b) y ws ∷ planes_in ss x) (drop-pasted_behind b (s.width * s.height) (y * s.width) ws (omega arith) (omega arith))
planes_in-set (s ∷ ss) (suc p) y b ws lt row_lt len within =
    let n : ℕ = s.width * s.height in
    let i : ℕ = sample_count (take p ss) + y * (size_at ss p).width in
    let ends = sample_count-take ss p (omega arith) in
    let row_fits : (y + 1) * (size_at ss p).width ≤ (size_at ss p).height * (size_at ss p).width = mul-le-mul_right (size_at ss p).width (omega arith) in
    let split : n + sample_count (take p ss) + y * (size_at ss p).width ≡ n + i = omega arith in
    ap (λ k. planes_in (s ∷ ss) (pasted b k ws)) split
    ∙ ap (λ (x : List (List ℕ)). x ∷ planes_in ss (drop n (pasted b (n + i) ws))) (rows_in-before s.width s.height (n + i) b ws (omega arith) (omega arith))
    ∙ ap (λ (x : List (List (List ℕ))). rows_in s.width s.height b ∷ x)
    (ap (planes_in ss) (drop-pasted b n i ws (omega arith)) ∙ planes_in-set ss p y (drop n b) ws (omega arith) row_lt len (omega (arith, length-drop n b)))

pub flat-planes_in : (ss : List Size) (b : List ℕ) → flat_map concat (planes_in ss b) ≡ take (sample_count ss) b
unfolding planes_in
flat-planes_in [] b = refl
flat-planes_in (s ∷ ss) b =
    let order : s.height * s.width ≡ s.width * s.height = omega arith in
    ap (λ (x : List ℕ). x ++ flat_map concat (planes_in ss (drop (s.width * s.height) b))) (concat-rows_in s.width s.height b ∙ ap (λ k. take k b) order)
    ∙ ap (λ (x : List ℕ). take (s.width * s.height) b ++ x) (flat-planes_in ss (drop (s.width * s.height) b))
    ∙ sym (take-add (s.width * s.height) (sample_count ss) b)

-- ---- the planes of a shape
sizes-size : (w h : ℕ) (chroma : Chroma) (p : ℕ) → p < plane_count (layout w h chroma)
    → (p < length (sizes (layout w h chroma))) × (size_at (sizes (layout w h chroma)) p ≡ size (plane_width (layout w h chroma) p) (plane_height (layout w h chroma) p))
sizes-size w h Grey zero lt = (omega arith, refl)
sizes-size w h Grey (suc p) lt = absurd (omega arith)
sizes-size w h (Shifts x y) zero lt = (omega arith, refl)
sizes-size w h (Shifts x y) (suc zero) lt = (omega arith, refl)
sizes-size w h (Shifts x y) (suc (suc zero)) lt = (omega arith, refl)
sizes-size w h (Shifts x y) (suc (suc (suc p))) lt = absurd (omega arith)

pub size_of : (s : Layout) (p : ℕ) → p < plane_count s → (p < length (sizes s)) × (size_at (sizes s) p ≡ size (plane_width s p) (plane_height s p))
size_of s p lt = sizes-size s.width s.height s.chroma p lt

-- ---- a row of the picture in bytes
pub row_start-fits : (s : Layout) (p y : ℕ) → p < plane_count s → y < plane_height s p → row_start s p y + plane_width s p ≤ sample_count (sizes s)
row_start-fits s p y lt row_lt =
    let is = size_of s p lt in
    let ends = sample_count-take (sizes s) p is.0 in
    let plane_ends : sample_count (take p (sizes s)) + plane_height s p * plane_width s p ≤ sample_count (sizes s) =
    let P : Size → Type 0 = λ z. sample_count (take p (sizes s)) + z.height * z.width ≤ sample_count (sizes s) in subst P is.1 ends in
    let row_fits : (y + 1) * plane_width s p ≤ plane_height s p * plane_width s p = mul-le-mul_right (plane_width s p) (omega arith) in
    omega arith

pub row_of-image_in : (s : Layout) (b : List ℕ) (p y : ℕ) → p < plane_count s → y < plane_height s p → row_of (image_in s b) p y ≡ take (plane_width s p) (drop (row_start s p y) b)
row_of-image_in s b p y lt row_lt =
    let is = size_of s p lt in
    let start : ℕ = sample_count (take p (sizes s)) in
    let plane : get_or (planes_in (sizes s) b) p [] ≡ rows_in (plane_width s p) (plane_height s p) (drop start b) =
    get-planes_in (sizes s) p b is.0 ∙ ap (λ (z : Size). rows_in z.width z.height (drop start b)) is.1 in
    ap (λ (rows : List (List ℕ)). get_or rows y []) plane
    ∙ get-rows_in (plane_width s p) (plane_height s p) y (drop start b) row_lt
    ∙ ap (take (plane_width s p)) (drop-drop (y * plane_width s p) start b)

pub image_in-pasted : (s : Layout) (b : List ℕ) (p y : ℕ) (ws : List ℕ) → p < plane_count s → y < plane_height s p → length ws ≡ plane_width s p → length b ≡ sample_count (sizes s)
    → image_in s (pasted b (row_start s p y) ws) ≡ with_row (image_in s b) p y ws
image_in-pasted s b p y ws lt row_lt len whole =
    let is = size_of s p lt in
    let P : Size → Type 0 = λ z. y < z.height → length ws ≡ z.width
    → planes_in (sizes s) (pasted b (sample_count (take p (sizes s)) + y * z.width) ws) ≡ set (planes_in (sizes s) b) p (set (get_or (planes_in (sizes s) b) p []) y ws) in
    let planes = subst P is.1 (λ h e. planes_in-set (sizes s) p y b ws is.0 h e (omega arith)) row_lt len in
    ap (λ (planes : List (List (List ℕ))). record { shape = s; planes = planes }) planes

flat-image_in : (s : Layout) (b : List ℕ) → length b ≡ sample_count (sizes s) → flat_map concat (planes_in (sizes s) b) ≡ b
flat-image_in s b whole = flat-planes_in (sizes s) b ∙ take_all (sample_count (sizes s)) b (omega arith)

-- after the row was lent, whatever was written to it
pub image_in-lent : (s : Layout) (b : List ℕ) (n p y : ℕ) (ws : List ℕ) → p < plane_count s → y < plane_height s p → n ≡ length b → length b ≡ sample_count (sizes s)
    → image_in s (take n (pasted b (row_start s p y) ws ++ drop (length (pasted b (row_start s p y) ws)) b)) ≡ with_written (image_in s b) p y ws
image_in-lent s b n p y ws lt row_lt e whole =
    let all : List ℕ = pasted b (row_start s p y) ws in
    let flat = flat-image_in s b whole in
    elim (cases_Bool (eqb (length ws) (plane_width s p))) [
      | inl same ↦
          let len : length ws ≡ plane_width s p = eqb-true (length ws) (plane_width s p) same in
          let fits = row_start-fits s p y lt row_lt in
          let long : length all ≡ length b = length-pasted b (row_start s p y) ws (omega arith) in
          let kept : take n (all ++ drop (length all) b) ≡ all = take_at all (drop (length all) b) n (omega arith) in
          rw same (ap (image_in s) kept ∙ image_in-pasted s b p y ws lt row_lt len whole)
      | inr other ↦ rw other (rw flat (ap (λ k. image_in s (take k (all ++ drop (length all) b))) e))
    ]

-- ---- what is true of each picture
get-take : (b : List ℕ) (w x : ℕ) → ((x : ℕ) → get_or b x 0 < 256) → get_or (take w b) x 0 < 256
get-take b w x bytes =
    elim (cases_lt x w) [
      | inl lt ↦ rw (get_or-take w b x 0 lt) (bytes x)
      | inr le ↦ rw (get_or_past (take w b) x 0 (omega (arith, length-take w b))) (omega arith)
    ]

IsRow-take : (w : ℕ) (b : List ℕ) → w ≤ length b → ((x : ℕ) → get_or b x 0 < 256) → IsRow w (take w b)
IsRow-take w b fits bytes = record { len = length-take-le w b fits; samples = λ x. get-take b w x bytes }

plane_of-image_in : (s : Layout) (b : List ℕ) (p : ℕ) → p < plane_count s → plane_of (image_in s b) p ≡ rows_in (plane_width s p) (plane_height s p) (drop (sample_count (take p (sizes s))) b)
plane_of-image_in s b p lt =
    let is = size_of s p lt in
    get-planes_in (sizes s) p b is.0 ∙ ap (λ (z : Size). rows_in z.width z.height (drop (sample_count (take p (sizes s))) b)) is.1

pub row-IsRow : (s : Layout) (b : List ℕ) (p y : ℕ) → p < plane_count s → y < plane_height s p → length b ≡ sample_count (sizes s) → ((x : ℕ) → get_or b x 0 < 256) → IsRow (plane_width s p) (row_of (image_in s b) p y)
row-IsRow s b p y lt row_lt whole bytes =
    let rest : List ℕ = drop (row_start s p y) b in
    let fits = row_start-fits s p y lt row_lt in
    let bytes_there : (x : ℕ) → get_or rest x 0 < 256 = λ x. rw (get_or-drop (row_start s p y) b x 0) (bytes (row_start s p y + x)) in
    subst (λ (row : List ℕ). IsRow (plane_width s p) row) (sym (row_of-image_in s b p y lt row_lt)) (IsRow-take (plane_width s p) rest (omega (arith, length-drop (row_start s p y) b)) bytes_there)

sizes-count : (w h : ℕ) (chroma : Chroma) → length (sizes (layout w h chroma)) ≡ plane_count (layout w h chroma)
sizes-count w h Grey = refl
sizes-count w h (Shifts x y) = refl

pub IsPicture-image_in : (s : Layout) (b : List ℕ) → IsShape s → length b ≡ sample_count (sizes s) → ((x : ℕ) → get_or b x 0 < 256) → IsPicture (image_in s b)
IsPicture-image_in s b shape whole bytes = record {
  shape = shape;
  count = length-planes_in (sizes s) b ∙ sizes-count s.width s.height s.chroma;
  planes = λ p lt. record {
    len = ap length (plane_of-image_in s b p lt) ∙ length-rows_in (plane_width s p) (plane_height s p) (drop (sample_count (take p (sizes s))) b);
    rows = λ y row_lt. row-IsRow s b p y lt row_lt whole bytes;
  };
}

-- ---- planes of one value
rows_in-whole : (w h value : ℕ) (more : List ℕ) → rows_in w h (replicate (w * h) value ++ more) ≡ replicate h (replicate w value)
rows_in-whole w h value more = ap (λ n. rows_in w h (replicate n value ++ more)) {x = w * h} {y = h * w} (omega arith) ∙ rows_in-replicate w h value more

drop-whole : (n value : ℕ) (more : List ℕ) → drop n (replicate n value ++ more) ≡ more
drop-whole n value more = drop_at (replicate n value) more n (length-replicate n value)

-- ---- a row as the code finds it
pub row_read : (s : Layout) (b : List ℕ) (image : Image) (p y start width : ℕ) (bytes : List ℕ) → image_in s b ≡ image → p < plane_count image.shape → y < plane_height image.shape p
    → start ≡ row_start s p y → width ≡ plane_width s p → bytes ≡ b → take (start + width - start) (drop start bytes) ≡ row_of image p y
row_read s b image p y start width bytes view lt row_lt from wide same =
    let P : Image → Type 0 = λ i. p < plane_count i.shape → y < plane_height i.shape p → take (start + width - start) (drop start bytes) ≡ row_of i p y in
    let n : start + width - start ≡ plane_width s p = omega arith in
    subst P view (λ lt row_lt.
    ap (λ k. take k (drop start bytes)) n ∙ ap (λ i. take (plane_width s p) (drop i bytes)) from ∙ ap (λ (l : List ℕ). take (plane_width s p) (drop (row_start s p y) l)) same
    ∙ sym (row_of-image_in s b p y lt row_lt)) lt row_lt

pub row_lent : (s : Layout) (b : List ℕ) (image : Image) (n p y start : ℕ) (ws : List ℕ) → image_in s b ≡ image → p < plane_count image.shape → y < plane_height image.shape p
    → start ≡ row_start s p y → n ≡ length b → length b ≡ sample_count (sizes s)
    → image_in s (take n (pasted b start ws ++ drop (length (pasted b start ws)) b)) ≡ with_written image p y ws
row_lent s b image n p y start ws view lt row_lt from e whole =
    let P : Image → Type 0 = λ i. p < plane_count i.shape → y < plane_height i.shape p → image_in s (take n (pasted b start ws ++ drop (length (pasted b start ws)) b)) ≡ with_written i p y ws in
    subst P view (λ lt row_lt. ap (λ i. image_in s (take n (pasted b i ws ++ drop (length (pasted b i ws)) b))) from ∙ image_in-lent s b n p y ws lt row_lt e whole) lt row_lt

-- samples put into a row
pub row_put : (image : Image) (p y x : ℕ) (width : ℕ) (row samples : List ℕ) → row ≡ row_of image p y → length row ≡ plane_width image.shape p → x + length samples ≤ plane_width image.shape p
    → with_written image p y (pasted row x samples) ≡ with_row image p y (pasted (row_of image p y) x samples)
row_put image p y x width row samples is len fits =
    rw (eq-eqb (length (pasted row x samples)) (plane_width image.shape p) (length-pasted row x samples (omega arith) ∙ len)) (ap (λ (r : List ℕ). with_row image p y (pasted r x samples)) is)

-- ---- the samples of one value, as planes
image_in-values_by : (w h : ℕ) (c : Chroma) (luma chroma : ℕ) → planes_in (sizes (layout w h c)) (values_of (layout w h c) luma chroma) ≡ filled_planes (layout w h c) c luma chroma
unfolding planes_in
image_in-values_by w h Grey luma chroma = ap (λ (x : List (List ℕ)). x ∷ []) (rows_in-whole w h luma (replicate 0 chroma))
image_in-values_by w h (Shifts x y) luma chroma =
    let s : Layout = layout w h (Shifts x y) in
    let cw : ℕ = plane_width s 1 in
    let ch : ℕ = plane_height s 1 in
    let n : ℕ = cw * ch in
    let rest : List ℕ = replicate n chroma ++ replicate n chroma in
    let split : replicate (chroma_area s) chroma ≡ rest = ap (λ k. replicate k chroma) {x = chroma_area s} {y = n + n} (omega arith) ∙ sym (replicate-append-replicate n n chroma) in
    let last : rows_in cw ch (replicate n chroma) ≡ replicate ch (replicate cw chroma) = ap (rows_in cw ch) (sym (append-nil (replicate n chroma))) ∙ rows_in-whole cw ch chroma [] in
    let third : rows_in cw ch (drop n rest) ≡ replicate ch (replicate cw chroma) = ap (rows_in cw ch) (drop-whole n chroma (replicate n chroma)) ∙ last in
    ap (λ (l : List ℕ). planes_in (sizes s) (replicate (w * h) luma ++ l)) split
    ∙ ap (λ (l : List (List ℕ)). l ∷ planes_in (size cw ch ∷ size cw ch ∷ []) (drop (w * h) (replicate (w * h) luma ++ rest))) (rows_in-whole w h luma rest)
    ∙ ap (λ (l : List ℕ). replicate h (replicate w luma) ∷ planes_in (size cw ch ∷ size cw ch ∷ []) l) (drop-whole (w * h) luma rest)
    ∙ ap (λ (l : List (List ℕ)). replicate h (replicate w luma) ∷ l ∷ rows_in cw ch (drop n rest) ∷ []) (rows_in-whole cw ch chroma (replicate n chroma))
    ∙ ap (λ (l : List (List ℕ)). replicate h (replicate w luma) ∷ replicate ch (replicate cw chroma) ∷ l ∷ []) third

pub image_in-values : (s : Layout) (luma chroma : ℕ) → image_in s (values_of s luma chroma) ≡ filled s luma chroma
unfolding filled
image_in-values s luma chroma = ap (λ (planes : List (List (List ℕ))). record { shape = s; planes = planes }) (image_in-values_by s.width s.height s.chroma luma chroma)

length-values_by : (w h : ℕ) (c : Chroma) (luma chroma : ℕ) → length (values_of (layout w h c) luma chroma) ≡ sample_count (sizes (layout w h c))
length-values_by w h Grey luma chroma = length-append (replicate (w * h) luma) [] ∙ omega (arith, length-replicate (w * h) luma)
length-values_by w h (Shifts x y) luma chroma =
    let s : Layout = layout w h (Shifts x y) in
    omega (arith, length-append (replicate (w * h) luma) (replicate (chroma_area s) chroma), length-replicate (w * h) luma, length-replicate (chroma_area s) chroma)

pub length-values : (s : Layout) (luma chroma : ℕ) → length (values_of s luma chroma) ≡ sample_count (sizes s)
length-values s luma chroma = length-values_by s.width s.height s.chroma luma chroma
