-- How many bytes a slice of a generated picture can have: each coded bit adds at most one, and a symbol has at most 65 bits.
use Rattle.std.proofs.Common.{◌≡◌, ℕ, zero, suc, ◌+◌, ◌-◌, ◌*◌, ◌/◌, ◌%◌, ◌<◌, ◌≤◌, Bool, true, false, eqb, None, List, [], ◌∷◌, length, drop, replicate, refl, sym, subst, ap, arith, inl, inr}
use Rattle.std.specs.Prelude.{⊤, ℤ, pos, nat_abs, slice_index}
use Rattle.std.proofs.lemmas.Bool.{cases_Bool}
use Rattle.std.proofs.lemmas.List.{length-append, length-take}
use Rattle.byteorder.specs.Numbers.{length-bytes_high_first}
use Rattle.pic_planes.specs.Picture.{Image, row_of}
use Rattle.ffv1_range.specs.Writing.{Writing, started, put, part, with_sentinel}
use Rattle.ffv1_range.specs.Symbol.{spelling, with_states}
use Rattle.ffv1_predict.specs.Near.{context, coded}
use Rattle.ffv1_predict.specs.Border.{Rows, near, rows_below, rows_of_plane}
use Rattle.ffv1_slice.specs.declared.area.Area.{Area}
use Rattle.ffv1_slice.specs.Area.{below}
use Rattle.ffv1_slice.specs.Order.{InRow, InRows}
use Rattle.ffv1_slice.specs.Reading.{set_of}
use Rattle.ffv1_slice.specs.Slice.{Part, Slice}
use Rattle.ffv1_slice.specs.Header.{Numbering, numbering, with_number, with_numbers, with_header}
use Rattle.ffv1_slice.specs.Writing.{Encoding, with_difference, WritesSample, first_samples, samples_from, samples, WritesAreas, WritesPart, WritesSlice}
use Rattle.ffv1_frame.specs.Written.{Writes, content_start, header_written, cell_slice, IsRangeContent}
use Rattle.clip_store.proofs.DefaultBytes.{count_put, count_all, length-with_states, length-magnitude}
use Rattle.work_gen.specs.Picture.{clip_shape, picture}
use Rattle.work_gen.specs.Clip.{clip_record}

-- ---- symbols
length-signed : (v : ℤ) → length (spelling v true) ≤ 65
unfolding spelling
length-signed v =
    elim (cases_Bool (eqb (nat_abs v) 0)) [
      | inl is ↦ rw is (omega arith)
      | inr above ↦ rw above (simp length-append (omega (arith, length-magnitude (nat_abs v))))
    ]

length-number : (n : ℕ) → length (spelling (pos n) false) ≤ 65
unfolding spelling
length-number n =
    elim (cases_Bool (eqb n 0)) [
      | inl is ↦ rw is (omega arith)
      | inr above ↦ rw above (simp length-append (omega (arith, length-magnitude n)))
    ]

-- ---- samples
count_difference : (e : Encoding) (c difference : ℤ) → (with_difference e c difference).writing.count ≤ e.writing.count + 65
count_difference e c difference =
    let set : List ℕ = set_of e.contexts c in
    let bits : List (ℕ × Bool) = spelling difference true in
    omega (arith, count_all e.writing (with_states e.writing.table set bits), length-with_states e.writing.table set bits, length-signed difference)

count_row : (tables : List (List ℤ)) (r : Rows) (x : ℕ) (old new : Encoding) → InRow (WritesSample tables) r x old new → new.writing.count ≤ old.writing.count + 65 * x
count_row tables r zero old new is = omega (arith, ap (λ (e : Encoding). e.writing.count) is)
count_row tables r (suc x) old new (mid, before, step) =
    omega (
      arith,
      count_row tables r x old mid before,
      ap (λ (e : Encoding). e.writing.count) step,
      count_difference mid (context tables (near r x)) (coded (context tables (near r x)) (near r x) (slice_index r.row x)),
    )

-- No row has more samples.
abbrev AreNarrow : ℕ → List Rows → Type 0
AreNarrow width [] = ⊤
AreNarrow width (r ∷ more) = (length r.row ≤ width) × AreNarrow width more

count_rows : (tables : List (List ℤ)) (width : ℕ) (rs : List Rows) (old new : Encoding) → AreNarrow width rs → InRows (WritesSample tables) rs old new
    → new.writing.count ≤ old.writing.count + 65 * (length rs * width)
count_rows tables width [] old new narrow is = omega (arith, ap (λ (e : Encoding). e.writing.count) is)
count_rows tables width (r ∷ more) old new (first, rest) (mid, here, behind) =
    let split : length (r ∷ more) * width ≡ width + length more * width = omega arith in
    omega (arith, split, count_row tables r (length r.row) old mid here, count_rows tables width more mid new rest behind, first)

narrow : (image : Image) (area : Area) (n : ℕ) (above2 above : List ℕ) → AreNarrow area.width (rows_below above2 above (samples_from image area n))
narrow image area zero above2 above = tt
narrow image area (suc n) above2 above =
    (omega (arith, length-take area.width (drop area.x (row_of image area.plane area.y))), narrow image (below area) n above (first_samples image area))

tall : (image : Image) (area : Area) (n : ℕ) (above2 above : List ℕ) → length (rows_below above2 above (samples_from image area n)) ≡ n
tall image area zero above2 above = refl
tall image area (suc n) above2 above = ap suc (tall image (below area) n above (first_samples image area))

abbrev area_sum : List Area → ℕ
area_sum [] = 0
area_sum (area ∷ more) = area.height * area.width + area_sum more

count_areas : (tables : List (List ℤ)) (image : Image) (areas : List Area) (old new : Encoding) → WritesAreas tables image areas old new → new.writing.count ≤ old.writing.count + 65 * area_sum areas
count_areas tables image [] old new is = omega (arith, ap (λ (e : Encoding). e.writing.count) is)
count_areas tables image (area ∷ more) old new (mid, here, behind) =
    let rs : List Rows = rows_of_plane area.width (samples image area) in
    let high : length rs * area.width ≡ area.height * area.width = ap (λ n. n * area.width) (tall image area area.height (replicate area.width 0) (replicate area.width 0)) in
    omega (
      arith,
      high,
      count_rows tables area.width rs old mid (narrow image area area.height (replicate area.width 0) (replicate area.width 0)) here,
      count_areas tables image more mid new behind,
    )

count_part : (p : Part) (image : Image) (old new : Writing) → WritesPart p image old new → new.count ≤ old.count + 65 * area_sum p.areas
count_part p image old new (contexts, written) = count_areas p.tables image p.areas _ _ written

count_slice : (s : Slice) (image : Image) (old new : Writing) → WritesSlice s image old new → new.count ≤ old.count + 65 * (area_sum s.luma.areas + area_sum s.chroma.areas)
count_slice s image old new (mid, luma, chroma) = omega (arith, count_part s.luma image old mid luma, count_part s.chroma image mid new chroma)

-- ---- headers
count_number : (n : Numbering) (number : ℕ) → (with_number n number).writing.count ≤ n.writing.count + 65
unfolding with_number
count_number n number =
    let bits : List (ℕ × Bool) = spelling (pos number) false in
    omega (arith, count_all n.writing (with_states n.writing.table n.set bits), length-with_states n.writing.table n.set bits, length-number number)

count_numbers : (n : Numbering) (numbers : List ℕ) → (with_numbers n numbers).writing.count ≤ n.writing.count + 65 * length numbers
count_numbers n [] = omega arith
count_numbers n (number ∷ more) = omega (arith, count_numbers (with_number n number) more, count_number n number)

count_start : (table : List ℕ) (first : Bool) → (content_start table first).count ≤ 3
unfolding started
count_start table true = omega (arith, count_put (started table) 128 true)
count_start table false = omega arith

count_header : (w : Writing) (x y : ℕ) → (with_header w x y).count ≤ w.count + 585
count_header w x y =
    let numbers : List ℕ = x ∷ y ∷ 0 ∷ 0 ∷ 0 ∷ 0 ∷ 0 ∷ 0 ∷ 0 ∷ [] in
    let nine : length numbers ≡ 9 = refl in
    omega (arith, nine, count_numbers (numbering w (replicate 32 128)) numbers)

-- ---- slices
abbrev slice_at : ℕ → Slice
slice_at cell = cell_slice clip_record clip_shape cell

-- a quarter of the picture
quarter : (cell : ℕ) → cell < 4 → area_sum (slice_at cell).luma.areas + area_sum (slice_at cell).chroma.areas ≡ 1152
quarter zero lt = refl
quarter (suc zero) lt = refl
quarter (suc (suc zero)) lt = refl
quarter (suc (suc (suc zero))) lt = refl
quarter (suc (suc (suc (suc cell)))) lt = absurd (omega arith)

few : (w : Writing) → w.count ≤ 80000 → length (part (with_sentinel w)) ≤ 80001
unfolding part with_sentinel
few w le = omega (arith, le, count_put w 129 false, length-bytes_high_first ((put w 129 false).count - 1) (((put w 129 false).low + 255) / 256))

pub short : (image : Image) (cell : ℕ) (content : List ℕ) → cell < 4 → IsRangeContent (slice_at cell) image (header_written clip_record cell) content → length content ≤ 80001
short image cell content lt is =
    let start : Writing = content_start clip_record.transition (eqb cell 0) in
    let all : length content ≤ 80001 = subst (λ (l : List ℕ). length l ≤ 80001) (sym is.ended)
    (few is.writing (omega (
      arith,
      quarter cell lt,
      count_slice (slice_at cell) image (header_written clip_record cell) is.writing is.samples,
      count_header start (cell % 2) (cell / 2),
      count_start clip_record.transition (eqb cell 0),
    ))) in
    all

-- Each picture has a packet.
pub never_long : (frame : ℕ) → Writes clip_record (picture frame) None → ⊥
never_long frame is =
    let within : is.cell < 4 = is.within in
    let long : 16777215 < length is.content = is.long in
    omega (arith, long, short (picture frame) is.cell is.content within is.written)
