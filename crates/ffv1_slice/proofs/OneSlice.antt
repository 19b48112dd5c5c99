-- A slice gives one picture or one fault.
use Rattle.std.proofs.Common.{◌≡◌, ℕ, suc, ◌+◌, ◌<◌, ◌≤◌, List, [], ◌∷◌, length, replicate, refl, sym, ◌∙◌, ap, subst, arith, inl, inr, ℤ, Some, None, Result, Ok, Err}
use Rattle.std.specs.Prelude.{⊤, pos, ◌+ℤ◌}
use Rattle.std.specs.Int.{int_rem_euclid}
use Rattle.pic_planes.specs.Picture.{Image}
use Rattle.ffv1_predict.specs.declared.near.Near.{Near}
use Rattle.ffv1_predict.specs.Near.{context, predicted, turned}
use Rattle.ffv1_predict.specs.Border.{rows, rows_below}
use Rattle.ffv1_slice.specs.declared.area.Area.{Area}
use Rattle.ffv1_slice.specs.declared.fault.SliceFault.{SliceFault}
use Rattle.ffv1_slice.specs.declared.fault.SliceFault.TheVariants.{Symbol, Overrun}
use Rattle.ffv1_slice.specs.Area.{with_rows}
use Rattle.ffv1_slice.specs.Order.{InRow, InRows}
use Rattle.ffv1_slice.specs.Reading.{Coding, difference_at, ReadsSample, TooLongInRow, TooLongInRows}
use Rattle.ffv1_slice.specs.Slice.{Decoding, Standing, ReadsArea, TooLongInArea, ReadsAreas, TooLongInAreas, Part, begun, ReadsPart, TooLongInPart, Slice, ReadsSlice, TooLongInSlice, Gives}
use Rattle.ffv1_slice.proofs.OneHeader.{one_pair}
use Rattle.ffv1_slice.proofs.OneRow.{IsApart, one_row, row_or_stuck, AreWide, plane_wide, front_wide}

-- ---- a sample
one_sample : (tables : List (List ℤ)) (n : Near) (a b : ℕ) (old x y : Coding) → ReadsSample tables n a old x → ReadsSample tables n b old y → (a ≡ b) × (x ≡ y)
one_sample tables n a b old x y (difference, here, is) (other, now, restored) =
    let both = one_pair (difference_at old (context tables n)) (Some difference) (Some other) x y here now in
    let value : Some difference ≡ Some other = both.0 in
    let same : difference ≡ other = cc in
    let sample : pos a ≡ pos b = is ∙ ap (λ (d : ℤ). int_rem_euclid (predicted n +ℤ turned (context tables n) d) (pos 256)) same ∙ sym restored in
    (cc, both.1)

sample_or_none : (tables : List (List ℤ)) (n : Near) (sample : ℕ) (old x y : Coding) → ReadsSample tables n sample old x → difference_at old (context tables n) ≡ (None, y) → ⊥
sample_or_none tables n sample old x y (difference, here, is) none_read =
    let value : Some difference ≡ None = (one_pair (difference_at old (context tables n)) (Some difference) None x y here none_read).0 in cc

-- ---- a row
-- The next difference is too long.
abbrev pub IsTooLong : List (List ℤ) → Near → Coding → Type 0
IsTooLong tables n old = (new : Coding) × (difference_at old (context tables n) ≡ (None, new))

too_long_apart : (tables : List (List ℤ)) → IsApart (ReadsSample tables) (IsTooLong tables)
too_long_apart tables n sample old new reads (next, late) = sample_or_none tables n sample old new next reads late

row_or_late : (tables : List (List ℤ)) (above2 above row other : List ℕ) (old new : Coding) → length row ≡ length other
    → InRow (ReadsSample tables) (rows above2 above row) (length row) old new → TooLongInRow tables (rows above2 above other) old → ⊥
row_or_late tables above2 above row other old new len done late =
    row_or_stuck (ReadsSample tables) (IsTooLong tables) (one_sample tables) (too_long_apart tables) above2 above row other late.column old late.mid new
    (omega (arith, len, late.within)) done late.before (late.new, late.too_long)

-- ---- a plane
one_plane : (tables : List (List ℤ)) (width : ℕ) (above2 above : List ℕ) (plane other : List (List ℕ)) (old new end : Coding)
    → AreWide width plane → AreWide width other → length plane ≡ length other
    → InRows (ReadsSample tables) (rows_below above2 above plane) old new → InRows (ReadsSample tables) (rows_below above2 above other) old end → (plane ≡ other) × (new ≡ end)
one_plane tables width above2 above [] [] old new end wide broad len first second = (refl, sym first ∙ second)
one_plane tables width above2 above [] (r ∷ rest) old new end wide broad len first second = absurd (omega arith)
one_plane tables width above2 above (row ∷ more) [] old new end wide broad len first second = absurd (omega arith)
one_plane tables width above2 above (row ∷ more) (r ∷ rest) old new end wide broad len (mid, here, left) (next, now, others) =
    let one = one_row (ReadsSample tables) (one_sample tables) above2 above row r old mid next (wide 0 (omega arith) ∙ sym (broad 0 (omega arith))) here now in
    let from_mid : InRows (ReadsSample tables) (rows_below above r rest) mid end = subst (λ (c : Coding). InRows (ReadsSample tables) (rows_below above r rest) c end) (sym one.1) others in
    let below_row : InRows (ReadsSample tables) (rows_below above row rest) mid end = subst (λ (a : List ℕ). InRows (ReadsSample tables) (rows_below above a rest) mid end) (sym one.0) from_mid in
    let all = one_plane tables width above row more rest mid new end (λ y lt. wide (suc y) (omega arith)) (λ y lt. broad (suc y) (omega arith)) (omega arith) left below_row in
    (cc, all.1)

plane_or_late : (tables : List (List ℤ)) (width : ℕ) (above2 above : List ℕ) (plane other : List (List ℕ)) (old new : Coding)
    → AreWide width plane → AreWide width other → length other ≤ length plane
    → InRows (ReadsSample tables) (rows_below above2 above plane) old new → TooLongInRows tables (rows_below above2 above other) old → ⊥
plane_or_late tables width above2 above [] [] old new wide broad few all late = late
plane_or_late tables width above2 above [] (r ∷ rest) old new wide broad few all late = absurd (omega arith)
plane_or_late tables width above2 above (row ∷ more) [] old new wide broad few all late = late
plane_or_late tables width above2 above (row ∷ more) (r ∷ rest) old new wide broad few (mid, here, left) (inl late) =
    row_or_late tables above2 above row r old mid (wide 0 (omega arith) ∙ sym (broad 0 (omega arith))) here late
plane_or_late tables width above2 above (row ∷ more) (r ∷ rest) old new wide broad few (mid, here, left) (inr (next, now, late)) =
    let one = one_row (ReadsSample tables) (one_sample tables) above2 above row r old mid next (wide 0 (omega arith) ∙ sym (broad 0 (omega arith))) here now in
    let from_mid : TooLongInRows tables (rows_below above r rest) mid = subst (λ (c : Coding). TooLongInRows tables (rows_below above r rest) c) (sym one.1) late in
    let below_row : TooLongInRows tables (rows_below above row rest) mid = subst (λ (a : List ℕ). TooLongInRows tables (rows_below above a rest) mid) (sym one.0) from_mid in
    plane_or_late tables width above row more rest mid new (λ y lt. wide (suc y) (omega arith)) (λ y lt. broad (suc y) (omega arith)) (omega arith) left below_row

-- ---- areas
one_area : (tables : List (List ℤ)) (area : Area) (old x y : Decoding) → ReadsArea tables area old x → ReadsArea tables area old y → x ≡ y
one_area tables area old x y first second =
    let above : List ℕ = replicate area.width 0 in
    let same = one_plane tables area.width above above first.plane second.plane old.coding x.coding y.coding
    (plane_wide area.width area.height first.plane first.sizes) (plane_wide area.width area.height second.plane second.sizes)
    (first.sizes.len ∙ sym second.sizes.len) first.read second.read in
    let image : x.image ≡ y.image = first.put ∙ ap (with_rows old.image area) same.0 ∙ sym second.put in
    λ i. record { coding = same.1 i; image = image i }

area_or_late : (tables : List (List ℤ)) (area : Area) (old new : Decoding) → ReadsArea tables area old new → TooLongInArea tables area old → ⊥
area_or_late tables area old new reads late =
    let above : List ℕ = replicate area.width 0 in
    plane_or_late tables area.width above above reads.plane late.plane old.coding new.coding
    (plane_wide area.width area.height reads.plane reads.sizes) (front_wide area.width area.height late.plane late.sizes)
    (omega (arith, reads.sizes.len, late.sizes.few)) reads.read late.too_long

one_areas : (tables : List (List ℤ)) (areas : List Area) (old x y : Decoding) → ReadsAreas tables areas old x → ReadsAreas tables areas old y → x ≡ y
one_areas tables [] old x y first second = sym first ∙ second
one_areas tables (area ∷ more) old x y (mid, here, left) (next, now, others) =
    let same : mid ≡ next = one_area tables area old mid next here now in
    one_areas tables more mid x y left (subst (λ (d : Decoding). ReadsAreas tables more d y) (sym same) others)

areas_or_late : (tables : List (List ℤ)) (areas : List Area) (old new : Decoding) → ReadsAreas tables areas old new → TooLongInAreas tables areas old → ⊥
areas_or_late tables [] old new reads late = late
areas_or_late tables (area ∷ more) old new (mid, here, left) (inl late) = area_or_late tables area old mid here late
areas_or_late tables (area ∷ more) old new (mid, here, left) (inr (next, now, late)) =
    let same : mid ≡ next = one_area tables area old mid next here now in
    areas_or_late tables more mid new left (subst (λ (d : Decoding). TooLongInAreas tables more d) (sym same) late)

-- ---- a slice
one_part : (p : Part) (old x y : Standing) → ReadsPart p old x → ReadsPart p old y → x ≡ y
one_part p old x y (contexts, reads) (others, read) =
    let same = one_areas p.tables p.areas (begun p old) _ _ reads read in
    λ i. record { reading = (same i).coding.reading; image = (same i).image }

part_or_late : (p : Part) (old new : Standing) → ReadsPart p old new → TooLongInPart p old → ⊥
part_or_late p old new (contexts, reads) late = areas_or_late p.tables p.areas (begun p old) _ reads late

one_standing : (s : Slice) (old x y : Standing) → ReadsSlice s old x → ReadsSlice s old y → x ≡ y
one_standing s old x y (mid, luma, chroma) (next, first, second) =
    let same : mid ≡ next = one_part s.luma old mid next luma first in
    one_part s.chroma mid x y chroma (subst (λ (at : Standing). ReadsPart s.chroma at y) (sym same) second)

slice_or_late : (s : Slice) (old new : Standing) → ReadsSlice s old new → TooLongInSlice s old → ⊥
slice_or_late s old new (mid, luma, chroma) (inl late) = part_or_late s.luma old mid luma late
slice_or_late s old new (mid, luma, chroma) (inr (next, first, late)) =
    let same : mid ≡ next = one_part s.luma old mid next luma first in
    part_or_late s.chroma mid new chroma (subst (λ (at : Standing). TooLongInPart s.chroma at) (sym same) late)

over_or_not : (s : Slice) (count : ℕ) (old x y : Standing) → ReadsSlice s old x → x.reading.taken ≤ count → ReadsSlice s old y → count < y.reading.taken → ⊥
over_or_not s count old x y first few second over =
    let same : x.reading.taken ≡ y.reading.taken = ap (λ (at : Standing). at.reading.taken) (one_standing s old x y first second) in
    omega arith

-- Two answers to one slice are one.
pub one_slice : (s : Slice) (content : ℕ) (old : Standing) (x y : Image) (a b : Result (⊤) SliceFault) → Gives s content old x a → Gives s content old y b → a ≡ b
one_slice s content old x y (Ok u) (Ok v) first second = refl
one_slice s content old x y (Ok u) (Err Symbol) first second = absurd (slice_or_late s old first.0 first.1 second)
one_slice s content old x y (Ok u) (Err Overrun) first second = absurd (over_or_not s (content + 2) old first.0 second.0 first.1 first.3 second.1 second.2)
one_slice s content old x y (Err Symbol) (Ok v) first second = absurd (slice_or_late s old second.0 second.1 first)
one_slice s content old x y (Err Symbol) (Err Symbol) first second = refl
one_slice s content old x y (Err Symbol) (Err Overrun) first second = absurd (slice_or_late s old second.0 second.1 first)
one_slice s content old x y (Err Overrun) (Ok v) first second = absurd (over_or_not s (content + 2) old second.0 first.0 second.1 second.3 first.1 first.2)
one_slice s content old x y (Err Overrun) (Err Symbol) first second = absurd (slice_or_late s old first.0 first.1 second)
one_slice s content old x y (Err Overrun) (Err Overrun) first second = refl

-- A slice that has no fault gives one picture.
pub one_image : (s : Slice) (content : ℕ) (old : Standing) (x y : Image) → Gives s content old x (Ok tt) → Gives s content old y (Ok tt) → x ≡ y
one_image s content old x y first second =
    sym first.2 ∙ ap (λ (at : Standing). at.image) (one_standing s old first.0 second.0 first.1 second.1) ∙ second.2
