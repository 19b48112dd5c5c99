-- A slice in Golomb-Rice mode gives one picture or one fault.
use Rattle.std.proofs.Common.{◌≡◌, ℕ, suc, ◌*◌, ◌<◌, ◌≤◌, List, [], ◌∷◌, length, replicate, refl, sym, ◌∙◌, ap, subst, arith, inl, inr, ℤ, Option, Some, None, Result, Ok, Err}
use Rattle.std.specs.Prelude.{⊤, pos, nat_abs, ◌+ℤ◌}
use Rattle.std.specs.Int.{int_rem_euclid}
use Rattle.pic_planes.specs.Picture.{Image}
use Rattle.ffv1_rice.specs.Bits.{opened}
use Rattle.ffv1_rice.specs.Runs.{Coding, source, coding, first_run, sample_at}
use Rattle.ffv1_predict.specs.declared.near.Near.{Near}
use Rattle.ffv1_predict.specs.Near.{context, predicted, turned}
use Rattle.ffv1_predict.specs.Border.{rows, rows_below}
use Rattle.ffv1_slice.specs.declared.area.Area.{Area}
use Rattle.ffv1_slice.specs.declared.fault.SliceFault.{SliceFault}
use Rattle.ffv1_slice.specs.declared.fault.SliceFault.TheVariants.{Symbol, Overrun}
use Rattle.ffv1_slice.specs.Area.{with_rows}
use Rattle.ffv1_slice.specs.Order.{InRow}
use Rattle.ffv1_slice.specs.Slice.{Part, Slice}
use Rattle.ffv1_slice.proofs.OneRow.{IsApart, one_row, row_or_stuck, AreWide, plane_wide, front_wide}
use Rattle.ffv1_golomb.specs.Turn.{InTurn, FailsInTurn}
use Rattle.ffv1_golomb.specs.Reading.{Line, line_begun, ReadsSample, ReadsRow, OutOfRangeInRow}
use Rattle.ffv1_golomb.specs.Slice.{Decoding, Standing, standing, begun, parts, ReadsArea, OutOfRangeInArea, ReadsPart, OutOfRangeInPart, ReadsSlice, OutOfRangeInSlice, Gives}

-- ---- steps in turn
-- From one state a step leads to one state.
abbrev IsFunction : {A S : Type 0} → (A → S → S → Type 0) → Type 0
IsFunction {A} {S} step = (a : A) (old x y : S) → step a old x → step a old y → x ≡ y

one_in_turn : {A S : Type 0} (step : A → S → S → Type 0) → IsFunction step → (items : List A) (old x y : S) → InTurn step items old x → InTurn step items old y → x ≡ y
one_in_turn step one [] old x y first second = sym first ∙ second
one_in_turn {A} {S} step one (a ∷ more) old x y (mid, here, left) (next, now, others) =
    let same : mid ≡ next = one a old mid next here now in
    one_in_turn step one more mid x y left (subst (λ (s : S). InTurn step more s y) (sym same) others)

turn_or_fail : {A S : Type 0} (step : A → S → S → Type 0) (fails : A → S → Type 0) → IsFunction step → ((a : A) (old new : S) → step a old new → fails a old → ⊥)
    → (items : List A) (old new : S) → InTurn step items old new → FailsInTurn step fails items old → ⊥
turn_or_fail step fails one apart [] old new done late = late
turn_or_fail step fails one apart (a ∷ more) old new (mid, here, left) (inl late) = apart a old mid here late
turn_or_fail {A} {S} step fails one apart (a ∷ more) old new (mid, here, left) (inr (next, now, late)) =
    let same : mid ≡ next = one a old mid next here now in
    turn_or_fail step fails one apart more mid new left (subst (λ (s : S). FailsInTurn step fails more s) (sym same) late)

-- ---- a sample
some_same : {A : Type 0} (a b : A) → Some a ≡ Some b → a ≡ b
some_same a b same = cc

some_apart : {A : Type 0} (a : A) → Some a ≡ None → ⊥
some_apart a same = cc

one_some : {A B : Type 0} (read : Option (A × B)) (a b : A) (x y : B) → read ≡ Some (a, x) → read ≡ Some (b, y) → (a ≡ b) × (x ≡ y)
one_some {A} {B} read a b x y first second =
    let same = some_same {A = A × B} (a, x) (b, y) (sym first ∙ second) in
    (ap (λ (p : A × B). p.0) same, ap (λ (p : A × B). p.1) same)

one_sample : (tables : List (List ℤ)) (n : Near) (a b : ℕ) (old x y : Line) → ReadsSample tables n a old x → ReadsSample tables n b old y → (a ≡ b) × (x ≡ y)
one_sample tables n a b old x y first second =
    let both = one_some (sample_at old.left (nat_abs (context tables n)) old.coding) first.difference second.difference x.coding y.coding first.read second.read in
    let sample : pos a ≡ pos b =
    first.restored ∙ ap (λ (d : ℤ). int_rem_euclid (predicted n +ℤ turned (context tables n) d) (pos 256)) both.0 ∙ sym second.restored in
    let left : x.left ≡ y.left = first.one_less ∙ sym second.one_less in
    (cc, λ i. record { left = left i; coding = both.1 i })

-- The residual of the next difference is out of range.
abbrev pub IsOutOfRange : List (List ℤ) → Near → Line → Type 0
IsOutOfRange tables n old = sample_at old.left (nat_abs (context tables n)) old.coding ≡ None

out_of_range_apart : (tables : List (List ℤ)) → IsApart (ReadsSample tables) (IsOutOfRange tables)
out_of_range_apart tables n sample old new reads late =
    some_apart {A = ℤ × Coding} (reads.difference, new.coding) (sym reads.read ∙ late)

-- ---- a row
row_at : (tables : List (List ℤ)) (above2 above row : List ℕ) (width : ℕ) (old new : Coding) → width ≡ length row → (reads : ReadsRow tables (rows above2 above row) old new)
    → InRow (ReadsSample tables) (rows above2 above row) (length row) (line_begun width old) reads.end
row_at tables above2 above row width old new len reads =
    subst (λ (n : ℕ). InRow (ReadsSample tables) (rows above2 above row) (length row) (line_begun n old) reads.end) (sym len) reads.read

one_line : (tables : List (List ℤ)) (above2 above row other : List ℕ) (old new end : Coding) → length row ≡ length other
    → ReadsRow tables (rows above2 above row) old new → ReadsRow tables (rows above2 above other) old end → (row ≡ other) × (new ≡ end)
one_line tables above2 above row other old new end len first second =
    let same = one_row (ReadsSample tables) (one_sample tables) above2 above row other (line_begun (length row) old) first.end second.end len first.read
    (row_at tables above2 above other (length row) old end len second) in
    (same.0, sym first.left ∙ ap (λ (l : Line). l.coding) same.1 ∙ second.left)

line_or_late : (tables : List (List ℤ)) (above2 above row other : List ℕ) (old new : Coding) → length row ≡ length other
    → ReadsRow tables (rows above2 above row) old new → OutOfRangeInRow tables (rows above2 above other) old → ⊥
line_or_late tables above2 above row other old new len reads late =
    row_or_stuck (ReadsSample tables) (IsOutOfRange tables) (one_sample tables) (out_of_range_apart tables) above2 above row other late.column (line_begun (length row) old) late.mid reads.end
    (omega (arith, len, late.within)) reads.read
    (subst (λ (n : ℕ). InRow (ReadsSample tables) (rows above2 above other) late.column (line_begun n old) late.mid) (sym len) late.before)
    late.out_of_range

-- ---- a plane
one_plane : (tables : List (List ℤ)) (width : ℕ) (above2 above : List ℕ) (plane other : List (List ℕ)) (old new end : Coding)
    → AreWide width plane → AreWide width other → length plane ≡ length other
    → InTurn (ReadsRow tables) (rows_below above2 above plane) old new → InTurn (ReadsRow tables) (rows_below above2 above other) old end → (plane ≡ other) × (new ≡ end)
one_plane tables width above2 above [] [] old new end wide broad len first second = (refl, sym first ∙ second)
one_plane tables width above2 above [] (r ∷ rest) old new end wide broad len first second = absurd (omega arith)
one_plane tables width above2 above (row ∷ more) [] old new end wide broad len first second = absurd (omega arith)
one_plane tables width above2 above (row ∷ more) (r ∷ rest) old new end wide broad len (mid, here, left) (next, now, others) =
    let one = one_line tables above2 above row r old mid next (wide 0 (omega arith) ∙ sym (broad 0 (omega arith))) here now in
    let from_mid : InTurn (ReadsRow tables) (rows_below above r rest) mid end = subst (λ (c : Coding). InTurn (ReadsRow tables) (rows_below above r rest) c end) (sym one.1) others in
    let below_row : InTurn (ReadsRow tables) (rows_below above row rest) mid end = subst (λ (a : List ℕ). InTurn (ReadsRow tables) (rows_below above a rest) mid end) (sym one.0) from_mid in
    let all = one_plane tables width above row more rest mid new end (λ y lt. wide (suc y) (omega arith)) (λ y lt. broad (suc y) (omega arith)) (omega arith) left below_row in
    (cc, all.1)

plane_or_late : (tables : List (List ℤ)) (width : ℕ) (above2 above : List ℕ) (plane other : List (List ℕ)) (old new : Coding)
    → AreWide width plane → AreWide width other → length other ≤ length plane
    → InTurn (ReadsRow tables) (rows_below above2 above plane) old new → FailsInTurn (ReadsRow tables) (OutOfRangeInRow tables) (rows_below above2 above other) old → ⊥
plane_or_late tables width above2 above [] [] old new wide broad few all late = late
plane_or_late tables width above2 above [] (r ∷ rest) old new wide broad few all late = absurd (omega arith)
plane_or_late tables width above2 above (row ∷ more) [] old new wide broad few all late = late
plane_or_late tables width above2 above (row ∷ more) (r ∷ rest) old new wide broad few (mid, here, left) (inl late) =
    line_or_late tables above2 above row r old mid (wide 0 (omega arith) ∙ sym (broad 0 (omega arith))) here late
plane_or_late tables width above2 above (row ∷ more) (r ∷ rest) old new wide broad few (mid, here, left) (inr (next, now, late)) =
    let one = one_line tables above2 above row r old mid next (wide 0 (omega arith) ∙ sym (broad 0 (omega arith))) here now in
    let from_mid : FailsInTurn (ReadsRow tables) (OutOfRangeInRow tables) (rows_below above r rest) mid =
    subst (λ (c : Coding). FailsInTurn (ReadsRow tables) (OutOfRangeInRow tables) (rows_below above r rest) c) (sym one.1) late in
    let below_row : FailsInTurn (ReadsRow tables) (OutOfRangeInRow tables) (rows_below above row rest) mid =
    subst (λ (a : List ℕ). FailsInTurn (ReadsRow tables) (OutOfRangeInRow tables) (rows_below above a rest) mid) (sym one.0) from_mid in
    plane_or_late tables width above row more rest mid new (λ y lt. wide (suc y) (omega arith)) (λ y lt. broad (suc y) (omega arith)) (omega arith) left below_row

-- ---- areas
one_area : (tables : List (List ℤ)) (area : Area) (old x y : Decoding) → ReadsArea tables area old x → ReadsArea tables area old y → x ≡ y
one_area tables area old x y first second =
    let above : List ℕ = replicate area.width 0 in
    let same = one_plane tables area.width above above first.plane second.plane (coding (source first_run old.reading) old.states)
    (coding (source first.run x.reading) x.states) (coding (source second.run y.reading) y.states)
    (plane_wide area.width area.height first.plane first.sizes) (plane_wide area.width area.height second.plane second.sizes)
    (first.sizes.len ∙ sym second.sizes.len) first.read second.read in
    let image : x.image ≡ y.image = first.put ∙ ap (with_rows old.image area) same.0 ∙ sym second.put in
    λ i. record { states = (same.1 i).states; reading = (same.1 i).reading; image = image i }

area_or_late : (tables : List (List ℤ)) (area : Area) (old new : Decoding) → ReadsArea tables area old new → OutOfRangeInArea tables area old → ⊥
area_or_late tables area old new reads late =
    let above : List ℕ = replicate area.width 0 in
    plane_or_late tables area.width above above reads.plane late.plane (coding (source first_run old.reading) old.states) (coding (source reads.run new.reading) new.states)
    (plane_wide area.width area.height reads.plane reads.sizes) (front_wide area.width area.height late.plane late.sizes)
    (omega (arith, reads.sizes.len, late.sizes.few)) reads.read late.out_of_range

-- ---- a slice
one_part : (p : Part) (old x y : Standing) → ReadsPart p old x → ReadsPart p old y → x ≡ y
one_part p old x y (states, reads) (others, read) =
    let same = one_in_turn (ReadsArea p.tables) (one_area p.tables) p.areas (begun p old) _ _ reads read in
    λ i. record { reading = (same i).reading; image = (same i).image }

part_or_late : (p : Part) (old new : Standing) → ReadsPart p old new → OutOfRangeInPart p old → ⊥
part_or_late p old new (states, reads) late = turn_or_fail (ReadsArea p.tables) (OutOfRangeInArea p.tables) (one_area p.tables) (area_or_late p.tables) p.areas (begun p old) _ reads late

one_standing : (s : Slice) (old x y : Standing) → ReadsSlice s old x → ReadsSlice s old y → x ≡ y
one_standing s old x y first second = one_in_turn ReadsPart one_part (parts s) old x y first second

slice_or_late : (s : Slice) (old new : Standing) → ReadsSlice s old new → OutOfRangeInSlice s old → ⊥
slice_or_late s old new reads late = turn_or_fail ReadsPart OutOfRangeInPart one_part part_or_late (parts s) old new reads late

over_or_not : (s : Slice) (count : ℕ) (old x y : Standing) → ReadsSlice s old x → x.reading.taken ≤ count → ReadsSlice s old y → count < y.reading.taken → ⊥
over_or_not s count old x y first few second over =
    let same : x.reading.taken ≡ y.reading.taken = ap (λ (at : Standing). at.reading.taken) (one_standing s old x y first second) in
    omega arith

-- Two answers to one slice are one.
pub one_slice : (s : Slice) (bytes : List ℕ) (old x y : Image) (a b : Result (⊤) SliceFault) → Gives s bytes old x a → Gives s bytes old y b → a ≡ b
one_slice s bytes old x y (Ok u) (Ok v) first second = refl
one_slice s bytes old x y (Ok u) (Err Symbol) first second = absurd (slice_or_late s (standing (opened bytes) old) first.0 first.1 second)
one_slice s bytes old x y (Ok u) (Err Overrun) first second = absurd (over_or_not s (8 * length bytes) (standing (opened bytes) old) first.0 second.0 first.1 first.3 second.1 second.2)
one_slice s bytes old x y (Err Symbol) (Ok v) first second = absurd (slice_or_late s (standing (opened bytes) old) second.0 second.1 first)
one_slice s bytes old x y (Err Symbol) (Err Symbol) first second = refl
one_slice s bytes old x y (Err Symbol) (Err Overrun) first second = absurd (slice_or_late s (standing (opened bytes) old) second.0 second.1 first)
one_slice s bytes old x y (Err Overrun) (Ok v) first second = absurd (over_or_not s (8 * length bytes) (standing (opened bytes) old) second.0 first.0 second.1 second.3 first.1 first.2)
one_slice s bytes old x y (Err Overrun) (Err Symbol) first second = absurd (slice_or_late s (standing (opened bytes) old) first.0 first.1 second)
one_slice s bytes old x y (Err Overrun) (Err Overrun) first second = refl

-- A slice that has no fault gives one picture.
pub one_image : (s : Slice) (bytes : List ℕ) (old x y : Image) → Gives s bytes old x (Ok tt) → Gives s bytes old y (Ok tt) → x ≡ y
one_image s bytes old x y first second =
    sym first.2 ∙ ap (λ (at : Standing). at.image) (one_standing s (standing (opened bytes) old) first.0 second.0 first.1 second.1) ∙ second.2
