-- In Golomb-Rice mode too each picture is written as one thing.
use Rattle.std.proofs.Common.{◌≡◌, ℕ, zero, suc, ◌+◌, ◌-◌, ◌*◌, ◌/◌, ◌%◌, ◌^◌, ◌<◌, ◌≤◌, Bool, true, false, cond, ltb, leb, eqb, ℤ, pos, negsuc, nat_abs, List, [], ◌∷◌, ◌++◌, length, replicate, drop, get_or, Option, Some, None, refl, sym, ◌∙◌, ap, subst, arith}
use Rattle.std.specs.Prelude.{slice_index}
use Rattle.std.specs.Int.{bit_at, bytes_high_first}
use Rattle.std.proofs.Math.Nat.{pow-suc}
use Rattle.std.proofs.Math.Seq.{get_or-append_right}
use Rattle.std.proofs.lemmas.Nat.Bits.{bit_at_cat_high}
use Rattle.std.proofs.lemmas.List.{append-nil, length-append, length-replicate, ext_get_or}
use Rattle.tl_base.specs.Parity.{bits_of}
use Rattle.pic_planes.specs.Picture.{Image}
use Rattle.ffv1_range.specs.Writing.{Writing, part, with_sentinel}
use Rattle.ffv1_range.proofs.Part.{fits_bytes, fits_part}
use Rattle.ffv1_rice.specs.Window.{AreBits}
use Rattle.ffv1_rice.specs.Bits.{bits_of_bytes, padded, number_at}
use Rattle.ffv1_rice.specs.Code.{code, escape_zeros, unsigned_of}
use Rattle.ffv1_rice.specs.State.{State, fresh, difference_bits, parameter, turned, residual_of}
use Rattle.ffv1_rice.specs.Runs.{whole_run, run_bits}
use Rattle.ffv1_rice.specs.Lines.{Fitting, one_more, fitting_of, fitting, Written, difference_put, broken_put, end_put, pending_at, put_by, sample_put, ended, lowered}
use Rattle.ffv1_rice.proofs.BitLemmas.{are_bits-of, are_bits-append, number_at-lt, length-bits_of_bytes, number_at-byte}
use Rattle.ffv1_rice.proofs.PutLemmas.{bits_of_bytes-number, bits_of-cat}
use Rattle.ffv1_predict.specs.Near.{context, coded}
use Rattle.ffv1_predict.specs.Border.{Rows, near, rows_of_plane}
use Rattle.ffv1_slice.specs.declared.area.Area.{Area}
use Rattle.ffv1_slice.specs.Order.{InRow}
use Rattle.ffv1_slice.specs.Slice.{Part, Slice}
use Rattle.ffv1_slice.specs.Writing.{samples}
use Rattle.ffv1_golomb.specs.Turn.{InTurn}
use Rattle.ffv1_golomb.specs.Slice.{parts}
use Rattle.ffv1_golomb.proofs.Packing.{packs_bits}
use Rattle.ffv1_frame.specs.Written.{IsRiceContent}
use Rattle.ffv1_golomb.specs.Writing.{WritesSample, WritesRow, Encoding, encoding, between_lines, WritesArea, WritesPart, WritesSlice, packed, content_of}

-- ---- steps in turn
turn_keeps : {A S : Type 0} (step : A → S → S → Type 0) (P : S → Type 0) → ((x : A) (old new : S) → step x old new → P old → P new) → (xs : List A) (old new : S) → InTurn step xs old new → P old → P new
turn_keeps step P each [] old new done before = subst P done before
turn_keeps step P each (x ∷ more) old new (mid, here, rest) before = turn_keeps step P each more mid new rest (each x old mid here before)

turn_exists : {A S : Type 0} (step : A → S → S → Type 0) → ((x : A) (old : S) → (new : S) × step x old new) → (xs : List A) (old : S) → (new : S) × InTurn step xs old new
turn_exists step each [] old = (old, refl)
turn_exists step each (x ∷ more) old =
    let first = each x old in
    let rest = turn_exists step each more first.0 in
    (rest.0, (first.0, first.1, rest.1))

turn_one : {A S : Type 0} (step : A → S → S → Type 0) → ((x : A) (old old' new new' : S) → old ≡ old' → step x old new → step x old' new' → new ≡ new') → (xs : List A) (old old' new new' : S)
    → old ≡ old' → InTurn step xs old new → InTurn step xs old' new' → new ≡ new'
turn_one step each [] old old' new new' same first second = sym first ∙ same ∙ second
turn_one step each (x ∷ more) old old' new new' same (mid, here, rest) (mid', here', rest') =
    turn_one step each more mid mid' new new' (each x old old' mid mid' same here here') rest rest'

-- ---- what is written are bits
either_bits : (b : Bool) (x y : List ℕ) → AreBits x → AreBits y → AreBits (cond b x y)
either_bits true x y first second = first
either_bits false x y first second = second

zeros_bits : (n : ℕ) → AreBits (replicate n 0)
zeros_bits zero = tt
zeros_bits (suc n) = (omega arith, zeros_bits n)

code_bits : (k u : ℕ) → AreBits (code k u)
unfolding code
code_bits k u =
    either_bits (ltb (u / 2 ^ k) escape_zeros) (replicate (u / 2 ^ k) 0 ++ 1 ∷ bits_of k u) (replicate escape_zeros 0 ++ bits_of 8 (u - 11))
    (are_bits-append (replicate (u / 2 ^ k) 0) (1 ∷ bits_of k u) (zeros_bits (u / 2 ^ k)) (omega arith, are_bits-of k u))
    (are_bits-append (replicate escape_zeros 0) (bits_of 8 (u - 11)) (zeros_bits escape_zeros) (are_bits-of 8 (u - 11)))

difference_are : (s : State) (d : ℤ) → AreBits (difference_bits s d)
unfolding difference_bits
difference_are s d = code_bits (parameter s) (unsigned_of (turned s (residual_of s d)))

either_fitting : (b : Bool) (f g : Fitting) → AreBits f.bits → AreBits g.bits → AreBits (cond b f g).bits
either_fitting true f g first second = first
either_fitting false f g first second = second

fitting_of_bits : (most count index : ℕ) → AreBits (fitting_of most count index).bits
fitting_of_bits zero count index = tt
fitting_of_bits (suc most) count index =
    either_fitting (leb (whole_run index) count) (one_more (fitting_of most (count - whole_run index) (index + 1))) (record { bits = []; index = index; rest = count })
    (omega arith, fitting_of_bits most (count - whole_run index) (index + 1)) tt

fitting_bits : (count index : ℕ) → AreBits (fitting count index).bits
unfolding fitting
fitting_bits count index = fitting_of_bits count count index

difference_put_bits : (context : ℕ) (d : ℤ) (w : Written) → AreBits w.bits → AreBits (difference_put context d w).bits
unfolding difference_put
difference_put_bits context d w are = are_bits-append w.bits _ are (difference_are _ d)

broken_put_bits : (count : ℕ) (w : Written) → AreBits w.bits → AreBits (broken_put count w).bits
unfolding broken_put
broken_put_bits count w are =
    let f : Fitting = fitting count w.index in
    let rest : List ℕ = bits_of (run_bits f.index) f.rest in
    are_bits-append w.bits (f.bits ++ 0 ∷ rest) are (are_bits-append f.bits (0 ∷ rest) (fitting_bits count w.index) (omega arith, are_bits-of (run_bits f.index) f.rest))

end_put_bits : (count : ℕ) (w : Written) → AreBits w.bits → AreBits (end_put count w).bits
unfolding end_put
end_put_bits count w are =
    let f : Fitting = fitting count w.index in
    are_bits-append w.bits (f.bits ++ cond (eqb f.rest 0) [] (1 ∷ [])) are (are_bits-append f.bits (cond (eqb f.rest 0) [] (1 ∷ [])) (fitting_bits count w.index) (either_bits (eqb f.rest 0) [] (1 ∷ []) tt (omega arith, tt)))

put_by_bits : (pending : Option ℕ) (context : ℕ) (d : ℤ) (w : Written) → AreBits w.bits → AreBits (put_by pending context d w).bits
put_by_bits None context d w are = difference_put_bits context d w are
put_by_bits (Some count) context (pos zero) w are = are
put_by_bits (Some count) context (pos (suc n)) w are = difference_put_bits context (lowered (pos (suc n))) (broken_put count w) (broken_put_bits count w are)
put_by_bits (Some count) context (negsuc n) w are = difference_put_bits context (lowered (negsuc n)) (broken_put count w) (broken_put_bits count w are)

sample_put_bits : (context : ℕ) (d : ℤ) (w : Written) → AreBits w.bits → AreBits (sample_put context d w).bits
unfolding sample_put
sample_put_bits context d w are = put_by_bits (pending_at context w.pending) context d w are

ended_bits : (pending : Option ℕ) (w : Written) → AreBits w.bits → AreBits (ended pending w).bits
ended_bits None w are = are
ended_bits (Some count) w are = end_put_bits count w are

row_bits : (tables : List (List ℤ)) (r : Rows) (x : ℕ) (old new : Written) → InRow (WritesSample tables) r x old new → AreBits old.bits → AreBits new.bits
row_bits tables r zero old new done are = subst (λ (w : Written). AreBits w.bits) done are
row_bits tables r (suc x) old new (mid, before, here) are =
    subst (λ (w : Written). AreBits w.bits) (sym here) (sample_put_bits (nat_abs (context tables (near r x))) (coded (context tables (near r x)) (near r x) (slice_index r.row x)) mid (row_bits tables r x old mid before are))

whole_row_bits : (tables : List (List ℤ)) (r : Rows) (old new : Written) → WritesRow tables r old new → AreBits old.bits → AreBits new.bits
whole_row_bits tables r old new row are =
    subst (λ (w : Written). AreBits w.bits) row.run (ended_bits row.end.pending row.end (row_bits tables r (length r.row) (record old { pending = None }) row.end row.written are))

area_bits : (tables : List (List ℤ)) (image : Image) (area : Area) (old new : Encoding) → WritesArea tables image area old new → AreBits old.bits → AreBits new.bits
area_bits tables image area old new area_written are =
    turn_keeps (WritesRow tables) (λ (w : Written). AreBits w.bits) (whole_row_bits tables) (rows_of_plane area.width (samples image area)) (between_lines 0 old) (between_lines area_written.index new) area_written.written are

part_bits : (image : Image) (p : Part) (old new : List ℕ) → WritesPart image p old new → AreBits old → AreBits new
part_bits image p old new (states, written) are =
    turn_keeps (WritesArea p.tables image) (λ (e : Encoding). AreBits e.bits) (area_bits p.tables image) p.areas (encoding (replicate p.context_count fresh) old) (encoding states new) written are

slice_bits : (s : Slice) (image : Image) (bits : List ℕ) → WritesSlice s image [] bits → AreBits bits
slice_bits s image bits written = turn_keeps (WritesPart image) AreBits (part_bits image) (parts s) [] bits written tt

-- ---- there is one
row_exists : (tables : List (List ℤ)) (r : Rows) (x : ℕ) (old : Written) → (new : Written) × InRow (WritesSample tables) r x old new
row_exists tables r zero old = (old, refl)
row_exists tables r (suc x) old =
    let before = row_exists tables r x old in
    (sample_put (nat_abs (context tables (near r x))) (coded (context tables (near r x)) (near r x) (slice_index r.row x)) before.0, (before.0, before.1, refl))

whole_row_exists : (tables : List (List ℤ)) (r : Rows) (old : Written) → (new : Written) × WritesRow tables r old new
whole_row_exists tables r old =
    let row = row_exists tables r (length r.row) (record old { pending = None }) in
    (ended row.0.pending row.0, record { end = row.0; written = row.1; run = refl })

ended_pending : (pending : Option ℕ) (w : Written) → w.pending ≡ pending → (ended pending w).pending ≡ None
unfolding end_put
ended_pending None w is = is
ended_pending (Some count) w is = refl

row_pending : (tables : List (List ℤ)) (r : Rows) (old new : Written) → WritesRow tables r old new → old.pending ≡ None → new.pending ≡ None
row_pending tables r old new row before = subst (λ (w : Written). w.pending ≡ None) row.run (ended_pending row.end.pending row.end refl)

area_exists : (tables : List (List ℤ)) (image : Image) (area : Area) (old : Encoding) → (new : Encoding) × WritesArea tables image area old new
area_exists tables image area old =
    let rows = turn_exists (WritesRow tables) (whole_row_exists tables) (rows_of_plane area.width (samples image area)) (between_lines 0 old) in
    let w : Written = rows.0 in
    let none : w.pending ≡ None = turn_keeps (WritesRow tables) (λ (v : Written). v.pending ≡ None) (row_pending tables) (rows_of_plane area.width (samples image area)) (between_lines 0 old) w rows.1 refl in
    let between : w ≡ between_lines w.index (encoding w.states w.bits) = ap (λ (o : Option ℕ). record w { pending = o }) none in
    (encoding w.states w.bits, record { index = w.index; written = subst (λ (v : Written). InTurn (WritesRow tables) (rows_of_plane area.width (samples image area)) (between_lines 0 old) v) between rows.1 })

part_exists : (image : Image) (p : Part) (old : List ℕ) → (new : List ℕ) × WritesPart image p old new
part_exists image p old =
    let areas = turn_exists (WritesArea p.tables image) (area_exists p.tables image) p.areas (encoding (replicate p.context_count fresh) old) in
    (areas.0.bits, (areas.0.states, areas.1))

slice_exists : (s : Slice) (image : Image) → (bits : List ℕ) × WritesSlice s image [] bits
slice_exists s image = turn_exists (WritesPart image) (part_exists image) (parts s) []

-- ---- there is no other
one_row : (tables : List (List ℤ)) (r : Rows) (x : ℕ) (old old' new new' : Written) → old ≡ old' → InRow (WritesSample tables) r x old new → InRow (WritesSample tables) r x old' new' → new ≡ new'
one_row tables r zero old old' new new' same first second = sym first ∙ same ∙ second
one_row tables r (suc x) old old' new new' same (mid, before, here) (mid', before', here') =
    here
    ∙ ap (λ (w : Written). sample_put (nat_abs (context tables (near r x))) (coded (context tables (near r x)) (near r x) (slice_index r.row x)) w) (one_row tables r x old old' mid mid' same before before')
    ∙ sym here'

one_whole_row : (tables : List (List ℤ)) (r : Rows) (old old' new new' : Written) → old ≡ old' → WritesRow tables r old new → WritesRow tables r old' new' → new ≡ new'
one_whole_row tables r old old' new new' same first second =
    sym first.run
    ∙ ap (λ (w : Written). ended w.pending w)
    (one_row tables r (length r.row) (record old { pending = None }) (record old' { pending = None }) first.end second.end (ap (λ (w : Written). record w { pending = None }) same) first.written second.written)
    ∙ second.run

one_area : (tables : List (List ℤ)) (image : Image) (area : Area) (old old' new new' : Encoding) → old ≡ old' → WritesArea tables image area old new → WritesArea tables image area old' new' → new ≡ new'
one_area tables image area old old' new new' same first second =
    ap (λ (w : Written). encoding w.states w.bits)
    (turn_one (WritesRow tables) (one_whole_row tables) (rows_of_plane area.width (samples image area)) (between_lines 0 old) (between_lines 0 old') (between_lines first.index new) (between_lines second.index new')
    (ap (between_lines 0) same) first.written second.written)

one_part : (image : Image) (p : Part) (old old' new new' : List ℕ) → old ≡ old' → WritesPart image p old new → WritesPart image p old' new' → new ≡ new'
one_part image p old old' new new' same (states, first) (states', second) =
    ap (λ (e : Encoding). e.bits)
    (turn_one (WritesArea p.tables image) (one_area p.tables image) p.areas (encoding (replicate p.context_count fresh) old) (encoding (replicate p.context_count fresh) old') (encoding states new) (encoding states' new')
    (ap (encoding (replicate p.context_count fresh)) same) first second)

one_slice : (s : Slice) (image : Image) (bits bits' : List ℕ) → WritesSlice s image [] bits → WritesSlice s image [] bits' → bits ≡ bits'
one_slice s image bits bits' first second = turn_one (WritesPart image) (one_part image) (parts s) [] [] bits bits' refl first second

-- ---- bits as bytes
abbrev pub AreBytes : List ℕ → Type 0
AreBytes bytes = (k : ℕ) → slice_index bytes k < 256

bits-number : (bits : List ℕ) → AreBits bits → bits_of (length bits) (number_at (length bits) bits) ≡ bits
bits-number [] are = refl
bits-number (b ∷ bits) are =
    let n : ℕ = length bits in
    let low : ℕ = number_at n bits in
    let small : low < 2 ^ n = number_at-lt n bits are.1 in
    let top : bit_at (b * 2 ^ n + low) n ≡ b = bit_at_cat_high b n low n small (omega arith) ∙ first_bit b n are.0 in
    let rest : bits_of n (b * 2 ^ n + low) ≡ bits = bits_of-cat n n b low (omega arith) ∙ bits-number bits are.1 in
    ap (λ (x : ℕ). x ∷ bits_of n (b * 2 ^ n + low)) top ∙ ap (λ (l : List ℕ). b ∷ l) rest
  where
    first_bit : (b n : ℕ) → b < 2 → bit_at b (n - n) ≡ b
    first_bit b n small = ap (bit_at b) {x = n - n} {y = 0} (omega arith) ∙ omega arith

-- bytes of bits, of which zeros fill the last
bytes_exist : (bits : List ℕ) → AreBits bits → (bytes : List ℕ) × (bits_of_bytes bytes ≡ padded bits) × AreBytes bytes
bytes_exist bits are =
    let fill : ℕ = (8 - length bits % 8) % 8 in
    let all : List ℕ = padded bits in
    let k : ℕ = length all / 8 in
    let long : length all ≡ length bits + fill = length-append bits (replicate fill 0) ∙ ap (λ n. length bits + n) (length-replicate {A = ℕ} fill 0) in
    let whole : length all ≡ 8 * k = omega arith in
    let are_all : AreBits all = are_bits-append bits (replicate fill 0) are (zeros_bits fill) in
    let n : ℕ = number_at (length all) all in (
      bytes_high_first k n,
      bits_of_bytes-number k n ∙ ap (λ i. bits_of i n) (sym whole) ∙ bits-number all are_all,
      subst AreBytes (append-nil (bytes_high_first k n)) (fits_bytes k n [] (λ i. omega arith)),
    )

-- the bytes of the definition spell the bits
pub packed_spells : (slice : Slice) (image : Image) (bits : List ℕ) → WritesSlice slice image [] bits → (bits_of_bytes (packed bits) ≡ padded bits) × AreBytes (packed bits)
packed_spells slice image bits written =
    let found = bytes_exist bits (slice_bits slice image bits written) in
    let same : found.0 ≡ packed bits = packs_bits found.0 bits found.2 found.1 in
    subst (λ (b : List ℕ). (bits_of_bytes b ≡ padded bits) × AreBytes b) same (found.1, found.2)

-- ---- a content
pub written_exists : (slice : Slice) (image : Image) (header : Writing) → (content : List ℕ) × IsRiceContent slice image header content
written_exists slice image header =
    let written = slice_exists slice image in
    (content_of header written.0, record { bits = written.0; samples = written.1; joined = refl })

pub one_written : (slice : Slice) (image : Image) (header : Writing) (content other : List ℕ) → IsRiceContent slice image header content → IsRiceContent slice image header other → content ≡ other
one_written slice image header content other first second =
    first.joined ∙ ap (content_of header) (one_slice slice image first.bits second.bits first.samples second.samples) ∙ sym second.joined
