-- What is written is bits, 0 or 1, and their bytes spell them.
use Rattle.std.proofs.Common.{◌≡◌, ℕ, zero, suc, ◌+◌, ◌-◌, ◌*◌, ◌/◌, ◌%◌, ◌^◌, ◌<◌, ◌≤◌, List, [], ◌∷◌, ◌++◌, length, take, drop, replicate, refl, sym, ap, ◌∙◌, subst, arith, append_assoc, inl, inr, true, false, cond, Option, Some, None, ℤ}
use Rattle.std.specs.Int.{bit_at}
use Rattle.std.proofs.lemmas.Nat.Bits.{bit_at_cat_high, bit_at_lowest}
use Rattle.std.proofs.lemmas.Bool.{cases_lt}
use Rattle.std.proofs.lemmas.List.{append-nil, take_all, drop_all, length-drop, take-append-drop, replicate-append-replicate}
use Rattle.std.proofs.Math.Seq.{drop-append_seam}
use Rattle.std.specs.Prelude.{pos, negsuc, nat_lt, nat_le, ◌==◌, slice_index_or}
use Rattle.tl_base.specs.Parity.{bits_of}
use Rattle.pic_planes.specs.Picture.{Image}
use Rattle.ffv1_range.specs.Reading.{after_bit}
use Rattle.ffv1_rice.specs.Bits.{bits_of_bytes, padded, number_at}
use Rattle.ffv1_rice.specs.Window.{AreBits}
use Rattle.ffv1_rice.specs.Code.{code, unsigned_of, escape_zeros}
use Rattle.ffv1_rice.specs.State.{State, fresh, parameter, turned, residual_of, difference_bits}
use Rattle.ffv1_rice.specs.Runs.{run_bits, whole_run}
use Rattle.ffv1_rice.specs.Lines.{Written, Fitting, one_more, fitting_of, fitting, difference_put, broken_put, end_put, lowered, pending_at, put_by, sample_put, ended}
use Rattle.ffv1_rice.proofs.BitLemmas.{are_bits-of, are_bits-append, are_bits-drop, number_at-lt}
use Rattle.ffv1_rice.proofs.PutLemmas.{bits_of-cat, bits_of-zero}
use Rattle.ffv1_predict.specs.Border.{Rows, rows_of_plane}
use Rattle.ffv1_slice.specs.declared.area.Area.{Area}
use Rattle.ffv1_slice.specs.Order.{InRow}
use Rattle.ffv1_slice.specs.Slice.{Part, Slice}
use Rattle.ffv1_slice.specs.Writing.{samples}
use Rattle.ffv1_golomb.specs.Turn.{InTurn}
use Rattle.ffv1_golomb.specs.Slice.{parts}
use Rattle.ffv1_golomb.specs.Writing.{WritesSample, WritesRow, WritesArea, WritesPart, WritesSlice, Encoding, encoding, between_lines, packed_in, packed}
use Rattle.ffv1_golomb.specs.Law.{ReadsPacked, FindsBits}
use Rattle.ffv1_golomb.proofs.BackSlice.{reads_slices}

are_bits-zeros : (n : ℕ) → AreBits (replicate n 0)
are_bits-zeros zero = tt
are_bits-zeros (suc n) = (omega arith, are_bits-zeros n)

code-bits : (k u : ℕ) → AreBits (code k u)
unfolding code
code-bits k u =
    elim (nat_lt (u / 2 ^ k) escape_zeros) as (λ b. AreBits (cond b (replicate (u / 2 ^ k) 0 ++ 1 ∷ bits_of k u) (replicate escape_zeros 0 ++ bits_of 8 (u - 11)))) [
      | true ↦ are_bits-append (replicate (u / 2 ^ k) 0) (1 ∷ bits_of k u) (are_bits-zeros (u / 2 ^ k)) (omega arith, are_bits-of k u)
      | false ↦ are_bits-append (replicate escape_zeros 0) (bits_of 8 (u - 11)) (are_bits-zeros escape_zeros) (are_bits-of 8 (u - 11))
    ]

difference-bits : (s : State) (d : ℤ) → AreBits (difference_bits s d)
unfolding difference_bits
difference-bits s d = code-bits (parameter s) (unsigned_of (turned s (residual_of s d)))

fitting_of-bits : (more count index : ℕ) → AreBits (fitting_of more count index).bits
fitting_of-bits zero count index = tt
fitting_of-bits (suc more) count index =
    let rest : Fitting = fitting_of more (count - whole_run index) (index + 1) in
    elim (nat_le (whole_run index) count) as (λ b. AreBits (cond b (one_more rest) (record { bits = []; index = index; rest = count })).bits) [
      | true ↦ (omega arith, fitting_of-bits more (count - whole_run index) (index + 1))
      | false ↦ tt
    ]

fitting-bits : (count index : ℕ) → AreBits (fitting count index).bits
unfolding fitting
fitting-bits count index = fitting_of-bits count count index

difference_put-bits : (context : ℕ) (d : ℤ) (w : Written) → AreBits w.bits → AreBits (difference_put context d w).bits
unfolding difference_put
difference_put-bits context d w h = are_bits-append w.bits (difference_bits (slice_index_or w.states context fresh) d) h (difference-bits (slice_index_or w.states context fresh) d)

broken_put-bits : (count : ℕ) (w : Written) → AreBits w.bits → AreBits (broken_put count w).bits
unfolding broken_put
broken_put-bits count w h =
    let f : Fitting = fitting count w.index in
    are_bits-append w.bits (f.bits ++ 0 ∷ bits_of (run_bits f.index) f.rest) h
    (are_bits-append f.bits (0 ∷ bits_of (run_bits f.index) f.rest) (fitting-bits count w.index) (omega arith, are_bits-of (run_bits f.index) f.rest))

end_put-bits : (count : ℕ) (w : Written) → AreBits w.bits → AreBits (end_put count w).bits
unfolding end_put
end_put-bits count w h =
    let f : Fitting = fitting count w.index in
    let last : AreBits (cond (f.rest == 0) [] (1 ∷ [])) = elim (f.rest == 0) as (λ b. AreBits (cond b [] (1 ∷ []))) [ true ↦ tt | false ↦ (omega arith, tt) ] in
    are_bits-append w.bits (f.bits ++ cond (f.rest == 0) [] (1 ∷ [])) h (are_bits-append f.bits (cond (f.rest == 0) [] (1 ∷ [])) (fitting-bits count w.index) last)

put_by-bits : (o : Option ℕ) (context : ℕ) (d : ℤ) (w : Written) → AreBits w.bits → AreBits (put_by o context d w).bits
put_by-bits None context d w h = difference_put-bits context d w h
put_by-bits (Some count) context (pos zero) w h = h
put_by-bits (Some count) context (pos (suc n)) w h = difference_put-bits context (lowered (pos (suc n))) (broken_put count w) (broken_put-bits count w h)
put_by-bits (Some count) context (negsuc n) w h = difference_put-bits context (lowered (negsuc n)) (broken_put count w) (broken_put-bits count w h)

sample_put-bits : (context : ℕ) (d : ℤ) (w : Written) → AreBits w.bits → AreBits (sample_put context d w).bits
unfolding sample_put
sample_put-bits context d w h = put_by-bits (pending_at context w.pending) context d w h

ended-bits : (o : Option ℕ) (w : Written) → AreBits w.bits → AreBits (ended o w).bits
ended-bits None w h = h
ended-bits (Some count) w h = end_put-bits count w h

-- ---- in order
turn-keeps : {A S : Type 0} (step : A → S → S → Type 0) (P : S → Type 0) → ((x : A) (old new : S) → step x old new → P old → P new)
    → (xs : List A) (old new : S) → InTurn step xs old new → P old → P new
turn-keeps step P each [] old new done h = subst P done h
turn-keeps step P each (x ∷ more) old new (mid, here, later) h = turn-keeps step P each more mid new later (each x old mid here h)

row-keeps : (tables : List (List ℤ)) (r : Rows) (x : ℕ) (old new : Written) → InRow (WritesSample tables) r x old new → AreBits old.bits → AreBits new.bits
row-keeps tables r zero old new done h = subst (λ (w : Written). AreBits w.bits) done h
row-keeps tables r (suc x) old new (mid, before, here) h =
    subst (λ (w : Written). AreBits w.bits) (sym here) (sample_put-bits _ _ mid (row-keeps tables r x old mid before h))

writes_row-bits : (tables : List (List ℤ)) (r : Rows) (old new : Written) → WritesRow tables r old new → AreBits old.bits → AreBits new.bits
writes_row-bits tables r old new writes h =
    subst (λ (w : Written). AreBits w.bits) writes.run (ended-bits writes.end.pending writes.end (row-keeps tables r (length r.row) (record old { pending = None }) writes.end writes.written h))

writes_area-bits : (tables : List (List ℤ)) (image : Image) (area : Area) (old new : Encoding) → WritesArea tables image area old new → AreBits old.bits → AreBits new.bits
writes_area-bits tables image area old new writes h =
    turn-keeps (WritesRow tables) (λ (w : Written). AreBits w.bits) (writes_row-bits tables) (rows_of_plane area.width (samples image area)) (between_lines 0 old) (between_lines writes.index new) writes.written h

writes_part-bits : (image : Image) (p : Part) (old new : List ℕ) → WritesPart image p old new → AreBits old → AreBits new
writes_part-bits image p old new writes h =
    turn-keeps (WritesArea p.tables image) (λ (e : Encoding). AreBits e.bits) (writes_area-bits p.tables image) p.areas (encoding (replicate p.context_count fresh) old) (encoding writes.0 new) writes.1 h

pub writes_slice-bits : (s : Slice) (image : Image) (old new : List ℕ) → WritesSlice s image old new → AreBits old → AreBits new
writes_slice-bits s image old new writes h = turn-keeps (WritesPart image) AreBits (writes_part-bits image) (parts s) old new writes h

-- ---- bytes
bit-high : (b v n : ℕ) → b < 2 → v < 2 ^ n → bit_at (b * 2 ^ n + v) n ≡ b
bit-high b v n bit small =
    let same : n ≤ n = omega arith in
    let none : n - n ≡ 0 = omega arith in
    bit_at_cat_high b n v n small same ∙ ap (bit_at b) none ∙ bit_at_lowest b ∙ omega arith

number-bits : (n : ℕ) (bits : List ℕ) → AreBits bits → bits_of n (number_at n bits) ≡ take n bits ++ replicate (n - length bits) 0
number-bits zero bits are = let e : 0 ≡ 0 - length bits = omega arith in ap (λ v. replicate v 0) e
number-bits (suc n) [] are = let e : suc n ≡ suc n - 0 = omega arith in bits_of-zero (suc n) ∙ ap (λ v. replicate v 0) e
number-bits (suc n) (b ∷ bits) are =
    let v : ℕ = number_at n bits in
    let e : n - length bits ≡ suc n - suc (length bits) = omega arith in
    let same : n ≤ n = omega arith in
    ap (λ x. x ∷ bits_of n (b * 2 ^ n + v)) (bit-high b v n are.0 (number_at-lt n bits are.1))
    ∙ ap (λ l. b ∷ l) (bits_of-cat n n b v same ∙ number-bits n bits are.1)
    ∙ ap (λ k. b ∷ (take n bits ++ replicate k 0)) e

joined : (n : ℕ) (bits : List ℕ) → length bits ≤ 8 * suc n
    → (take 8 bits ++ replicate (8 - length bits) 0) ++ (drop 8 bits ++ replicate (8 * n - length (drop 8 bits)) 0) ≡ bits ++ replicate (8 * suc n - length bits) 0
joined n bits fits =
    elim (cases_lt (length bits) 8) [
      | inl few ↦
          (let all : take 8 bits ≡ bits = take_all 8 bits (omega arith) in
          let none : drop 8 bits ≡ [] = drop_all 8 bits (omega arith) in
          let e : 8 - length bits + (8 * n - 0) ≡ 8 * suc n - length bits = omega arith in
          ap (λ l. (l ++ replicate (8 - length bits) 0) ++ (drop 8 bits ++ replicate (8 * n - length (drop 8 bits)) 0)) all
          ∙ ap (λ (l : List ℕ). (bits ++ replicate (8 - length bits) 0) ++ (l ++ replicate (8 * n - length l) 0)) none
          ∙ append_assoc bits (replicate (8 - length bits) 0) (replicate (8 * n - 0) 0)
          ∙ ap (λ l. bits ++ l) (replicate-append-replicate (8 - length bits) (8 * n - 0) 0)
          ∙ ap (λ k. bits ++ replicate k 0) e)
      | inr many ↦
          (let none : 8 - length bits ≡ 0 = omega arith in
          let len : length (drop 8 bits) ≡ length bits - 8 = length-drop 8 bits in
          let e : 8 * n - length (drop 8 bits) ≡ 8 * suc n - length bits = omega (arith, len) in
          ap (λ k. (take 8 bits ++ replicate k 0) ++ (drop 8 bits ++ replicate (8 * n - length (drop 8 bits)) 0)) none
          ∙ ap (λ l. l ++ (drop 8 bits ++ replicate (8 * n - length (drop 8 bits)) 0)) (append-nil (take 8 bits))
          ∙ sym (append_assoc (take 8 bits) (drop 8 bits) (replicate (8 * n - length (drop 8 bits)) 0))
          ∙ ap (λ l. l ++ replicate (8 * n - length (drop 8 bits)) 0) (take-append-drop 8 bits)
          ∙ ap (λ k. bits ++ replicate k 0) e)
    ]

packed_in-bits : (n : ℕ) (bits : List ℕ) → AreBits bits → length bits ≤ 8 * n → bits_of_bytes (packed_in n bits) ≡ bits ++ replicate (8 * n - length bits) 0
unfolding packed_in
packed_in-bits zero [] are fits = refl
packed_in-bits zero (b ∷ bits) are fits = absurd (omega arith)
packed_in-bits (suc n) bits are fits =
    let len : length (drop 8 bits) ≡ length bits - 8 = length-drop 8 bits in
    ap (λ l. l ++ bits_of_bytes (packed_in n (drop 8 bits))) (number-bits 8 bits are)
    ∙ ap (λ l. (take 8 bits ++ replicate (8 - length bits) 0) ++ l) (packed_in-bits n (drop 8 bits) (are_bits-drop 8 bits are) (omega (arith, len)))
    ∙ joined n bits fits

pub packed-bits : (bits : List ℕ) → AreBits bits → bits_of_bytes (packed bits) ≡ padded bits
packed-bits bits are =
    let n : ℕ = (length bits + 7) / 8 in
    let e : 8 * n - length bits ≡ (8 - length bits % 8) % 8 = omega arith in
    packed_in-bits n bits are (omega arith) ∙ ap (λ k. bits ++ replicate k 0) e

-- ---- the law on whole contents
pub reads_packed : ReadsPacked
reads_packed s image before bits inside writes = reads_slices s image before bits (packed bits) inside writes (packed-bits bits (writes_slice-bits s image [] bits writes tt))

pub finds_bits : FindsBits
finds_bits part more r taken =
    let e : (after_bit r 129).taken - 1 ≡ length part = omega (arith, taken) in
    ap (λ n. drop n (part ++ more)) e ∙ drop-append_seam part more
