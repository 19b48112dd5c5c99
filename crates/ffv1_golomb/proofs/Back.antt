-- What was written in turn is read in turn, and a row that was written is read back.
use Rattle.std.proofs.Common.{◌≡◌, ℕ, zero, suc, ◌+◌, ◌-◌, ◌<◌, ◌≤◌, ◌^◌, min, List, [], ◌∷◌, ◌++◌, length, refl, sym, ap, ◌∙◌, subst, arith, append_assoc, length-append, Option, Some, None, ℤ}
use Rattle.std.specs.Prelude.{pos, negsuc, ◌-ℤ◌, ◌+ℤ◌, nat_abs, slice_index, option_and_then}
use Rattle.std.specs.Int.{int_rem_euclid}
use Rattle.std.specs.List.{AllByRecursion}
use Rattle.std.proofs.lemmas.Int.{ints}
use Rattle.std.proofs.lemmas.List.{append-nil}
use Rattle.ffv1_rice.specs.Bits.{Reading}
use Rattle.ffv1_rice.specs.State.{State}
use Rattle.ffv1_rice.specs.Runs.{Coding, line_run, sample_at, in_front, differences_at}
use Rattle.ffv1_rice.specs.Lines.{Written, sample_put, ended, line_put}
use Rattle.ffv1_rice.specs.Law.{IsDifference, IsReadBack, reading_behind}
use Rattle.ffv1_rice.proofs.LineBack.{reads_lines}
use Rattle.ffv1_predict.specs.Near.{context, coded, turned, predicted, IsNear}
use Rattle.ffv1_predict.specs.Border.{Rows, near}
use Rattle.ffv1_predict.proofs.Restoring.{restored_back}
use Rattle.ffv1_slice.specs.Order.{InRow}
use Rattle.ffv1_golomb.specs.Turn.{InTurn}
use Rattle.ffv1_golomb.specs.Reading.{Line, line, line_begun, ReadsSample, ReadsRow}
use Rattle.ffv1_golomb.specs.Writing.{WritesSample, WritesRow}
use Rattle.ffv1_golomb.proofs.WriteSteps.{row_put}

-- ---- in turn
-- What was written as a step is read as one, whatever bits follow.
pub record IsBack {A W R : Type 0} (bits_in : W → List ℕ) (IsAt : W → List ℕ → R → Type 0) (read : A → R → R → Type 0) (x : A) (old new : W) : Type 0 where
  pub bits : List ℕ
  pub written : bits_in new ≡ bits_in old ++ bits
  pub back : (rest : List ℕ) (s : R) → IsAt old (bits ++ rest) s → (end : R) × read x s end × IsAt new rest end

pub turn_back : {A W R : Type 0} (bits_in : W → List ℕ) (IsAt : W → List ℕ → R → Type 0) (write : A → W → W → Type 0) (read : A → R → R → Type 0) (P : A → Type 0)
    → ((x : A) (old new : W) → P x → write x old new → IsBack bits_in IsAt read x old new)
    → (xs : List A) (old new : W) → AllByRecursion P xs → InTurn write xs old new → IsBack bits_in IsAt (InTurn read) xs old new
turn_back bits_in IsAt write read P each [] old new all done = record {
  bits = [];
  written = sym (ap bits_in done) ∙ sym (append-nil (bits_in old));
  back = λ rest s at. (s, refl, subst (λ w. IsAt w rest s) done at);
}
turn_back bits_in IsAt write read P each (x ∷ more) old new all (mid, here, later) =
    let first = each x old mid all.0 here in
    let second = turn_back bits_in IsAt write read P each more mid new all.1 later in
    record {
      bits = first.bits ++ second.bits;
      written = second.written ∙ ap (λ b. b ++ second.bits) first.written ∙ simp append_assoc;
      back = λ rest s at.
          (let joined : (first.bits ++ second.bits) ++ rest ≡ first.bits ++ (second.bits ++ rest) = simp append_assoc in
          let a = first.back (second.bits ++ rest) s (subst (λ b. IsAt old b s) joined at) in
          let b = second.back rest a.0 a.2 in
          (b.0, (a.0, a.1, b.1), b.2));
    }

pub turn_map : {A R : Type 0} (some all : A → R → R → Type 0) → ((x : A) (s end : R) → some x s end → all x s end) → (xs : List A) (s end : R) → InTurn some xs s end → InTurn all xs s end
turn_map some all each [] s end done = done
turn_map some all each (x ∷ more) s end (mid, here, later) = (mid, each x s mid here, turn_map some all each more mid end later)

-- ---- the samples around a sample
pub record AreSamples (r : Rows) : Type 0 where
  pub above2 : (x : ℕ) → slice_index r.above2 x < 256
  pub above : (x : ℕ) → slice_index r.above x < 256
  pub row : (x : ℕ) → slice_index r.row x < 256

near-sound : (r : Rows) (x : ℕ) → AreSamples r → IsNear (near r x)
near-sound r zero is = record { tt = is.above2 0; tl = is.above2 0; t = is.above 0; tr = is.above _; ll = omega arith; l = is.above 0 }
near-sound r (suc zero) is = record { tt = is.above2 1; tl = is.above 0; t = is.above 1; tr = is.above _; ll = is.above 0; l = is.row 0 }
near-sound r (suc (suc x)) is = record { tt = is.above2 (suc (suc x)); tl = is.above (suc x); t = is.above (suc (suc x)); tr = is.above _; ll = is.row x; l = is.row (suc x) }

remainder-range : (z : ℤ) → IsDifference (int_rem_euclid z (pos 256) -ℤ pos 128)
remainder-range (pos a) = (omega (arith, ints), omega (arith, ints))
remainder-range (negsuc a) = (omega (arith, ints), omega (arith, ints))

-- ---- the columns of a row
abbrev contexts_from : List (List ℤ) → Rows → ℕ → ℕ → List ℕ
contexts_from tables r x zero = []
contexts_from tables r x (suc k) = nat_abs (context tables (near r x)) ∷ contexts_from tables r (suc x) k

abbrev differences_from : List (List ℤ) → Rows → ℕ → ℕ → List ℤ
differences_from tables r x zero = []
differences_from tables r x (suc k) = coded (context tables (near r x)) (near r x) (slice_index r.row x) ∷ differences_from tables r (suc x) k

contexts-count : (tables : List (List ℤ)) (r : Rows) (x k : ℕ) → length (contexts_from tables r x k) ≡ k
contexts-count tables r x zero = refl
contexts-count tables r x (suc k) = ap suc (contexts-count tables r (suc x) k)

differences-count : (tables : List (List ℤ)) (r : Rows) (x k : ℕ) → length (differences_from tables r x k) ≡ k
differences-count tables r x zero = refl
differences-count tables r x (suc k) = ap suc (differences-count tables r (suc x) k)

differences-fit : (tables : List (List ℤ)) (r : Rows) (x k : ℕ) → AllByRecursion IsDifference (differences_from tables r x k)
differences-fit tables r x zero = tt
differences-fit tables r x (suc k) =
    (remainder-range (turned (context tables (near r x)) (pos (slice_index r.row x) -ℤ predicted (near r x)) +ℤ pos 128), differences-fit tables r (suc x) k)

written_is : (tables : List (List ℤ)) (r : Rows) (x : ℕ) (w end : Written) → InRow (WritesSample tables) r x w end → end ≡ row_put tables r x w
written_is tables r zero w end done = sym done
written_is tables r (suc x) w end (mid, before, here) =
    here ∙ ap (sample_put (nat_abs (context tables (near r x))) (coded (context tables (near r x)) (near r x) (slice_index r.row x))) (written_is tables r x w mid before)

line-columns : (tables : List (List ℤ)) (r : Rows) (k x : ℕ) (w : Written)
    → line_put (contexts_from tables r x k) (differences_from tables r x k) (row_put tables r x w) ≡ ended (row_put tables r (x + k) w).pending (row_put tables r (x + k) w)
line-columns tables r zero x w = let e : x ≡ x + 0 = omega arith in ap (λ n. ended (row_put tables r n w).pending (row_put tables r n w)) e
line-columns tables r (suc k) x w =
    let e : suc x + k ≡ x + suc k = omega arith in
    line-columns tables r k (suc x) w ∙ ap (λ n. ended (row_put tables r n w).pending (row_put tables r n w)) e

-- ---- reading the columns
some-injective : {A : Type 0} {a b : A} → ◌≡◌ {A = Option A} (Some a) (Some b) → a ≡ b
some-injective h = cc

abbrev Splits : Option (ℤ × Coding) → ℕ → List ℕ → ℤ → List ℤ → Coding → Type 0
Splits o left contexts d ds end = (mid : Coding) × (o ≡ Some (d, mid)) × (differences_at left contexts mid ≡ Some (ds, end))

split-rest : (first : ℤ × Coding) (left : ℕ) (contexts : List ℕ) (d : ℤ) (ds : List ℤ) (end : Coding) (o : Option (List ℤ × Coding))
    → differences_at left contexts first.1 ≡ o → in_front first.0 o ≡ Some (d ∷ ds, end) → Splits (Some first) left contexts d ds end
split-rest first left contexts d ds end None is h = absurd (let e : ◌≡◌ {A = Option (List ℤ × Coding)} None (Some (d ∷ ds, end)) = h in cc)
split-rest first left contexts d ds end (Some rest) is h =
    let both : ◌≡◌ {A = List ℤ × Coding} (first.0 ∷ rest.0, rest.1) (d ∷ ds, end) = some-injective h in
    let list : first.0 ∷ rest.0 ≡ d ∷ ds = ap (λ (p : List ℤ × Coding). p.0) both in
    let last : rest.1 ≡ end = ap (λ (p : List ℤ × Coding). p.1) both in
    let head : first.0 ≡ d = cc in
    let tail : rest.0 ≡ ds = cc in
    (first.1, ap (λ z. Some (z, first.1)) head, is ∙ ap (λ l. Some (l, rest.1)) tail ∙ ap (λ (c : Coding). Some (ds, c)) last)

split-first : (o : Option (ℤ × Coding)) (left : ℕ) (contexts : List ℕ) (d : ℤ) (ds : List ℤ) (end : Coding)
    → option_and_then {U = List ℤ × Coding} (λ first. in_front first.0 (differences_at left contexts first.1)) o ≡ Some (d ∷ ds, end) → Splits o left contexts d ds end
split-first None left contexts d ds end h = absurd (let e : ◌≡◌ {A = Option (List ℤ × Coding)} None (Some (d ∷ ds, end)) = h in cc)
split-first (Some first) left contexts d ds end h = split-rest first left contexts d ds end (differences_at left contexts first.1) refl h

columns-read : (tables : List (List ℤ)) (r : Rows) (k x : ℕ) (start : Line) (c end : Coding) → AreSamples r → InRow (ReadsSample tables) r x start (line k c)
    → differences_at k (contexts_from tables r x k) c ≡ Some (differences_from tables r x k, end) → InRow (ReadsSample tables) r (x + k) start (line 0 end)
columns-read tables r zero x start c end sound before read =
    let both : ◌≡◌ {A = List ℤ × Coding} ([], c) ([], end) = some-injective read in
    let same : c ≡ end = ap (λ (p : List ℤ × Coding). p.1) both in
    let e : x ≡ x + 0 = omega arith in
    subst (λ n. InRow (ReadsSample tables) r n start (line 0 end)) e (subst (λ (v : Coding). InRow (ReadsSample tables) r x start (line 0 v)) same before)
columns-read tables r (suc k) x start c end sound before read =
    let d : ℤ = coded (context tables (near r x)) (near r x) (slice_index r.row x) in
    let parts = split-first (sample_at (suc k) (nat_abs (context tables (near r x))) c) (suc k - 1) (contexts_from tables r (suc x) k) d (differences_from tables r (suc x) k) end read in
    let less : suc k - 1 ≡ k = omega arith in
    let later = subst (λ n. differences_at n (contexts_from tables r (suc x) k) parts.0 ≡ Some (differences_from tables r (suc x) k, end)) less parts.2 in
    let here : ReadsSample tables (near r x) (slice_index r.row x) (line (suc k) c) (line k parts.0) = record {
      difference = d;
      read = parts.1;
      one_less = sym less;
      restored = restored_back (context tables (near r x)) (near r x) (slice_index r.row x) (near-sound r x sound) (sound.row x);
    } in
    let e : suc x + k ≡ x + suc k = omega arith in
    subst (λ n. InRow (ReadsSample tables) r n start (line 0 end)) e (columns-read tables r k (suc x) start parts.0 end sound (line (suc k) c, before, here) later)

-- ---- a row
-- A reader stands where so many bits are left behind what was written of lines.
pub record IsAtLine (w : Written) (rest : List ℕ) (c : Coding) : Type 0 where
  pub index : c.run.index ≡ w.index
  pub states : c.states ≡ w.states
  pub bits : c.reading.bits ≡ rest
  pub few : c.reading.taken ≤ 2 ^ 63
  pub taken : c.reading.taken ≤ length w.bits

abbrev coding_of : ℕ → List State → List ℕ → ℕ → Coding
coding_of index states bits taken = record { run = line_run index; states = states; reading = record { bits = bits; taken = taken } }

begun_at : (w : Written) (rest : List ℕ) (c : Coding) → IsAtLine w rest c → (record c { run = line_run c.run.index }) ≡ coding_of w.index w.states rest c.reading.taken
begun_at w rest c at =
    ap (λ i. coding_of i c.states c.reading.bits c.reading.taken) at.index
    ∙ ap (λ (v : List State). coding_of w.index v c.reading.bits c.reading.taken) at.states
    ∙ ap (λ (b : List ℕ). coding_of w.index w.states b c.reading.taken) at.bits

behind_few : (taken n m : ℕ) → min (taken + n) m ≤ m
behind_few taken n m = omega arith

behind_taken : (taken n m all : ℕ) → taken ≤ all → min (taken + n) m ≤ all + n
behind_taken taken n m all h = omega arith

row_read : (tables : List (List ℤ)) (r : Rows) (w new : Written) (n : ℕ) → AreSamples r → n ≡ length r.row
    → IsReadBack (contexts_from tables r 0 n) (differences_from tables r 0 n) (record w { pending = None }) new
    → IsBack (λ (v : Written). v.bits) IsAtLine (ReadsRow tables) r w new
row_read tables r w new n sound count is = record {
  bits = is.bits;
  written = is.written;
  back = λ rest s at.
      (let taken : ℕ = s.reading.taken in
      let after : Reading = reading_behind is.bits rest taken in
      let end : Coding = record { run = is.run; states = new.states; reading = after } in
      let read = is.read rest taken at.few in
      let wide = subst (λ k. differences_at k (contexts_from tables r 0 n) (coding_of w.index w.states (is.bits ++ rest) taken) ≡ Some (differences_from tables r 0 n, end)) (contexts-count tables r 0 n) read in
      let start : line n (record s { run = line_run s.run.index }) ≡ line n (coding_of w.index w.states (is.bits ++ rest) taken) = ap (λ (c : Coding). line n c) (begun_at w (is.bits ++ rest) s at) in
      let all = columns-read tables r n 0 (line n (record s { run = line_run s.run.index })) (coding_of w.index w.states (is.bits ++ rest) taken) end sound start wide in
      let zero_n : 0 + n ≡ length r.row = omega (arith, count) in
      let here : InRow (ReadsSample tables) r (length r.row) (line n (record s { run = line_run s.run.index })) (line 0 end) = subst (λ k. InRow (ReadsSample tables) r k (line n (record s { run = line_run s.run.index })) (line 0 end)) zero_n all in
      let whole : InRow (ReadsSample tables) r (length r.row) (line_begun (length r.row) s) (line 0 end) = subst (λ k. InRow (ReadsSample tables) r (length r.row) (line_begun k s) (line 0 end)) count here in
      let long : length new.bits ≡ length w.bits + length is.bits = ap length is.written ∙ length-append w.bits is.bits in (
        end,
        record { end = line 0 end; read = whole; left = refl },
        record {
          index = is.index;
          states = refl;
          bits = refl;
          few = behind_few taken (length is.bits) (2 ^ 63);
          taken = subst (λ m. min (taken + length is.bits) (2 ^ 63) ≤ m) (sym long) (behind_taken taken (length is.bits) (2 ^ 63) (length w.bits) at.taken);
        },
      ));
}

pub row_back : (tables : List (List ℤ)) (r : Rows) (w new : Written) → AreSamples r → WritesRow tables r w new → IsBack (λ (v : Written). v.bits) IsAtLine (ReadsRow tables) r w new
row_back tables r w new sound writes =
    let n : ℕ = length r.row in
    let start : Written = record w { pending = None } in
    let end : writes.end ≡ row_put tables r n start = written_is tables r n start writes.end writes.written in
    let zero_n : 0 + n ≡ n = omega arith in
    let put : line_put (contexts_from tables r 0 n) (differences_from tables r 0 n) start ≡ new =
    line-columns tables r n 0 start ∙ ap (λ k. ended (row_put tables r k start).pending (row_put tables r k start)) zero_n ∙ sym (ap (λ (v : Written). ended v.pending v) end) ∙ writes.run in
    let same : length (differences_from tables r 0 n) ≡ length (contexts_from tables r 0 n) = differences-count tables r 0 n ∙ sym (contexts-count tables r 0 n) in
    let back = reads_lines (contexts_from tables r 0 n) (differences_from tables r 0 n) w.index w.states w.bits same (differences-fit tables r 0 n) in
    row_read tables r w new n sound refl (subst (λ (v : Written). IsReadBack (contexts_from tables r 0 n) (differences_from tables r 0 n) start v) put back)
