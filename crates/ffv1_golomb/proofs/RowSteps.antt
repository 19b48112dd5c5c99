-- A row that is being read: what was read of it before a column.
use Rattle.std.proofs.Common.{◌≡◌, ℕ, ◌+◌, ◌-◌, ◌<◌, ◌≤◌, refl, sym, ap, ◌∙◌, subst, arith, List, length, Some, None, to_z, of_z, w32, w64}
use Rattle.std.specs.Prelude.{ℤ, pos, negsuc, nat_abs, slice_set}
use Rattle.ffv1_rice.specs.Bits.{Reading}
use Rattle.ffv1_rice.specs.State.{State}
use Rattle.ffv1_rice.specs.Runs.{Run, Coding, source, coding, line_run, sample_at}
use Rattle.ffv1_predict.specs.declared.near.Near.{Near}
use Rattle.ffv1_predict.specs.Near.{context, IsRestored}
use Rattle.ffv1_predict.specs.Border.{Rows, rows, near}
use Rattle.ffv1_slice.specs.Order.{InRow}
use Rattle.ffv1_slice.proofs.Rows.{one_more}
use Rattle.ffv1_golomb.specs.Reading.{Line, line, line_begun, ReadsSample, ReadsRow, OutOfRangeInRow}
use Rattle.ffv1_golomb.specs.Ahead.{coding_ahead, IsInRun}
use Rattle.ffv1_golomb.proofs.RunSteps.{zero-ahead, none-ahead, none_left, w32_fits, w64_fits}

-- a difference 0 needs no context
pub zero_restored : (c : ℤ) (n : Near) (sample : ℕ) → IsRestored (pos 0) n (pos 0) sample → IsRestored c n (pos 0) sample
zero_restored (pos k) n sample is = is
zero_restored (negsuc k) n sample is = is

-- a sample that lies in a run
pub sample_ahead : (tables : List (List ℤ)) (n : Near) (sample left zeros : ℕ) (run : Run) (states : List State) (r : Reading) → 0 < zeros → IsInRun run.mode
    → IsRestored (pos 0) n (pos 0) sample
    → ReadsSample tables n sample (line left (coding_ahead zeros run states r)) (line (left - 1) (coding_ahead (zeros - 1) run states r))
sample_ahead tables n sample left zeros run states r some in_run is = record {
  difference = pos 0;
  read = zero-ahead left (nat_abs (context tables n)) zeros run states r some in_run;
  one_less = refl;
  restored = zero_restored (context tables n) n sample is;
}

pub row_begun : (width : ℕ) (old run : Run) (states : List State) (r : Reading) → run ≡ line_run old.index
    → line_begun width (coding (source old r) states) ≡ line (width - 0) (coding_ahead 0 run states r)
row_begun width old run states r is =
    let none : width ≡ width - 0 = omega arith in
    ap (λ (v : Run). line width (coding (source v r) states)) (sym is)
    ∙ ap (λ (c : Coding). line width c) (none-ahead run states r) ∙ ap (λ w. line w (coding_ahead 0 run states r)) none

pub row_more : (tables : List (List ℤ)) (above2 above row : List ℕ) (x width left sample : ℕ) (n : Near) (start : Line) (old new : Coding)
    → x < length row → left ≡ width - x → n ≡ near (rows above2 above row) x
    → InRow (ReadsSample tables) (rows above2 above row) x start (line (width - x) old)
    → ReadsSample tables n sample (line left old) (line (left - 1) new)
    → InRow (ReadsSample tables) (rows above2 above (slice_set row x sample)) (x + 1) start (line (width - (x + 1)) new)
row_more tables above2 above row x width left sample n start old new within is seen before reads =
    let At : Near → Type 0 = λ v. ReadsSample tables v sample (line left old) (line (left - 1) new) in
    let Left : ℕ → Type 0 = λ k. ReadsSample tables (near (rows above2 above row) x) sample (line k old) (line (k - 1) new) in
    let here : ReadsSample tables (near (rows above2 above row) x) sample (line (width - x) old) (line (width - x - 1) new) = subst Left is (subst At seen reads) in
    let less : width - x - 1 ≡ width - (x + 1) = omega arith in
    let New : ℕ → Type 0 = λ k. InRow (ReadsSample tables) (rows above2 above (slice_set row x sample)) (x + 1) start (line k new) in
    subst New less (one_more (ReadsSample tables) above2 above row x sample start (line (width - x) old) (line (width - x - 1) new) within before here)

pub row_late : (tables : List (List ℤ)) (r : Rows) (x width left : ℕ) (n : Near) (old now : Coding)
    → x < length r.row → width ≡ length r.row → left ≡ width - x → n ≡ near r x
    → InRow (ReadsSample tables) r x (line_begun width old) (line (width - x) now)
    → sample_at left (nat_abs (context tables n)) now ≡ None
    → OutOfRangeInRow tables r old
row_late tables r x width left n old now within wide is seen before none =
    let At : Near → Type 0 = λ v. sample_at left (nat_abs (context tables v)) now ≡ None in
    let Left : ℕ → Type 0 = λ k. sample_at k (nat_abs (context tables (near r x))) now ≡ None in
    let Begun : ℕ → Type 0 = λ w. InRow (ReadsSample tables) r x (line_begun w old) (line (width - x) now) in
    record {
      column = x;
      within = within;
      mid = line (width - x) now;
      before = subst Begun wide before;
      out_of_range = subst Left is (subst At seen none);
    }

pub row_done : (tables : List (List ℤ)) (r : Rows) (x width zeros : ℕ) (old : Coding) (run : Run) (states : List State) (bits : Reading)
    → x ≡ length r.row → width ≡ length r.row → zeros ≤ width - x
    → InRow (ReadsSample tables) r x (line_begun width old) (line (width - x) (coding_ahead zeros run states bits))
    → ReadsRow tables r old (coding (source run bits) states)
row_done tables r x width zeros old run states bits all wide few read =
    let Begun : ℕ → Type 0 = λ w. InRow (ReadsSample tables) r x (line_begun w old) (line (width - x) (coding_ahead zeros run states bits)) in
    let At : ℕ → Type 0 = λ k. InRow (ReadsSample tables) r k (line_begun (length r.row) old) (line (width - x) (coding_ahead zeros run states bits)) in
    let none : zeros ≡ 0 = omega arith in
    record {
      end = line (width - x) (coding_ahead zeros run states bits);
      read = subst At all (subst Begun wide read);
      left = ap (λ k. coding_ahead k run states bits) none ∙ sym (none-ahead run states bits);
    }

-- a sample whose difference can't be read now
pub none_now : (tables : List (List ℤ)) (n : Near) (c : ℤ) (x left zeros : ℕ) (run : Run) (states : List State) (r : Reading) → zeros ≤ 0
    → c ≡ context tables n → to_z w32 (of_z w32 c) ≡ c → x ≡ nat_abs (to_z w32 (of_z w32 c))
    → sample_at left x (coding (source run r) states) ≡ None
    → sample_at left (nat_abs (context tables n)) (coding_ahead zeros run states r) ≡ None
none_now tables n c x left zeros run states r none is fits at read =
    let here : to_z w32 (of_z w32 c) ≡ context tables n = fits ∙ is in
    ap (λ k. sample_at left k (coding_ahead zeros run states r)) (sym (ap nat_abs here) ∙ sym at)
    ∙ ap (λ (v : Coding). sample_at left x v) (sym (none_left zeros run states r none)) ∙ read

-- a sample whose difference is read now
pub sample_now : (tables : List (List ℤ)) (n : Near) (c d wide : ℤ) (x sample left zeros : ℕ) (run : Run) (states : List State) (r : Reading) (new : Coding) → zeros ≤ 0
    → c ≡ context tables n → to_z w32 (of_z w32 c) ≡ c → x ≡ nat_abs (to_z w32 (of_z w32 c)) → nat_abs d < 256 → wide ≡ to_z w32 (of_z w32 d)
    → sample_at left x (coding (source run r) states) ≡ Some (d, new)
    → IsRestored (to_z w32 (of_z w32 c)) n (to_z w64 (of_z w64 wide)) sample
    → ReadsSample tables n sample (line left (coding_ahead zeros run states r)) (line (left - 1) new)
sample_now tables n c d wide x sample left zeros run states r new none is fits at small widened read restored =
    let here : to_z w32 (of_z w32 c) ≡ context tables n = fits ∙ is in
    let same : wide ≡ d = widened ∙ w32_fits d (omega arith) in
    let value : to_z w64 (of_z w64 wide) ≡ d = ap (λ (z : ℤ). to_z w64 (of_z w64 z)) same ∙ w64_fits d (omega arith) in
    let Place : ℤ → Type 0 = λ z. IsRestored z n (to_z w64 (of_z w64 wide)) sample in
    let Value : ℤ → Type 0 = λ z. IsRestored (context tables n) n z sample in
    record {
      difference = d;
      read = ap (λ k. sample_at left k (coding_ahead zeros run states r)) (sym (ap nat_abs here) ∙ sym at)
          ∙ ap (λ (v : Coding). sample_at left x v) (sym (none_left zeros run states r none)) ∙ read;
      one_less = refl;
      restored = subst Value value (subst Place here restored);
    }
