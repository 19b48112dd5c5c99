-- A row that was gathered and written as a line, sample by sample.
use Rattle.std.proofs.Common.{◌≡◌, ◌≢◌, ℕ, zero, suc, ◌+◌, ◌<◌, ◌≤◌, List, [], length, drop, get_or, refl, sym, ap, ◌∙◌, subst, arith, below_more, get_or-set_other, get_or-set_same, ℤ, None, to_z, of_z, w8, w32}
use Rattle.std.specs.Prelude.{pos, nat_abs, slice_index, slice_set}
use Rattle.std.proofs.lemmas.List.{drop_all}
use Rattle.ffv1_rice.specs.Lines.{Written, sample_put, line_put}
use Rattle.ffv1_rice.proofs.WriteLemmas.{line_put-next}
use Rattle.ffv1_predict.specs.declared.near.Near.{Near}
use Rattle.ffv1_predict.specs.Near.{context, coded}
use Rattle.ffv1_predict.specs.Border.{Rows, near}
use Rattle.ffv1_slice.specs.Order.{InRow}
use Rattle.ffv1_golomb.specs.Writing.{WritesSample, WritesRow}
use Rattle.ffv1_golomb.specs.Gathered.{IsGathered}

-- ---- gathering
pub none_gathered : (tables : List (List ℤ)) (r : Rows) (contexts : List ℕ) (differences : List ℤ) → IsGathered tables r 0 contexts differences
none_gathered tables r contexts differences = record { contexts_are = λ k lt. absurd (omega arith); differences_are = λ k lt. absurd (omega arith) }

pub one_gathered : (tables : List (List ℤ)) (r : Rows) (x : ℕ) (contexts : List ℕ) (differences : List ℤ) (m : ℕ) (d : ℤ)
    → x < length contexts → x < length differences → IsGathered tables r x contexts differences
    → m ≡ nat_abs (context tables (near r x)) → d ≡ coded (context tables (near r x)) (near r x) (slice_index r.row x)
    → IsGathered tables r (x + 1) (slice_set contexts x m) (slice_set differences x d)
one_gathered tables r x contexts differences m d in_contexts in_differences before magnitude difference = record {
  contexts_are = below_more _ _
      (λ k lt. let other : k ≢ x = omega arith in rw get_or-set_other (before.contexts_are k lt))
      (rw get_or-set_same magnitude);
  differences_are = below_more _ _
      (λ k lt. let other : k ≢ x = omega arith in rw get_or-set_other (before.differences_are k lt))
      (rw get_or-set_same difference);
}

-- ---- a line is the samples of a row
-- what was written after some samples of a row
abbrev pub row_put : List (List ℤ) → Rows → ℕ → Written → Written
row_put tables r zero w = w
row_put tables r (suc x) w =
    sample_put (nat_abs (context tables (near r x))) (coded (context tables (near r x)) (near r x) (slice_index r.row x)) (row_put tables r x w)

row_in_order : (tables : List (List ℤ)) (r : Rows) (x : ℕ) (w : Written) → InRow (WritesSample tables) r x w (row_put tables r x w)
row_in_order tables r zero w = refl
row_in_order tables r (suc x) w = (row_put tables r x w, row_in_order tables r x w, refl)

line-row : (tables : List (List ℤ)) (r : Rows) (n x : ℕ) (contexts : List ℕ) (differences : List ℤ) (w : Written)
    → n ≤ length contexts → n ≤ length differences → IsGathered tables r n contexts differences → x ≤ n
    → line_put (drop x contexts) (drop x differences) (row_put tables r x w) ≡ line_put contexts differences w
line-row tables r n zero contexts differences w in_contexts in_differences is le = refl
line-row tables r n (suc x) contexts differences w in_contexts in_differences is le =
    let d : ℤ = coded (context tables (near r x)) (near r x) (slice_index r.row x) in
    let now : Written = row_put tables r x w in
    let magnitude : get_or contexts x 0 ≡ nat_abs (context tables (near r x)) = is.contexts_are x (omega arith) in
    let same : d ≡ get_or differences x (pos 0) = sym (is.differences_are x (omega arith)) in
    let step = line_put-next contexts differences x d now (row_put tables r (suc x) w) (omega arith) (omega arith) same (ap (λ m. sample_put m d now) magnitude) in
    let one : x + 1 ≡ suc x = omega arith in
    let Next : ℕ → Type 0 = λ k. line_put (drop k contexts) (drop k differences) (row_put tables r (suc x) w) ≡ line_put (drop x contexts) (drop x differences) now in
    subst Next one step ∙ line-row tables r n x contexts differences w in_contexts in_differences is (omega arith)

pub line_is_row : (tables : List (List ℤ)) (r : Rows) (contexts : List ℕ) (differences : List ℤ) (w new : Written)
    → length contexts ≡ length r.row → length differences ≡ length r.row → IsGathered tables r (length r.row) contexts differences
    → line_put contexts differences (record w { pending = None }) ≡ new → WritesRow tables r w new
line_is_row tables r contexts differences w new in_contexts in_differences is put =
    let start : Written = record w { pending = None } in
    let end : Written = row_put tables r (length r.row) start in
    let none : drop (length r.row) contexts ≡ [] = drop_all (length r.row) contexts (omega arith) in
    let Rest : List ℕ → Type 0 = λ l. line_put l (drop (length r.row) differences) end ≡ new in
    record {
      end = end;
      written = row_in_order tables r (length r.row) start;
      run = subst Rest none (line-row tables r (length r.row) (length r.row) contexts differences start (omega arith) (omega arith) is (omega arith) ∙ put);
    }

-- ---- numbers that the code keeps
pub magnitude_is : (tables : List (List ℤ)) (n near_x : Near) (c : ℤ) (m : ℕ) → m ≡ nat_abs (to_z w32 (of_z w32 c)) → to_z w32 (of_z w32 c) ≡ c → c ≡ context tables n → n ≡ near_x
    → m ≡ nat_abs (context tables near_x)
magnitude_is tables n near_x c m is fits at seen = is ∙ ap nat_abs (fits ∙ at ∙ ap (context tables) seen)

pub difference_is : (tables : List (List ℤ)) (n near_x : Near) (c d : ℤ) (sample : ℕ) → d ≡ coded (to_z w32 (of_z w32 c)) n sample → to_z w32 (of_z w32 c) ≡ c → to_z w8 (of_z w8 d) ≡ d
    → c ≡ context tables n → n ≡ near_x → to_z w8 (of_z w8 d) ≡ coded (context tables near_x) near_x sample
difference_is tables n near_x c d sample is fits short at seen =
    short ∙ is ∙ ap (λ (z : ℤ). coded z n sample) (fits ∙ at) ∙ ap (λ (v : Near). coded (context tables v) v sample) seen
