-- A row that is being filled: what was done for the samples before a column stays true of it.
use Rattle.std.proofs.Common.{◌≡◌, ◌≢◌, ℕ, zero, suc, ◌+◌, ◌<◌, List, length, refl, sym, ◌∙◌, ap, subst, arith, add-one, get_or-set_other, get_or-set_same, ℤ, None}
use Rattle.std.specs.Prelude.{slice_index, slice_set}
use Rattle.ffv1_predict.specs.declared.near.Near.{Near}
use Rattle.ffv1_predict.specs.Near.{context}
use Rattle.ffv1_predict.specs.Border.{Rows, rows, near, left, left2, right}
use Rattle.ffv1_slice.specs.Order.{InRow}
use Rattle.ffv1_slice.specs.Reading.{Coding, difference_at}

-- Two rows have the same samples before a column.
abbrev pub AgreeBelow : List ℕ → List ℕ → ℕ → Type 0
AgreeBelow row other x = (k : ℕ) → k < x → slice_index other k ≡ slice_index row k

left_same : (above row other : List ℕ) (x : ℕ) → AgreeBelow row other x → left above other x ≡ left above row x
left_same above row other zero same = refl
left_same above row other (suc x) same = same x (omega arith)

left2_same : (above row other : List ℕ) (x : ℕ) → AgreeBelow row other x → left2 above other x ≡ left2 above row x
left2_same above row other zero same = refl
left2_same above row other (suc x) same = left_same above row other x (λ k lt. same k (omega arith))

pub near_same : (above2 above row other : List ℕ) (x : ℕ) → AgreeBelow row other x → near (rows above2 above other) x ≡ near (rows above2 above row) x
near_same above2 above row other x same =
    let with_left : ℕ → ℕ → Near = λ ll l. record { tt = slice_index above2 x; tl = left above2 above x; t = slice_index above x; tr = right above x; ll = ll; l = l } in
    ap (λ ll. with_left ll (left above other x)) (left2_same above row other x same) ∙ ap (with_left (left2 above row x)) (left_same above row other x same)

pub in_row_same : {S : Type 0} (step : Near → ℕ → S → S → Type 0) (above2 above row other : List ℕ) (x : ℕ) (old new : S)
    → AgreeBelow row other x → InRow step (rows above2 above row) x old new → InRow step (rows above2 above other) x old new
in_row_same step above2 above row other zero old new same done = done
in_row_same step above2 above row other (suc x) old new same done =
    let before : AgreeBelow row other x = λ k lt. same k (omega arith) in
    let sample : slice_index other x ≡ slice_index row x = same x (omega arith) in
    (done.0, in_row_same step above2 above row other x old done.0 before done.1, rw (near_same above2 above row other x before, sample) done.2)

agree_set : (row : List ℕ) (x sample : ℕ) → AgreeBelow row (slice_set row x sample) x
agree_set row x sample k lt = let other : k ≢ x = omega arith in rw get_or-set_other refl

-- one more sample
pub one_more : {S : Type 0} (step : Near → ℕ → S → S → Type 0) (above2 above row : List ℕ) (x sample : ℕ) (start old new : S)
    → x < length row
    → InRow step (rows above2 above row) x start old
    → step (near (rows above2 above row) x) sample old new
    → InRow step (rows above2 above (slice_set row x sample)) (x + 1) start new
one_more step above2 above row x sample start old new within done here =
    let same : AgreeBelow row (slice_set row x sample) x = agree_set row x sample in
    let at : slice_index (slice_set row x sample) x ≡ sample = rw get_or-set_same refl in
    rw add-one (
      old,
      in_row_same step above2 above row (slice_set row x sample) x start old same done,
      rw (near_same above2 above row (slice_set row x sample) x same, at) here,
    )

-- what goes along, after one more sample
pub left_more : (above2 above row : List ℕ) (x sample : ℕ) (n : Near) → x < length row
    → n ≡ near (rows above2 above row) x
    → n ≡ near (rows above2 above (slice_set row x sample)) x
left_more above2 above row x sample n within is =
    is ∙ sym (near_same above2 above row (slice_set row x sample) x (agree_set row x sample))

pub set_here : (row : List ℕ) (x sample : ℕ) → x < length row → sample ≡ slice_index (slice_set row x sample) x
set_here row x sample within = rw get_or-set_same refl

pub none_at : (tables : List (List ℤ)) (r : Rows) (x : ℕ) (n : Near) (old new : Coding) → n ≡ near r x
    → difference_at old (context tables n) ≡ (None, new) → difference_at old (context tables (near r x)) ≡ (None, new)
none_at tables r x n old new seen none =
    let P : Near → Type 0 = λ v. difference_at old (context tables v) ≡ (None, new) in subst P seen none

-- one more sample of a row that is known
pub next_sample : {S : Type 0} (step : Near → ℕ → S → S → Type 0) (r : Rows) (x : ℕ) (start old new : S)
    → InRow step r x start old → step (near r x) (slice_index r.row x) old new → InRow step r (x + 1) start new
next_sample step r x start old new done here = rw add-one (old, done, here)
