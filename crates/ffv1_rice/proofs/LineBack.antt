-- Lines, read back.
use Rattle.std.proofs.Common.{◌≡◌, ◌≢◌, ℕ, zero, suc, ◌+◌, ◌-◌, ◌^◌, ◌<◌, ◌≤◌, min, refl, sym, ap, ◌∙◌, subst, arith, inl, inr, Bool, true, false, cond, leb, nat_eq, List, [], ◌∷◌, ◌++◌, length, take, drop, replicate, append_assoc, append-nil, length-append, Option, Some, None}
use Rattle.std.specs.Prelude.{ℤ, pos, negsuc, ◌+ℤ◌, ◌-ℤ◌, ◌≤ℤ◌, int_lt, slice_index_or, slice_set, ◌==◌}
use Rattle.std.specs.List.{AllByRecursion}
use Rattle.std.proofs.lemmas.Int.{ints}
use Rattle.std.proofs.lemmas.Bool.{le-leb, lt-leb, cases_lt}
use Rattle.std.proofs.lemmas.List.{length-take-le, length-drop, take-append-drop, replicate-append-replicate}
use Rattle.std.proofs.Math.Nat.{mod-eq_of_lt}
use Rattle.std.proofs.Math.Seq.{drop-append_seam}
use Rattle.tl_base.specs.Parity.{bits_of}
use Rattle.ffv1_rice.specs.declared.runs.Mode.{Mode}
use Rattle.ffv1_rice.specs.declared.runs.Mode.TheVariants.{Outside, Running, Ending}
use Rattle.ffv1_rice.specs.Bits.{Reading, number_at, skipped}
use Rattle.ffv1_rice.specs.State.{State, fresh, difference_bits, state_after}
use Rattle.ffv1_rice.specs.Runs.{Run, Source, Coding, line_run, source, coding, run_bits, whole_run, at_sample, whole, broken, after_run, next_step, difference_by, raised, sample_at, differences_at}
use Rattle.ffv1_rice.specs.Lines.{Fitting, Written, one_more, fitting, lowered, difference_put, broken_put, end_put, sample_put, line_put}
use Rattle.ffv1_rice.specs.Law.{IsDifference, ReadsLines}
use Rattle.ffv1_rice.proofs.BitLemmas.{number_at-bits_of, length-bits_of}
use Rattle.ffv1_rice.proofs.FitLemmas.{whole_run-some, fitting-more, fitting-none, none_fits}
use Rattle.ffv1_rice.proofs.LineLemmas.{behind, coding_with, run_with, differences_at-append, differences_at-cons, zeros-run, zeros-arrived}
use Rattle.ffv1_rice.proofs.Back.{reads_differences}
use Rattle.ffv1_rice.proofs.RunBack.{reading_of, whole-runs, broken-read, not_zero, end_bits, last_run, last_run-index, end-read, difference-back, lowered-range, raised-lowered}

-- ---- lines
-- what is written from one state of a line on is read back
abbrev pub IsBack : ℕ → List ℕ → Mode → List ℤ → Written → Written → Type 0
IsBack left contexts mode differences start end =
    (bits : List ℕ) × (run : Run) × (end.bits ≡ start.bits ++ bits) × (run.index ≡ end.index)
    × ((rest : List ℕ) (taken : ℕ) → differences_at left contexts (coding_with mode 0 start.index start.states (reading_of (bits ++ rest) taken))
    ≡ Some (differences, record { run = run; states = end.states; reading = reading_of rest (taken + length bits) }))

abbrev pub begun : Option ℕ → ℕ → List State → List ℕ → Written
begun pending i states bits = record { pending = pending; index = i; states = states; bits = bits }

abbrev pub OutsideBack : List ℕ → List ℤ → Type 0
OutsideBack cs ds = (i : ℕ) (states : List State) (bits : List ℕ) → IsBack (length cs) cs Outside ds (begun None i states bits) (line_put cs ds (begun None i states bits))

abbrev pub RunningBack : List ℕ → List ℤ → Type 0
RunningBack cs ds = (n : ℕ) (zs : List ℕ) (i : ℕ) (states : List State) (bits : List ℕ) → length zs ≡ n →
    IsBack (n + length cs) (zs ++ cs) Running (replicate n (pos 0) ++ ds) (begun (Some n) i states bits) (line_put cs ds (begun (Some n) i states bits))

-- the end of a line
pub outside-end : OutsideBack [] []
outside-end i states bits =
    ([], run_with Outside 0 i, sym (append-nil bits), refl, λ rest taken. (let t : taken ≡ taken + 0 = omega arith in ap (λ k. Some ([], coding_with Outside 0 i states (reading_of rest k))) t))

joined-zeros : (n r : ℕ) (ds : List ℤ) → r ≤ n → replicate (n - r) (pos 0) ++ (replicate r (pos 0) ++ ds) ≡ replicate n (pos 0) ++ ds
joined-zeros n r ds le =
    let e : n - r + r ≡ n = omega arith in
    sym (append_assoc (replicate (n - r) (pos 0)) (replicate r (pos 0)) ds)
    ∙ ap (λ (zs : List ℤ). zs ++ ds) (replicate-append-replicate (n - r) r (pos 0) ∙ ap (λ k. replicate k (pos 0)) e)

running-end-read : (n i taken : ℕ) (zs rest : List ℕ) (states : List State) → length zs ≡ n →
    let f = fitting n i in
    differences_at (n + 0) (zs ++ []) (coding_with Running 0 i states (reading_of ((f.bits ++ end_bits f.rest) ++ rest) taken))
    ≡ Some (replicate n (pos 0) ++ [], record { run = last_run f.rest f.index; states = states; reading = reading_of rest (taken + length (f.bits ++ end_bits f.rest)) })
running-end-read n i taken zs rest states e =
    let f = fitting n i in
    let r = f.rest in
    let whole = whole-runs n (n + 0) n i taken zs [] (end_bits r ++ rest) states (omega arith) e (omega arith) in
    let zs' = whole.0.0 in
    let place : n + 0 - (n - r) ≡ r = omega (arith, whole.0.2) in
    let after : Coding = record { run = last_run r f.index; states = states; reading = reading_of rest (taken + length f.bits + length (end_bits r)) } in
    let last = end-read r f.index (taken + length f.bits) zs' rest states whole.1 whole.0.1 in
    let t : taken + length f.bits + length (end_bits r) ≡ taken + length (f.bits ++ end_bits r) = omega (arith, length-append f.bits (end_bits r)) in
    ap (λ (b : List ℕ). differences_at (n + 0) (zs ++ []) (coding_with Running 0 i states (reading_of b taken))) (append_assoc f.bits (end_bits r) rest)
    ∙ whole.0.3
    ∙ ap (λ (ys : List ℕ). behind (replicate (n - r) (pos 0)) (differences_at (n + 0 - (n - r)) ys (coding_with Running 0 f.index states (reading_of (end_bits r ++ rest) (taken + length f.bits))))) (append-nil zs')
    ∙ ap (λ l. behind (replicate (n - r) (pos 0)) (differences_at l zs' (coding_with Running 0 f.index states (reading_of (end_bits r ++ rest) (taken + length f.bits))))) place
    ∙ ap (behind (replicate (n - r) (pos 0))) last
    ∙ ap (λ (ds : List ℤ). Some (ds, after)) (ap (λ (ds : List ℤ). replicate (n - r) (pos 0) ++ ds) (sym (append-nil (replicate r (pos 0)))) ∙ joined-zeros n r [] whole.0.2)
    ∙ ap (λ k. Some (replicate n (pos 0) ++ [], record { run = last_run r f.index; states = states; reading = reading_of rest k })) t

pub running-end : RunningBack [] []
unfolding end_put
running-end n zs i states bits e =
    let f = fitting n i in
    (f.bits ++ end_bits f.rest, last_run f.rest f.index, refl, last_run-index f.rest f.index, λ rest taken. running-end-read n i taken zs rest states e)

-- ---- one sample of a line, and the rest of it
some-more : (n : ℕ) (ds : List ℤ) → replicate (n + 1) (pos 0) ++ ds ≡ replicate n (pos 0) ++ (pos 0 ∷ ds)
some-more n ds = ap (λ (zs : List ℤ). zs ++ ds) (sym (replicate-append-replicate n 1 (pos 0))) ∙ append_assoc (replicate n (pos 0)) (pos 0 ∷ []) ds

-- a difference 0 in a run
zero-step : (c : ℕ) (cs : List ℕ) (ds : List ℤ) → RunningBack cs ds → RunningBack (c ∷ cs) (pos 0 ∷ ds)
unfolding sample_put
zero-step c cs ds more n zs i states bits e =
    let zs' = zs ++ c ∷ [] in
    let count : length zs' ≡ n + 1 = length-append zs (c ∷ []) ∙ omega (arith, e) in
    let place : n + 1 + length cs ≡ n + suc (length cs) = omega arith in
    let list : zs' ++ cs ≡ zs ++ (c ∷ cs) = append_assoc zs (c ∷ []) cs in
    let start = begun (Some (n + 1)) i states bits in
    subst (λ (l : ℕ). IsBack l (zs ++ (c ∷ cs)) Running (replicate n (pos 0) ++ (pos 0 ∷ ds)) start (line_put cs ds start)) place
    (subst (λ (xs : List ℕ). IsBack (n + 1 + length cs) xs Running (replicate n (pos 0) ++ (pos 0 ∷ ds)) start (line_put cs ds start)) list
    (subst (λ (l : List ℤ). IsBack (n + 1 + length cs) (zs' ++ cs) Running l start (line_put cs ds start)) (some-more n ds)
    (more (n + 1) zs' i states bits count)))

-- what a run that breaks and the difference after it write
abbrev pub break_bits : ℕ → ℕ → List ℕ
break_bits n i = (fitting n i).bits ++ 0 ∷ bits_of (run_bits (fitting n i).index) (fitting n i).rest

break-read : (c n i taken : ℕ) (zs cs : List ℕ) (d : ℤ) (ds : List ℤ) (states : List State) (back rest : List ℕ) (end : Coding) → length zs ≡ n → d ≢ pos 0 → IsDifference d →
    let s = slice_index_or states c fresh in
    let put = difference_bits s (lowered d) in
    let f = fitting n i in
    let states' = slice_set states c (state_after s (lowered d)) in
    differences_at (length cs) cs (coding_with Outside 0 (f.index - 1) states' (reading_of (back ++ rest) (taken + length f.bits + suc (run_bits f.index) + length put))) ≡ Some (ds, end) →
    differences_at (n + suc (length cs)) (zs ++ (c ∷ cs)) (coding_with Running 0 i states (reading_of (((break_bits n i ++ put) ++ back) ++ rest) taken))
    ≡ Some (replicate n (pos 0) ++ (d ∷ ds), end)
break-read c n i taken zs cs d ds states back rest end e some small next =
    let s = slice_index_or states c fresh in
    let l = lowered d in
    let put = difference_bits s l in
    let f = fitting n i in
    let r = f.rest in
    let low = bits_of (run_bits f.index) r in
    let states' = slice_set states c (state_after s l) in
    let left = n + suc (length cs) in
    let all : ((break_bits n i ++ put) ++ back) ++ rest ≡ f.bits ++ (0 ∷ (low ++ (put ++ (back ++ rest)))) = simp append_assoc in
    let whole = whole-runs n left n i taken zs (c ∷ cs) (0 ∷ (low ++ (put ++ (back ++ rest)))) states (omega arith) e (omega arith) in
    let zs' = whole.0.0 in
    let t = taken + length f.bits in
    let mid : Coding = coding_with Outside 0 (f.index - 1) states' (reading_of (back ++ rest) (t + suc (run_bits f.index) + length put)) in
    let read = difference-back raised c l (run_with Outside 0 (f.index - 1)) states (back ++ rest) (t + suc (run_bits f.index)) (lowered-range d small)
    ∙ ap (λ z. Some (z, mid)) (raised-lowered d some) in
    let place : left - (n - r) - r - 1 ≡ length cs = omega (arith, whole.0.2) in
    let broke = broken-read (left - (n - r)) f.index r t c zs' cs (put ++ (back ++ rest)) states d mid whole.1 whole.0.1 read in
    ap (λ (b : List ℕ). differences_at left (zs ++ (c ∷ cs)) (coding_with Running 0 i states (reading_of b taken))) all
    ∙ whole.0.3
    ∙ ap (behind (replicate (n - r) (pos 0))) broke
    ∙ ap (λ k. behind (replicate (n - r) (pos 0)) (behind (replicate r (pos 0)) (behind (d ∷ []) (differences_at k cs mid)))) place
    ∙ ap (λ (o : Option (List ℤ × Coding)). behind (replicate (n - r) (pos 0)) (behind (replicate r (pos 0)) (behind (d ∷ []) o))) next
    ∙ ap (λ (l : List ℤ). Some (l, end)) (joined-zeros n r (d ∷ ds) whole.0.2)

-- a difference that breaks a run
break-step : (c : ℕ) (cs : List ℕ) (d : ℤ) (ds : List ℤ) → d ≢ pos 0 → IsDifference d → OutsideBack cs ds →
    (n : ℕ) (zs : List ℕ) (i : ℕ) (states : List State) (bits : List ℕ) → length zs ≡ n →
    IsBack (n + suc (length cs)) (zs ++ (c ∷ cs)) Running (replicate n (pos 0) ++ (d ∷ ds)) (begun (Some n) i states bits)
    (line_put cs ds (difference_put c (lowered d) (broken_put n (begun (Some n) i states bits))))
unfolding difference_put broken_put
break-step c cs d ds some small more n zs i states bits e =
    let s = slice_index_or states c fresh in
    let put = difference_bits s (lowered d) in
    let f = fitting n i in
    let states' = slice_set states c (state_after s (lowered d)) in
    let inner = more (f.index - 1) states' ((bits ++ break_bits n i) ++ put) in
    let back = inner.0 in
    let written : ((bits ++ break_bits n i) ++ put) ++ back ≡ bits ++ ((break_bits n i ++ put) ++ back) = simp append_assoc in
    let count : (taken : ℕ) → taken + length f.bits + suc (run_bits f.index) + length put + length back ≡ taken + length ((break_bits n i ++ put) ++ back) =
    λ taken. omega (arith, length-append (break_bits n i ++ put) back, length-append (break_bits n i) put, length-append f.bits (0 ∷ bits_of (run_bits f.index) f.rest), length-bits_of (run_bits f.index) f.rest) in (
      (break_bits n i ++ put) ++ back,
      inner.1,
      inner.2 ∙ written,
      inner.3,
      λ rest taken.
          break-read c n i taken zs cs d ds states back rest _ e some small (inner.4 rest (taken + length f.bits + suc (run_bits f.index) + length put))
          ∙ ap (λ t. Some (replicate n (pos 0) ++ (d ∷ ds), record { run = inner.1; states = (line_put cs ds (begun None (f.index - 1) states' ((bits ++ break_bits n i) ++ put))).states; reading = reading_of rest t })) (count taken),
    )

pub running-step : (c : ℕ) (cs : List ℕ) (d : ℤ) (ds : List ℤ) → IsDifference d → OutsideBack cs ds → RunningBack cs ds → RunningBack (c ∷ cs) (d ∷ ds)
unfolding sample_put
running-step c cs (pos zero) ds small outside running n zs i states bits e = zero-step c cs ds running n zs i states bits e
running-step c cs (pos (suc m)) ds small outside running n zs i states bits e = break-step c cs (pos (suc m)) ds (λ h. cc) small outside n zs i states bits e
running-step c cs (negsuc m) ds small outside running n zs i states bits e = break-step c cs (negsuc m) ds (λ h. cc) small outside n zs i states bits e

-- A context 0 begins a run, before a first difference 0 or any other.
same-start : (cs : List ℕ) (d : ℤ) (ds : List ℤ) (i : ℕ) (states : List State) (bits : List ℕ) →
    line_put (0 ∷ cs) (d ∷ ds) (begun (Some 0) i states bits) ≡ line_put (0 ∷ cs) (d ∷ ds) (begun None i states bits)
unfolding sample_put broken_put
same-start cs (pos zero) ds i states bits = refl
same-start cs (pos (suc m)) ds i states bits = refl
same-start cs (negsuc m) ds i states bits = refl

same-read : (left : ℕ) (cs : List ℕ) (i : ℕ) (states : List State) (r : Reading) →
    differences_at left (0 ∷ cs) (coding_with Outside 0 i states r) ≡ differences_at left (0 ∷ cs) (coding_with Running 0 i states r)
unfolding sample_at next_step at_sample
same-read left cs i states r = refl

begin-step : (cs : List ℕ) (d : ℤ) (ds : List ℤ) → RunningBack (0 ∷ cs) (d ∷ ds) → OutsideBack (0 ∷ cs) (d ∷ ds)
begin-step cs d ds running i states bits =
    let inner = running 0 [] i states bits refl in
    let end = same-start cs d ds i states bits in
    let place : suc (length cs) ≡ 0 + suc (length cs) = omega arith in (
      inner.0,
      inner.1,
      ap (λ (w : Written). w.bits) (sym end) ∙ inner.2,
      inner.3 ∙ ap (λ (w : Written). w.index) end,
      λ rest taken.
          same-read (suc (length cs)) cs i states (reading_of (inner.0 ++ rest) taken)
          ∙ ap (λ l. differences_at l (0 ∷ cs) (coding_with Running 0 i states (reading_of (inner.0 ++ rest) taken))) place
          ∙ inner.4 rest taken
          ∙ ap (λ (w : Written). Some (d ∷ ds, record { run = inner.1; states = w.states; reading = reading_of rest (taken + length inner.0) })) end,
    )

-- a difference outside of a run
outside-sample : (left k i : ℕ) (states : List State) (r : Reading) →
    sample_at left (suc k) (coding_with Outside 0 i states r) ≡ difference_by (λ d. d) (suc k) (source (run_with Outside 0 i) r) states
unfolding sample_at next_step at_sample
outside-sample left k i states r = rw (not_zero k) refl

outside-put : (k : ℕ) (d : ℤ) (i : ℕ) (states : List State) (bits : List ℕ) →
    sample_put (suc k) d (begun None i states bits) ≡ difference_put (suc k) d (begun None i states bits)
unfolding sample_put
outside-put k d i states bits = rw (not_zero k) refl

plain-put : (c : ℕ) (d : ℤ) (i : ℕ) (states : List State) (bits : List ℕ) →
    let s = slice_index_or states c fresh in
    difference_put c d (begun None i states bits) ≡ begun None i (slice_set states c (state_after s d)) (bits ++ difference_bits s d)
unfolding difference_put
plain-put c d i states bits = refl

plain-step : (k : ℕ) (cs : List ℕ) (d : ℤ) (ds : List ℤ) → IsDifference d → OutsideBack cs ds → OutsideBack (suc k ∷ cs) (d ∷ ds)
plain-step k cs d ds small more i states bits =
    let c = suc k in
    let s = slice_index_or states c fresh in
    let put = difference_bits s d in
    let states' = slice_set states c (state_after s d) in
    let inner = more i states' (bits ++ put) in
    let back = inner.0 in
    let end : line_put cs ds (begun None i states' (bits ++ put)) ≡ line_put (c ∷ cs) (d ∷ ds) (begun None i states bits) =
    ap (λ (w : Written). line_put cs ds w) (sym (outside-put k d i states bits ∙ plain-put c d i states bits)) in
    let count : (taken : ℕ) → taken + length put + length back ≡ taken + length (put ++ back) = λ taken. omega (arith, length-append put back) in (
      put ++ back,
      inner.1,
      ap (λ (w : Written). w.bits) (sym end) ∙ inner.2 ∙ append_assoc bits put back,
      inner.3 ∙ ap (λ (w : Written). w.index) end,
      λ rest taken.
          (let mid : Coding = coding_with Outside 0 i states' (reading_of (back ++ rest) (taken + length put)) in
          ap (λ (b : List ℕ). differences_at (suc (length cs)) (c ∷ cs) (coding_with Outside 0 i states (reading_of b taken))) (append_assoc put back rest)
          ∙ differences_at-cons (suc (length cs)) c cs (coding_with Outside 0 i states (reading_of (put ++ (back ++ rest)) taken)) mid d
          (outside-sample (suc (length cs)) k i states (reading_of (put ++ (back ++ rest)) taken) ∙ difference-back (λ z. z) c d (run_with Outside 0 i) states (back ++ rest) taken small)
          ∙ ap (λ l. behind (d ∷ []) (differences_at l cs mid)) (let e : suc (length cs) - 1 ≡ length cs = omega arith in e)
          ∙ ap (behind (d ∷ [])) (inner.4 rest (taken + length put))
          ∙ ap (λ t. Some (d ∷ ds, record { run = inner.1; states = (line_put cs ds (begun None i states' (bits ++ put))).states; reading = reading_of rest t })) (count taken)
          ∙ ap (λ (w : Written). Some (d ∷ ds, record { run = inner.1; states = w.states; reading = reading_of rest (taken + length (put ++ back)) })) end),
    )

outside-step : (c : ℕ) (cs : List ℕ) (d : ℤ) (ds : List ℤ) → IsDifference d → OutsideBack cs ds → RunningBack (c ∷ cs) (d ∷ ds) → OutsideBack (c ∷ cs) (d ∷ ds)
outside-step zero cs d ds small outside running = begin-step cs d ds running
outside-step (suc k) cs d ds small outside running = plain-step k cs d ds small outside

both_back : (cs : List ℕ) (ds : List ℤ) → length ds ≡ length cs → AllByRecursion IsDifference ds → OutsideBack cs ds × RunningBack cs ds
both_back [] [] e all = (outside-end, running-end)
both_back [] (d ∷ ds) e all = absurd (omega (arith, e))
both_back (c ∷ cs) [] e all = absurd (omega (arith, e))
both_back (c ∷ cs) (d ∷ ds) e all =
    let rest = both_back cs ds (omega (arith, e)) all.1 in
    let running = running-step c cs d ds all.0 rest.0 rest.1 in
    (outside-step c cs d ds all.0 rest.0 running, running)

pub reads_lines : ReadsLines
unfolding line_run
reads_lines contexts differences index states bits e all =
    let back = (both_back contexts differences e all).0 index states bits in
    record {
      bits = back.0;
      run = back.1;
      written = back.2;
      index = back.3;
      read = λ rest taken small.
          (let t : taken ≡ min taken (2 ^ 63) = omega (arith, small) in
          ap (λ k. differences_at (length contexts) contexts (coding_with Outside 0 index states (record { bits = back.0 ++ rest; taken = k }))) t
          ∙ back.4 rest taken);
    }
