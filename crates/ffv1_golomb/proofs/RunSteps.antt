-- Samples of a run that a reader took at once, one by one, and differences that it read.
use Rattle.std.proofs.Common.{◌≡◌, ℕ, zero, suc, ◌+◌, ◌-◌, ◌<◌, ◌≤◌, min, refl, sym, ap, ◌∙◌, arith, Bool, true, false, List, Some, None, to_z, of_z, w32, w64}
use Rattle.std.specs.Prelude.{ℤ, pos, negsuc, ◌≤ℤ◌, ◌+ℤ◌, int_lt, ◌==◌, cond, slice_index_or, slice_set, nat_abs}
use Rattle.std.proofs.lemmas.Int.{ints}
use Rattle.ffv1_rice.specs.declared.runs.Mode.{Mode}
use Rattle.ffv1_rice.specs.declared.runs.Mode.TheVariants.{Outside, Running, Ending}
use Rattle.ffv1_rice.specs.declared.runs.Step.{Step}
use Rattle.ffv1_rice.specs.declared.runs.Step.TheVariants.{Zeros, Difference, AfterRun}
use Rattle.ffv1_rice.specs.Bits.{Reading}
use Rattle.ffv1_rice.specs.State as states
use Rattle.ffv1_rice.specs.Runs.{Run, Source, Coding, source, coding, at_sample, zeros, after_run, stepped, next_step, difference_by, raised, sample_at, FitsLine}
use Rattle.ffv1_rice.proofs.LineLemmas.{difference-step, after-step}
use Rattle.ffv1_golomb.specs.Ahead.{coding_ahead, zeros_of, raising, IsInRun, is_outside}

abbrev run_with : Mode → ℕ → ℕ → Run
run_with mode count index = record { mode = mode; count = count; index = index }

abbrev coding_with : Mode → ℕ → ℕ → List states.State → Reading → Coding
coding_with mode count index all r = record { run = run_with mode count index; states = all; reading = r }

arrived : (mode : Mode) (left : ℕ) (z : Bool) (n i : ℕ) (r : Reading) → IsInRun mode → at_sample left z (source (run_with mode (suc n) i) r) ≡ source (run_with mode (suc n) i) r
unfolding at_sample
arrived Outside left z n i r h = absurd h
arrived Running left z n i r h = refl
arrived Ending left z n i r h = refl

stepped-run : (mode : Mode) (most n : ℕ) (s : Source) → IsInRun mode → stepped most mode (suc n) s ≡ zeros most s
stepped-run Outside most n s h = absurd h
stepped-run Running most n s h = refl
stepped-run Ending most n s h = refl

-- one sample of a run
zero-sample : (mode : Mode) (left x n i : ℕ) (all : List states.State) (r : Reading) → IsInRun mode →
    sample_at left x (coding_with mode (suc n) i all r) ≡ Some (pos 0, coding_with mode n i all r)
unfolding sample_at next_step zeros
zero-sample mode left x n i all r h =
    let e : suc n - min (suc n) 1 ≡ n = omega arith in
    rw (arrived mode left (x == 0) n i r h, stepped-run mode 1 n (source (run_with mode (suc n) i) r) h) (ap (λ k. Some (pos 0, coding_with mode k i all r)) e)

-- outside of a run, at a context that isn't 0
outside-told : (mode : Mode) (left count index : ℕ) (r : Reading) → mode ≡ Outside →
    next_step left left false (source (run_with mode count index) r) ≡ (Difference, source (run_with mode count index) r)
unfolding next_step at_sample
outside-told Outside left count index r is = refl
outside-told Running left count index r is = absurd (cc)
outside-told Ending left count index r is = absurd (cc)

not_none : (x : ℕ) → 0 < x → (x == 0) ≡ false
not_none x some = grind arith

pub outside-is : (mode : Mode) → true ≡ is_outside mode → mode ≡ Outside
outside-is Outside is = refl
outside-is Running is = absurd (cc)
outside-is Ending is = absurd (cc)

pub outside-step : (left x : ℕ) (s : Source) → s.run.mode ≡ Outside → 0 < x → next_step left left (x == 0) s ≡ (Difference, s)
outside-step left x s is some = rw (not_none x some) (outside-told s.run.mode left s.run.count s.run.index s.reading is)

-- a sample that was taken before
pub zero-ahead : (left x count : ℕ) (run : Run) (all : List states.State) (r : Reading) → 0 < count → IsInRun run.mode →
    sample_at left x (coding_ahead count run all r) ≡ Some (pos 0, coding_ahead (count - 1) run all r)
zero-ahead left x zero run all r some h = absurd (omega arith)
zero-ahead left x (suc n) run all r some h =
    let up : run.count + suc n ≡ suc (run.count + n) = omega arith in
    let down : run.count + n ≡ run.count + (suc n - 1) = omega arith in
    ap (λ k. sample_at left x (coding_with run.mode k run.index all r)) up
    ∙ zero-sample run.mode left x (run.count + n) run.index all r h
    ∙ ap (λ k. Some (pos 0, coding_with run.mode k run.index all r)) down

-- a run that was told at a sample
sample-arrived : (mode : Mode) (left x n i : ℕ) (s : Source) (all : List states.State) (r : Reading) → IsInRun mode → at_sample left (x == 0) s ≡ source (run_with mode (suc n) i) r →
    sample_at left x (coding s all) ≡ sample_at left x (coding_with mode (suc n) i all r)
unfolding sample_at next_step
sample-arrived mode left x n i s all r h e = rw (e, arrived mode left (x == 0) n i r h) refl

zeros-within : (mode : Mode) (left x n : ℕ) (s s' : Source) (all : List states.State) (k i : ℕ) (r : Reading) → IsInRun mode → 0 < n →
    at_sample left (x == 0) s ≡ source (run_with mode (suc k) i) r → zeros left (source (run_with mode (suc k) i) r) ≡ (Zeros n, s') →
    (sample_at left x (coding s all) ≡ Some (pos 0, coding_ahead (n - 1) s'.run all s'.reading)) × IsInRun s'.run.mode
unfolding zeros
zeros-within mode left x n s s' all k i r h some at told =
    let e : Zeros (min (suc k) left) ≡ Zeros n = ap (λ (p : Step × Source). p.0) told in
    let count : min (suc k) left ≡ n = cc in
    let after : source (run_with mode (suc k - min (suc k) left) i) r ≡ s' = ap (λ (p : Step × Source). p.1) told in
    let taken : k ≡ suc k - min (suc k) left + (n - 1) = omega (arith, count, some) in (
      sample-arrived mode left x k i s all r h at
          ∙ zero-sample mode left x k i all r h
          ∙ ap (λ m. Some (pos 0, coding_with mode m i all r)) taken
          ∙ ap (λ (t : Source). Some (pos 0, coding_ahead (n - 1) t.run all t.reading)) after,
      rw (← after) h,
    )

zeros-told : (left x n : ℕ) (s s' : Source) (all : List states.State) (mode : Mode) (count i : ℕ) (r : Reading) → 0 < n →
    at_sample left (x == 0) s ≡ source (run_with mode count i) r → stepped left mode count (source (run_with mode count i) r) ≡ (Zeros n, s') →
    (sample_at left x (coding s all) ≡ Some (pos 0, coding_ahead (n - 1) s'.run all s'.reading)) × IsInRun s'.run.mode
unfolding zeros after_run
zeros-told left x n s s' all Outside count i r some at h = absurd (let e : Difference ≡ Zeros n = ap (λ (p : Step × Source). p.0) h in cc)
zeros-told left x n s s' all Running zero i r some at h = absurd (let e : AfterRun ≡ Zeros n = ap (λ (p : Step × Source). p.0) h in cc)
zeros-told left x n s s' all Ending zero i r some at h = absurd (let e : AfterRun ≡ Zeros n = ap (λ (p : Step × Source). p.0) h in cc)
zeros-told left x n s s' all Running (suc k) i r some at h = zeros-within Running left x n s s' all k i r tt some at h
zeros-told left x n s s' all Ending (suc k) i r some at h = zeros-within Ending left x n s s' all k i r tt some at h

-- the first of the samples that are taken at once
pub first-zero : (left x n : ℕ) (s s' : Source) (all : List states.State) → next_step left left (x == 0) s ≡ (Zeros n, s') → 0 < n →
    (sample_at left x (coding s all) ≡ Some (pos 0, coding_ahead (n - 1) s'.run all s'.reading)) × IsInRun s'.run.mode
unfolding next_step
first-zero left x n s s' all h some =
    let at = at_sample left (x == 0) s in
    zeros-told left x n s s' all at.run.mode at.run.count at.run.index at.reading some refl h

-- ---- differences that the state of a context gives
-- with no sample ahead
pub none-ahead : (run : Run) (all : List states.State) (r : Reading) → coding (source run r) all ≡ coding_ahead 0 run all r
none-ahead run all r = let e : run.count ≡ run.count + 0 = omega arith in ap (λ k. coding_with run.mode k run.index all r) e

pub read-by : (of : ℤ → ℤ) (x : ℕ) (s : Source) (all : List states.State) (d e : ℤ) (after : states.State) (r : Reading) →
    states.difference_at (slice_index_or all x states.fresh) s.reading ≡ Some (record { value = d; state = after; reading = r }) → of d ≡ e →
    difference_by of x s all ≡ Some (e, coding_ahead 0 s.run (slice_set all x after) r)
unfolding difference_by
read-by of x s all d e after r is same =
    rw is (ap (λ z. Some (z, coding (source s.run r) (slice_set all x after))) same ∙ ap (λ (c : Coding). Some (e, c)) (none-ahead s.run (slice_set all x after) r))

pub none-by : (of : ℤ → ℤ) (x : ℕ) (s : Source) (all : List states.State) →
    states.difference_at (slice_index_or all x states.fresh) s.reading ≡ None → difference_by of x s all ≡ None
unfolding difference_by
none-by of x s all is = rw is refl

-- ---- differences fit
pub difference_fits : (z : ℤ) → negsuc 127 ≤ℤ z → z ≤ℤ pos 127 → z ≡ to_z w32 (of_z w32 z)
difference_fits z low high = omega (arith, ints)

pub raised_fits : (z : ℤ) → negsuc 127 ≤ℤ z → z ≤ℤ pos 127 → raised z ≡ to_z w32 (of_z w32 (raised z))
raised_fits z low high =
    elim (int_lt z (pos 0)) as (λ b. cond b z (z +ℤ pos 1) ≡ to_z w32 (of_z w32 (cond b z (z +ℤ pos 1)))) [
      | true ↦ omega (arith, ints)
      | false ↦ omega (arith, ints)
    ]

pub raised_is : (z r : ℤ) → negsuc 127 ≤ℤ z → z ≤ℤ pos 127 → r ≡ raised (to_z w32 (of_z w32 z)) → raised z ≡ to_z w32 (of_z w32 r)
raised_is z r low high is =
    let same : r ≡ raised z = is ∙ ap raised (sym (difference_fits z low high)) in
    raised_fits z low high ∙ ap (λ (v : ℤ). to_z w32 (of_z w32 v)) (sym same)

pub none_left : (zeros : ℕ) (run : Run) (all : List states.State) (r : Reading) → zeros ≤ 0 → coding (source run r) all ≡ coding_ahead zeros run all r
none_left zeros run all r few = let e : run.count ≡ run.count + zeros = omega arith in ap (λ k. coding_with run.mode k run.index all r) e

-- ---- signed numbers fit
pub w32_fits : (z : ℤ) → nat_abs z < 2147483648 → to_z w32 (of_z w32 z) ≡ z
w32_fits z h = omega (arith, ints)

pub w64_fits : (z : ℤ) → nat_abs z < 2147483648 → to_z w64 (of_z w64 z) ≡ z
w64_fits z h = omega (arith, ints)

-- ---- what a step does, of whatever kind it is
pub zeros-by : (left x : ℕ) (step : Step) (s s' : Source) (all : List states.State) → next_step left left (x == 0) s ≡ (step, s') → 0 < zeros_of step →
    (sample_at left x (coding s all) ≡ Some (pos 0, coding_ahead (zeros_of step - 1) s'.run all s'.reading)) × IsInRun s'.run.mode
zeros-by left x (Zeros n) s s' all told some = first-zero left x n s s' all told some
zeros-by left x Difference s s' all told some = absurd (omega arith)
zeros-by left x AfterRun s s' all told some = absurd (omega arith)

pub difference-by : (left x : ℕ) (step : Step) (s s' : Source) (all : List states.State) → next_step left left (x == 0) s ≡ (step, s') → FitsLine left step → zeros_of step ≡ 0 →
    sample_at left x (coding s all) ≡ difference_by (raising step) x s' all
difference-by left x (Zeros n) s s' all told fits none = absurd (omega (arith, none, fits.0))
difference-by left x Difference s s' all told fits none = difference-step left x s s' all told
difference-by left x AfterRun s s' all told fits none = after-step left x s s' all told

pub raising_is : (step : Step) (z r : ℤ) → negsuc 127 ≤ℤ z → z ≤ℤ pos 127 → r ≡ raising step (to_z w32 (of_z w32 z)) → raising step z ≡ to_z w32 (of_z w32 r)
raising_is (Zeros n) z r low high is = difference_fits z low high ∙ ap (λ (v : ℤ). to_z w32 (of_z w32 v)) (difference_fits z low high ∙ sym is)
raising_is Difference z r low high is = difference_fits z low high ∙ ap (λ (v : ℤ). to_z w32 (of_z w32 v)) (difference_fits z low high ∙ sym is)
raising_is AfterRun z r low high is = raised_is z r low high is
