-- Tables of transitions and the states that they keep.
use Rattle.std.proofs.Common.{◌≡◌, ℕ, zero, suc, ◌-◌, ◌<◌, ◌≤◌, ◌↔◌, Bool, true, false, ◌&&◌, ◌||◌, not, ltb, leb, List, length, replicate, sym, ◌∙◌, subst, arith, inl, inr}
use Rattle.std.specs.Prelude.{slice_index}
use Rattle.std.proofs.lemmas.List.{get_or-replicate, get_or_past}
use Rattle.std.proofs.lemmas.Bool.{lt-ltb, ltb-true, leb-true, le-leb, and_from, and_parts, agree_below, agree_below_at, cases_lt}
use Rattle.ffv1_range.specs.Transition.{IsTransition, IsKept, AllKept, one_state, zero_state, next_state}

pub fresh_kept : (table : List ℕ) → IsKept table 128 → AllKept table (replicate 32 128)
fresh_kept table kept k small =
    let e : slice_index (replicate 32 128) k ≡ 128 = get_or-replicate 32 k 128 0 small in
    subst (λ (state : ℕ). IsKept table state) (sym e) kept

-- a state that a table keeps isn't 0
pub kept-pos : (table : List ℕ) (state : ℕ) → IsTransition table → IsKept table state → 0 < state
kept-pos table zero sound kept = absurd (omega (arith, kept.0, sound.none_for_zero))
kept-pos table (suc n) sound kept = omega arith

-- nor is it above 255
pub kept-lt : (table : List ℕ) (state : ℕ) → IsTransition table → IsKept table state → state < 256
kept-lt table state sound kept =
    elim (cases_lt state 256) [
      | inl less ↦ less
      | inr more ↦
          let past : slice_index table state ≡ 0 = get_or_past table state 0 (omega (arith, sound.entries)) in
          absurd (omega (arith, past, kept.0))
    ]

-- ---- tests of a table
abbrev pub kept : List ℕ → ℕ → Bool
kept table state = ltb 0 (slice_index table state) && ltb 0 (slice_index table (256 - state))

abbrev pub goes_on : List ℕ → ℕ → Bool
goes_on table state = not (kept table state) || (kept table (one_state table state) && kept table (zero_state table state))

kept-test : (table : List ℕ) (state : ℕ) → IsKept table state → kept table state ≡ true
kept-test table state h = and_from _ _ (lt-ltb _ _ h.0) (lt-ltb _ _ h.1)

kept-fact : (table : List ℕ) (state : ℕ) → kept table state ≡ true → IsKept table state
kept-fact table state h = let parts = and_parts _ _ h in (ltb-true _ _ parts.0, ltb-true _ _ parts.1)

goes_on-fact : (a b c : Bool) → a ≡ true → (not a || (b && c)) ≡ true → (b ≡ true) × (c ≡ true)
goes_on-fact true b c e h = and_parts b c h
goes_on-fact false b c e h = absurd (cc)

next_of : (table : List ℕ) (state : ℕ) (bit : Bool) → IsKept table (one_state table state) → IsKept table (zero_state table state) → IsKept table (next_state table state bit)
next_of table state true one zero_kept = one
next_of table state false one zero_kept = zero_kept

next_kept : (table : List ℕ) → length table ≡ 256 → agree_below (goes_on table) (λ k. true) 256 ≡ true → (state : ℕ) (bit : Bool) → IsKept table state → IsKept table (next_state table state bit)
next_kept table entries on state bit h =
    elim (cases_lt state 256) [
      | inl less ↦
          let both = goes_on-fact (kept table state) (kept table (one_state table state)) (kept table (zero_state table state)) (kept-test table state h) (agree_below_at (goes_on table) (λ k. true) 256 state on less) in
          next_of table state bit (kept-fact table (one_state table state) both.0) (kept-fact table (zero_state table state) both.1)
      | inr more ↦
          let past : slice_index table state ≡ 0 = get_or_past table state 0 (omega (arith, entries)) in
          absurd (omega (arith, past, h.0))
    ]

-- a table that passes the tests
pub transition_from_tests : (table : List ℕ) → length table ≡ 256 → agree_below (λ k. ltb (slice_index table k) 256) (λ k. true) 256 ≡ true → slice_index table 0 ≡ 0 → kept table 128 ≡ true → agree_below (goes_on table) (λ k. true) 256 ≡ true → IsTransition table
transition_from_tests table entries bytes first start on = record {
  entries = entries;
  bytes = λ k. elim (cases_lt k 256) [
    | inl less ↦ ltb-true _ _ (agree_below_at (λ k. ltb (slice_index table k) 256) (λ k. true) 256 k bytes less)
    | inr more ↦ let past : slice_index table k ≡ 0 = get_or_past table k 0 (omega (arith, entries)) in omega arith
  ];
  none_for_zero = first;
  keeps_first = kept-fact table 128 start;
  keeps_next = next_kept table entries on;
}

-- the states that a table of these tests keeps
kept_between : (table : List ℕ) (low high : ℕ) → length table ≡ 256 → agree_below (kept table) (λ k. leb low k && leb k high) 256 ≡ true → high < 256 → (state : ℕ) → IsKept table state ↔ ((low ≤ state) × (state ≤ high))
kept_between table low high entries same top state = (
  λ h. elim (cases_lt state 256) [
    | inl less ↦ let parts = and_parts _ _ (sym (agree_below_at (kept table) (λ k. leb low k && leb k high) 256 state same less) ∙ kept-test table state h) in (leb-true _ _ parts.0, leb-true _ _ parts.1)
    | inr more ↦ let past : slice_index table state ≡ 0 = get_or_past table state 0 (omega (arith, entries)) in absurd (omega (arith, past, h.0))
  ],
  λ h. kept-fact table state (agree_below_at (kept table) (λ k. leb low k && leb k high) 256 state same (omega (arith, h.1, top)) ∙ and_from _ _ (le-leb _ _ h.0) (le-leb _ _ h.1)),
)

pub kept_from_test : (result table : List ℕ) (low high : ℕ) → result ≡ table → length table ≡ 256 → agree_below (kept table) (λ k. leb low k && leb k high) 256 ≡ true → high < 256 → (state : ℕ) → IsKept result state ↔ ((low ≤ state) × (state ≤ high))
kept_from_test result table low high e entries same top state = subst (λ (t : List ℕ). IsKept t state ↔ ((low ≤ state) × (state ≤ high))) (sym e) (kept_between table low high entries same top state)
