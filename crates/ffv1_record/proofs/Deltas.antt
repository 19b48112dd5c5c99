-- The state transition table of a record is read again.
use Rattle.std.proofs.Common.{◌≡◌, ℕ, suc, ◌^◌, ◌<◌, Bool, true, false, cond, eqb, ◌&&◌, ℤ, pos, ◌+ℤ◌, neg_ℤ, nat_abs, List, [], ◌∷◌, ◌++◌, length, drop, refl, sym, ap, subst, ◌∙◌, append_assoc, arith, inl, inr}
use Rattle.std.specs.Prelude.{int_le, slice_index}
use Rattle.std.specs.List.{AllByRecursion}
use Rattle.std.proofs.lemmas.Int.{ints}
use Rattle.std.proofs.lemmas.Bool.{cases_lt, ne_eqb}
use Rattle.std.proofs.lemmas.List.Elements.{recursion_from_All}
use Rattle.ffv1_range.specs.declared.transition.TheConstants.{DEFAULT_TRANSITION}
use Rattle.ffv1_range.specs.Transition.{IsTransition}
use Rattle.ffv1_range.specs.Symbol.{Source, spelling}
use Rattle.ffv1_record.specs.Parameters.{IsTableFor}
use Rattle.ffv1_record.specs.Reading.{entry_at, entries_at, transition_at}
use Rattle.ffv1_record.specs.Spelling.{deltas, transition}
use Rattle.ffv1_record.proofs.Again.{Laws, Rest, Ahead, Again, signed_again}

abbrev pub IsState : ℕ → Type 0
IsState n = (0 < n) × (n < 256)

abbrev pub delta : ℕ → ℕ → ℤ
delta default entry = pos entry +ℤ neg_ℤ (pos default)

delta-small : (default entry : ℕ) → default < 256 → entry < 256 → nat_abs (delta default entry) < 2 ^ 32
delta-small default entry default_small entry_small = omega (arith, ints)

delta-added : (default entry : ℕ) → pos default +ℤ delta default entry ≡ pos entry
delta-added default entry = omega (arith, ints)

state-tested : (n : ℕ) → IsState n → (int_le (pos 1) (pos n) && int_le (pos n) (pos 255)) ≡ true
state-tested n state = grind (arith, ints)

entry_again : (laws : Laws) (s : Source) (default entry : ℕ) (more : List (ℕ × Bool)) (rest : Rest) → default < 256 → IsState entry → Ahead s (spelling (delta default entry) true ++ more) rest → Again (entry_at default s) entry more rest
unfolding entry_at
entry_again laws s default entry more rest default_small state ahead =
    let read = signed_again laws s (delta default entry) more rest (delta-small default entry default_small state.1) ahead in
    (read.0, rw (read.1, delta-added default entry, state-tested entry state) refl, read.2)

pub entries_again : (laws : Laws) (s : Source) (default entries : List ℕ) (more : List (ℕ × Bool)) (rest : Rest) → length default ≡ length entries → AllByRecursion (λ n. n < 256) default → AllByRecursion IsState entries
    → Ahead s (deltas default entries ++ more) rest → Again (entries_at default s) entries more rest
unfolding entries_at deltas
entries_again laws s [] [] more rest same small states ahead = (s, refl, ahead)
entries_again laws s [] (entry ∷ entries) more rest same small states ahead = absurd (omega (arith, same))
entries_again laws s (u ∷ default) [] more rest same small states ahead = absurd (omega (arith, same))
entries_again laws s (u ∷ default) (entry ∷ entries) more rest same small states ahead =
    let ahead₀ = subst (λ (bits : List (ℕ × Bool)). Ahead s bits rest) (append_assoc (spelling (delta u entry) true) (deltas default entries) more) ahead in
    let first = entry_again laws s u entry (deltas default entries ++ more) rest small.0 states.0 ahead₀ in
    let others = entries_again laws first.0 default entries more rest (omega (arith, same)) small.1 states.1 first.2 in
    (others.0, rw (first.1, others.1) refl, others.2)

-- ---- the whole table
bytes_of : (xs : List ℕ) → ((k : ℕ) → slice_index xs k < 256) → AllByRecursion (λ n. n < 256) xs
bytes_of [] small = tt
bytes_of (x ∷ xs) small = (small 0, bytes_of xs (λ k. small (suc k)))

bytes_of-rest : (xs : List ℕ) → ((k : ℕ) → slice_index xs k < 256) → AllByRecursion (λ n. n < 256) (drop 1 xs)
bytes_of-rest [] small = tt
bytes_of-rest (x ∷ xs) small = bytes_of xs (λ k. small (suc k))

both_of : (xs : List ℕ) → AllByRecursion (λ n. 0 < n) xs → AllByRecursion (λ n. n < 256) xs → AllByRecursion IsState xs
both_of [] some small = tt
both_of (x ∷ xs) some small = ((some.0, small.0), both_of xs some.1 small.1)

first_is : (table : List ℕ) → length table ≡ 256 → slice_index table 0 ≡ 0 → 0 ∷ drop 1 table ≡ table
first_is [] len first = absurd (omega (arith, len))
first_is (x ∷ xs) len first = ap (λ (n : ℕ). n ∷ xs) (sym first)

rest_len : (table : List ℕ) → length table ≡ 256 → length (drop 1 table) ≡ 255
rest_len [] len = absurd (omega (arith, len))
rest_len (x ∷ xs) len = omega (arith, len)

pub transition_again : (laws : Laws) (default : IsTransition DEFAULT_TRANSITION) (s : Source) (coder_type : ℕ) (table : List ℕ) (more : List (ℕ × Bool)) (rest : Rest) → IsTableFor coder_type table
    → Ahead s (transition coder_type table ++ more) rest → Again (transition_at coder_type s) table more rest
unfolding transition_at transition
transition_again laws default s coder_type table more rest sound ahead =
    elim (cases_lt coder_type 2) [
      | inl less ↦
          let other : eqb coder_type 2 ≡ false = ne_eqb coder_type 2 (λ e. absurd (omega (arith, e, less))) in
          let ahead₀ : Ahead s more rest = subst (λ (b : Bool). Ahead s (cond b (deltas (drop 1 DEFAULT_TRANSITION) (drop 1 table)) [] ++ more) rest) other ahead in
          (s, rw (other, sound.default less) refl, ahead₀)
      | inr most ↦
          let two : coder_type ≡ 2 = omega (arith, most, sound.coder) in
          let own : eqb coder_type 2 ≡ true = ap (λ n. eqb n 2) two in
          let ahead₀ : Ahead s (deltas (drop 1 DEFAULT_TRANSITION) (drop 1 table) ++ more) rest = subst (λ (b : Bool). Ahead s (cond b (deltas (drop 1 DEFAULT_TRANSITION) (drop 1 table)) [] ++ more) rest) own ahead in
          let states : AllByRecursion IsState (drop 1 table) = both_of (drop 1 table) (recursion_from_All (λ n. 0 < n) (drop 1 table) (sound.states two)) (bytes_of-rest table sound.sound.bytes) in
          let same : length (drop 1 DEFAULT_TRANSITION) ≡ length (drop 1 table) = rest_len DEFAULT_TRANSITION default.entries ∙ sym (rest_len table sound.sound.entries) in
          let read = entries_again laws s (drop 1 DEFAULT_TRANSITION) (drop 1 table) more rest same (bytes_of-rest DEFAULT_TRANSITION default.bytes) states ahead₀ in
          (read.0, rw (own, read.1, first_is table sound.sound.entries sound.sound.none_for_zero) refl, read.2)
    ]
