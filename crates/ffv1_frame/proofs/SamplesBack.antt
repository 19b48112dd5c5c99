-- The samples of a slice that were written are read.
use Rattle.std.proofs.Common.{◌≡◌, ℕ, zero, suc, ◌+◌, ◌-◌, ◌%◌, ◌^◌, ◌<◌, min, true, ℤ, pos, negsuc, ◌+ℤ◌, ◌-ℤ◌, nat_abs, List, [], ◌∷◌, length, Some, sym, ◌∙◌, ap, subst, arith}
use Rattle.std.specs.Prelude.{slice_index, slice_set, All}
use Rattle.std.specs.Int.{int_rem_euclid}
use Rattle.std.specs.List.{AllByRecursion}
use Rattle.std.proofs.lemmas.Int.{ints}
use Rattle.std.proofs.lemmas.Nat.{mod_below}
use Rattle.std.proofs.lemmas.List.{length-set}
use Rattle.std.proofs.lemmas.List.Elements.{All-get_or, All-set}
use Rattle.ffv1_range.specs.Transition.{IsTransition, AllKept}
use Rattle.ffv1_range.specs.Reading.{Reading}
use Rattle.ffv1_range.specs.Writing.{put_all}
use Rattle.ffv1_range.specs.Symbol.{source, spelling, symbol_at, with_states, set_after}
use Rattle.ffv1_predict.specs.declared.near.Near.{Near}
use Rattle.ffv1_predict.specs.Near.{context, coded, turned, predicted, IsNear}
use Rattle.ffv1_predict.specs.Border.{Rows, rows_below, near, left, left2}
use Rattle.ffv1_predict.proofs.Restoring.{restored_back}
use Rattle.ffv1_record.proofs.Sinks.{put_all-table}
use Rattle.ffv1_record.proofs.States.{spelling-places, set_after-kept}
use Rattle.ffv1_slice.specs.Order.{InRow, InRows}
use Rattle.ffv1_slice.specs.Reading.{Coding, coding, set_of, after_symbol, ReadsSample, ContextsFit}
use Rattle.ffv1_slice.specs.Writing.{Encoding, with_difference, WritesSample}
use Rattle.ffv1_frame.proofs.Passages.{Passage, nothing_passed, read_as, at_writing, both_passed, symbol_passed}

-- ---- a sample
-- An encoding has this table and a set of kept states for each of so many contexts.
pub record IsGood (table : List ℕ) (count : ℕ) (e : Encoding) : Type 0 where
  pub table_is : e.writing.table ≡ table
  pub count_is : length e.contexts ≡ count
  pub kept : All (AllKept table) e.contexts

folded_small : (z : ℤ) → nat_abs (int_rem_euclid z (pos 256) -ℤ pos 128) < 2 ^ 32
folded_small (pos a) = let small : a % 256 < 256 = mod_below a 256 (omega arith) in omega (arith, ints)
folded_small (negsuc a) = let small : a % 256 < 256 = mod_below a 256 (omega arith) in omega (arith, ints)

coded_small : (c : ℤ) (n : Near) (sample : ℕ) → nat_abs (coded c n sample) < 2 ^ 32
coded_small c n sample = folded_small (turned c (pos sample -ℤ predicted n) +ℤ pos 128)

sample_here : (table : List ℕ) (tables : List (List ℤ)) (count : ℕ) (n : Near) (sample : ℕ) (old : Encoding) → IsTransition table → ContextsFit tables count → IsGood table count old → IsNear n → sample < 256
    → let new : Encoding = with_difference old (context tables n) (coded (context tables n) n sample) in
    Passage table old.writing new.writing (λ p q. ReadsSample tables n sample (coding p old.contexts) (coding q new.contexts)) × IsGood table count new
sample_here table tables count n sample old sound fit good is below =
    let c : ℤ = context tables n in
    let k : ℕ = nat_abs c in
    let d : ℤ = coded c n sample in
    let states : List ℕ = set_of old.contexts c in
    let within : k < length old.contexts = omega (arith, fit n, good.count_is) in
    let kept : AllKept table states = All-get_or (AllKept table) old.contexts k [] within good.kept in
    let written : put_all old.writing (with_states table states (spelling d true)) ≡ put_all old.writing (with_states old.writing.table states (spelling d true)) = ap (λ (t : List ℕ). put_all old.writing (with_states t states (spelling d true))) (sym good.table_is) in
    let after : set_after table states (spelling d true) ≡ set_after old.writing.table states (spelling d true) = ap (λ (t : List ℕ). set_after t states (spelling d true)) (sym good.table_is) in
    let next : List (List ℕ) = slice_set old.contexts k (set_after old.writing.table states (spelling d true)) in
    let passage = at_writing table old.writing (put_all old.writing (with_states table states (spelling d true))) (put_all old.writing (with_states old.writing.table states (spelling d true)))
    (λ p q. symbol_at (source p states) true ≡ (Some d, source q (set_after table states (spelling d true)))) written
    (symbol_passed table old.writing states d true sound kept (coded_small c n sample, λ e. absurd cc)) in
    let next_kept : AllKept table (set_after old.writing.table states (spelling d true)) = subst (AllKept table) after (set_after-kept table states (spelling d true) sound kept (spelling-places d true)) in (
      read_as table old.writing (put_all old.writing (with_states old.writing.table states (spelling d true)))
          (λ p q. symbol_at (source p states) true ≡ (Some d, source q (set_after table states (spelling d true))))
          (λ p q. ReadsSample tables n sample (coding p old.contexts) (coding q next))
          (λ p q at read. (
            d,
            ap (after_symbol (coding p old.contexts) c) read ∙ ap (λ (s : List ℕ). (Some d, coding q (slice_set old.contexts k s))) after,
            restored_back c n sample is below,
          ))
          passage,
      record {
        table_is = put_all-table old.writing (with_states old.writing.table states (spelling d true)) ∙ good.table_is;
        count_is = length-set old.contexts k (set_after old.writing.table states (spelling d true)) ∙ good.count_is;
        kept = All-set (AllKept table) old.contexts k (set_after old.writing.table states (spelling d true)) next_kept good.kept;
      },
    )

-- What holds of a step from one encoding to another: its bits are read as something.
abbrev pub Back : List ℕ → ℕ → Encoding → Encoding → (Coding → Coding → Type 0) → Type 0
Back table count old new Read = Passage table old.writing new.writing (λ p q. Read (coding p old.contexts) (coding q new.contexts)) × IsGood table count new

sample_back : (table : List ℕ) (tables : List (List ℤ)) (count : ℕ) (n : Near) (sample : ℕ) (old new : Encoding) → IsTransition table → ContextsFit tables count → IsGood table count old → IsNear n → sample < 256
    → WritesSample tables n sample old new → Back table count old new (ReadsSample tables n sample)
sample_back table tables count n sample old new sound fit good is below written =
    subst (λ (e : Encoding). Back table count old e (ReadsSample tables n sample)) (sym written) (sample_here table tables count n sample old sound fit good is below)

-- ---- a row
-- samples of 8 bits, and zeros past the end
abbrev pub AreSamples : List ℕ → Type 0
AreSamples row = (x : ℕ) → slice_index row x < 256

pub record AreRows (r : Rows) : Type 0 where
  pub above2 : AreSamples r.above2
  pub above : AreSamples r.above
  pub row : AreSamples r.row

left_sample : (above row : List ℕ) (x : ℕ) → AreSamples above → AreSamples row → left above row x < 256
left_sample above row zero first second = first 0
left_sample above row (suc x) first second = second x

left2_sample : (above row : List ℕ) (x : ℕ) → AreSamples above → AreSamples row → left2 above row x < 256
left2_sample above row zero first second = omega arith
left2_sample above row (suc x) first second = left_sample above row x first second

near_samples : (r : Rows) (x : ℕ) → AreRows r → IsNear (near r x)
near_samples r x are = record {
  tt = are.above2 x;
  tl = left_sample r.above2 r.above x are.above2 are.above;
  t = are.above x;
  tr = are.above (min (x + 1) (length r.above - 1));
  ll = left2_sample r.above r.row x are.above are.row;
  l = left_sample r.above r.row x are.above are.row;
}

row_back : (table : List ℕ) (tables : List (List ℤ)) (count : ℕ) (r : Rows) (x : ℕ) (old new : Encoding) → IsTransition table → ContextsFit tables count → AreRows r → IsGood table count old
    → InRow (WritesSample tables) r x old new → Back table count old new (InRow (ReadsSample tables) r x)
row_back table tables count r zero old new sound fit are good written =
    subst (λ (e : Encoding). Back table count old e (InRow (ReadsSample tables) r zero)) written (
      read_as table old.writing old.writing (λ p q. p ≡ q) (λ p q. coding p old.contexts ≡ coding q old.contexts) (λ p q at same. ap (λ (reading : Reading). coding reading old.contexts) same) (nothing_passed table old.writing),
      good,
    )
row_back table tables count r (suc x) old new sound fit are good (mid, before, here) =
    let first = row_back table tables count r x old mid sound fit are good before in
    let second = sample_back table tables count (near r x) (slice_index r.row x) mid new sound fit first.1 (near_samples r x are) (are.row x) here in (
      read_as table old.writing new.writing
          (λ p q. (reading : Reading) × InRow (ReadsSample tables) r x (coding p old.contexts) (coding reading mid.contexts) × ReadsSample tables (near r x) (slice_index r.row x) (coding reading mid.contexts) (coding q new.contexts))
          (λ p q. InRow (ReadsSample tables) r (suc x) (coding p old.contexts) (coding q new.contexts))
          (λ p q at (reading, others, last). (coding reading mid.contexts, others, last))
          (both_passed table old.writing mid.writing new.writing (λ p q. InRow (ReadsSample tables) r x (coding p old.contexts) (coding q mid.contexts)) (λ p q. ReadsSample tables (near r x) (slice_index r.row x) (coding p mid.contexts) (coding q new.contexts)) first.0 second.0),
      second.1,
    )

-- ---- rows
pub rows_back : (table : List ℕ) (tables : List (List ℤ)) (count : ℕ) (all : List Rows) (old new : Encoding) → IsTransition table → ContextsFit tables count → AllByRecursion AreRows all → IsGood table count old
    → InRows (WritesSample tables) all old new → Back table count old new (InRows (ReadsSample tables) all)
rows_back table tables count [] old new sound fit are good written =
    subst (λ (e : Encoding). Back table count old e (InRows (ReadsSample tables) [])) written (
      read_as table old.writing old.writing (λ p q. p ≡ q) (λ p q. coding p old.contexts ≡ coding q old.contexts) (λ p q at same. ap (λ (reading : Reading). coding reading old.contexts) same) (nothing_passed table old.writing),
      good,
    )
rows_back table tables count (r ∷ more) old new sound fit are good (mid, row, rest) =
    let first = row_back table tables count r (length r.row) old mid sound fit are.0 good row in
    let second = rows_back table tables count more mid new sound fit are.1 first.1 rest in (
      read_as table old.writing new.writing
          (λ p q. (reading : Reading) × InRow (ReadsSample tables) r (length r.row) (coding p old.contexts) (coding reading mid.contexts) × InRows (ReadsSample tables) more (coding reading mid.contexts) (coding q new.contexts))
          (λ p q. InRows (ReadsSample tables) (r ∷ more) (coding p old.contexts) (coding q new.contexts))
          (λ p q at (reading, one, others). (coding reading mid.contexts, one, others))
          (both_passed table old.writing mid.writing new.writing (λ p q. InRow (ReadsSample tables) r (length r.row) (coding p old.contexts) (coding q mid.contexts)) (λ p q. InRows (ReadsSample tables) more (coding p mid.contexts) (coding q new.contexts)) first.0 second.0),
      second.1,
    )

-- ---- the rows of a plane
pub rows_are : (above2 above : List ℕ) (plane : List (List ℕ)) → AreSamples above2 → AreSamples above → AllByRecursion AreSamples plane → AllByRecursion AreRows (rows_below above2 above plane)
rows_are above2 above [] first second are = tt
rows_are above2 above (row ∷ more) first second are = (record { above2 = first; above = second; row = are.0 }, rows_are above row more second are.0 are.1)
