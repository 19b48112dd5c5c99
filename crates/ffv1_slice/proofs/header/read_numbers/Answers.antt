-- A number more is read.
use Rattle.std.proofs.Common.{◌≡◌, ◌+◌, ◌<◌, ◌∙◌, ℕ, List, ◌∷◌, ◌++◌, [], take, length, slice_set, refl, subst, arith}
use Rattle.std.proofs.lemmas.List.{take_more_set, take_all, length-take}
use Rattle.std.proofs.Math.ListN.{length-set}
use Rattle.std.proofs.lemmas.Result.{err_from_is_err_and}
use Rattle.ffv1_range.specs.Symbol.{Source, source}
use Rattle.ffv1_slice.specs.Header.{ReadsNumbers}
use Rattle.ffv1_slice.proofs.Numbers.{none_read, number_more, all_read}
use Rattle.ffv1_slice.proofs.header.read_numbers.Goals as goal

pub loop-place-init : goal.loop-place-init
loop-place-init c = record {
  read = none_read (source c.args.reader.now c.args.set.now);
  nine = omega arith;
  table = refl;
  kept = c.requires;
}

pub returns-in_err-numbers-clause-too_long : goal.returns-in_err-numbers-clause-too_long
returns-in_err-numbers-clause-too_long c =
    let p = err_from_is_err_and c.from_residual.result c.from_residual.ensures.1 in
    let before : List ℕ = take c.loop-place.place c.loop-place.numbers in
    let start : Source = source c.args.reader.now c.args.set.now in
    let now : Source = source c.loop-place.reader c.loop-place.set in
    let next : Source = source c.read_number.new.reader c.read_number.new.set in
    rw p.1 (record {
      before = before;
      few = omega (arith, length-take c.loop-place.place c.loop-place.numbers);
      mid = now;
      new = next;
      reads = all_read before start now c.loop-place.invariant.read;
      too_long = c.in_err-numbers.ensures.too_long;
      place = refl;
    })

pub loop-place-preserved : goal.loop-place-preserved
loop-place-preserved c =
    let within : c.loop-place.place < length c.loop-place.numbers = omega arith in
    let start : Source = source c.args.reader.now c.args.set.now in
    let now : Source = source c.loop-place.reader c.loop-place.set in
    let next : Source = source c.read_number.new.reader c.read_number.new.set in
    let front : take (c.loop-place.place + 1) (slice_set c.loop-place.numbers c.loop-place.place c.in_ok-numbers.field-0) ≡ take c.loop-place.place c.loop-place.numbers ++ c.in_ok-numbers.field-0 ∷ [] =
    take_more_set c.loop-place.numbers c.loop-place.place c.in_ok-numbers.field-0 within in
    record {
      read = rw front (number_more (take c.loop-place.place c.loop-place.numbers) c.in_ok-numbers.field-0 start now next c.loop-place.invariant.read c.in_ok-numbers.ensures.ok);
      nine = rw length-set c.loop-place.invariant.nine;
      table = c.in_ok-numbers.ensures.table ∙ c.loop-place.invariant.table;
      kept = c.in_ok-numbers.ensures.kept;
    }

pub returns-clause-ok : goal.returns-clause-ok
returns-clause-ok c =
    let start : Source = source c.args.reader.now c.args.set.now in
    let now : Source = source c.loop-place.reader c.loop-place.set in
    let All : List ℕ → Type 0 = λ numbers. ReadsNumbers numbers start c.loop-place.reader in
    let whole : take c.loop-place.place c.loop-place.numbers ≡ c.loop-place.numbers = take_all c.loop-place.place c.loop-place.numbers (omega arith) in
    subst All whole (now, all_read (take c.loop-place.place c.loop-place.numbers) start now c.loop-place.invariant.read, refl)
