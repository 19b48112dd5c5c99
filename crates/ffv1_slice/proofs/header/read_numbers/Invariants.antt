use Rattle.std.proofs.Common.{◌≡◌, take, length}
use Rattle.ffv1_range.specs.Symbol.{source}
use Rattle.ffv1_range.specs.Transition.{AllKept}
use Rattle.ffv1_slice.proofs.Numbers.{AreRead}
use Rattle.ffv1_slice.proofs.header.read_numbers.Given as goal

abbrev pub invariant-loop-place : goal.invariant-loop-place
invariant-loop-place l = record {
  read : AreRead (take l.place l.numbers) (source l.initial.reader l.initial.set) (source l.reader l.set);
  nine : length l.numbers ≡ 9;
  table : l.reader.table ≡ l.initial.reader.table;
  kept : AllKept l.reader.table l.set;
}
