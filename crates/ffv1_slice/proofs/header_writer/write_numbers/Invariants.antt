use Rattle.std.proofs.Common.{◌≡◌, drop}
use Rattle.ffv1_range.specs.Transition.{AllKept}
use Rattle.ffv1_slice.specs.Header.{numbering, with_numbers}
use Rattle.ffv1_slice.proofs.header_writer.write_numbers.Given as goal

abbrev pub invariant-loop-number : goal.invariant-loop-number
invariant-loop-number l = record {
  left : with_numbers (numbering l.writer l.set) (drop l.number-index l.numbers) ≡ with_numbers (numbering l.initial.writer l.initial.set) l.numbers;
  table : l.writer.table ≡ l.initial.writer.table;
  kept : AllKept l.writer.table l.set;
}
