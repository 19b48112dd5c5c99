use Rattle.std.proofs.Common.{◌≡◌, ◌+◌, length, take}
use Rattle.tl_model.specs.Cells.{cells}
use Rattle.time_list.proofs.cut.end_after.Given as goal

abbrev pub invariant-loop-index : goal.invariant-loop-index
invariant-loop-index l = record {
  start : l.start ≡ length (cells (take l.index l.items));
  same : l.start + l.offset ≡ l.fn.from.start + l.fn.from.offset + l.by;
}
