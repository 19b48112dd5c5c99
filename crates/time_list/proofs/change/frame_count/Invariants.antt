use Rattle.std.proofs.Common.{◌≡◌, ◌-◌, ◌^◌, min, length, take}
use Rattle.tl_model.specs.Cells.{cells}
use Rattle.time_list.proofs.change.frame_count.Given as goal

abbrev pub invariant-loop-segment : goal.invariant-loop-segment
invariant-loop-segment l = l.count ≡ min (length (cells (take l.segment-index l.items))) (2 ^ 64 - 1)
