use Rattle.std.proofs.Common.{◌≡◌, take}
use Rattle.std.specs.Prelude.{count_by}
use Rattle.ffv1_frame.specs.Cover.{has_cell}
use Rattle.ffv1_frame.proofs.cover.cover_count.Given as goal

abbrev pub invariant-loop-header : goal.invariant-loop-header
invariant-loop-header l = l.count ≡ count_by (has_cell l.column l.row) (take l.header-index l.headers)
