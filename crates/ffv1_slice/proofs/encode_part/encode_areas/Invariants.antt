use Rattle.std.proofs.Common.{◌≡◌}
use Rattle.std.specs.Prelude.{All}
use Rattle.ffv1_range.specs.Transition.{AllKept}
use Rattle.ffv1_slice.specs.Writing.{encoding}
use Rattle.ffv1_slice.proofs.InTurn.{AreUnwritten}
use Rattle.ffv1_slice.proofs.encode_part.encode_areas.Given as goal

abbrev pub invariant-loop-area : goal.invariant-loop-area
invariant-loop-area l = record {
  left : AreUnwritten l.tables l.picture l.areas l.area-index (encoding l.initial.writer l.initial.contexts) (encoding l.writer l.contexts);
  table : l.writer.table ≡ l.initial.writer.table;
  kept : All (AllKept l.writer.table) l.contexts;
}
