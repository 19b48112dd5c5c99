use Rattle.std.proofs.Common.{◌≡◌, ◌+◌, ◌≤◌}
use Rattle.ffv1_range.specs.Transition.{AllKept}
use Rattle.ffv1_range.specs.Writing.{put_all}
use Rattle.ffv1_range.specs.Symbol.{low_bits, with_states, set_after}
use Rattle.ffv1_range.specs.Cursor.{writing_at, IsSound}
use Rattle.ffv1_range.proofs.writer.low_bits_into.Given as goal

abbrev pub invariant-loop-i : goal.invariant-loop-i
invariant-loop-i l = record {
  left : put_all (writing_at l.table l.bytes l.at) (with_states l.table l.states (low_bits l.i l.magnitude)) ≡ put_all (writing_at l.table l.initial.bytes l.initial.at) (with_states l.table l.initial.states (low_bits l.exponent l.magnitude));
  states : set_after l.table l.states (low_bits l.i l.magnitude) ≡ set_after l.table l.initial.states (low_bits l.exponent l.magnitude);
  used : l.at.used + l.i ≤ l.initial.at.used + l.exponent;
  sound : IsSound l.bytes l.at;
  kept : AllKept l.table l.states;
}
