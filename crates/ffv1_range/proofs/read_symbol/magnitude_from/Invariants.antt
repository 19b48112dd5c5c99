use Rattle.std.proofs.Common.{◌≡◌, ◌+◌, ◌-◌, ◌<◌, ◌^◌}
use Rattle.ffv1_range.specs.Transition.{AllKept}
use Rattle.ffv1_range.specs.Symbol.{magnitude_at}
use Rattle.ffv1_range.specs.Position.{source_at, IsSound}
use Rattle.ffv1_range.proofs.read_symbol.magnitude_from.Given as goal

abbrev pub invariant-loop-i : goal.invariant-loop-i
invariant-loop-i l = record {
  left : magnitude_at l.i l.magnitude (source_at l.table l.bytes l.at l.states) ≡ magnitude_at l.exponent 1 (source_at l.table l.bytes l.initial.at l.initial.states);
  small : l.magnitude < 2 ^ (l.exponent + 1 - l.i);
  sound : IsSound l.bytes l.at;
  kept : AllKept l.table l.states;
}
