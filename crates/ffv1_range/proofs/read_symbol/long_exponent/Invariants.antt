use Rattle.std.proofs.Common.{◌≡◌, ◌-◌}
use Rattle.ffv1_range.specs.Transition.{AllKept}
use Rattle.ffv1_range.specs.Symbol.{exponent_at}
use Rattle.ffv1_range.specs.Position.{source_at, IsSound}
use Rattle.ffv1_range.proofs.read_symbol.long_exponent.Given as goal

abbrev pub invariant-loop-i : goal.invariant-loop-i
invariant-loop-i l = record {
  left : exponent_at (32 - l.i) l.i (source_at l.table l.bytes l.at l.states) ≡ exponent_at 27 5 (source_at l.table l.bytes l.initial.at l.initial.states);
  sound : IsSound l.bytes l.at;
  kept : AllKept l.table l.states;
}
