use Rattle.std.proofs.Common.{◌≡◌, ◌+◌, ◌-◌, ◌≤◌, min, false, [], ◌∷◌, ◌++◌}
use Rattle.ffv1_range.specs.Transition.{AllKept}
use Rattle.ffv1_range.specs.Writing.{put_all}
use Rattle.ffv1_range.specs.Symbol.{ones, with_states, set_after}
use Rattle.ffv1_range.specs.Cursor.{writing_at, IsSound}
use Rattle.ffv1_range.proofs.writer.exponent_into.Given as goal

abbrev pub invariant-loop-i : goal.invariant-loop-i
invariant-loop-i l =
    let last = (1 + min l.exponent 9, false) ∷ [] in
    record {
      left : put_all (writing_at l.table l.bytes l.at) (with_states l.table l.states (ones l.i (l.exponent - l.i) ++ last)) ≡ put_all (writing_at l.table l.initial.bytes l.initial.at) (with_states l.table l.initial.states (ones 0 l.exponent ++ last));
      states : set_after l.table l.states (ones l.i (l.exponent - l.i) ++ last) ≡ set_after l.table l.initial.states (ones 0 l.exponent ++ last);
      used : l.at.used ≤ l.initial.at.used + l.i;
      sound : IsSound l.bytes l.at;
      kept : AllKept l.table l.states;
    }
