use Rattle.std.proofs.Common.{◌≡◌, ◌≤◌, drop, None}
use Rattle.ffv1_rice.specs.Lines.{line_put}
use Rattle.ffv1_rice.specs.Pending.{written, IsAtMost}
use Rattle.ffv1_rice.proofs.lines.RunWriter.line.Given as goal

abbrev pub invariant-loop-x : goal.invariant-loop-x
invariant-loop-x l = record {
  put : line_put (drop l.x l.contexts) (drop l.x l.differences) (written l.run l.states l.bits)
      ≡ line_put l.contexts l.differences (record { pending = None; index = l.initial.self-inside.index; states = l.initial.states; bits = l.initial.bits });
  index : l.run.index ≤ 40;
  count : IsAtMost l.x l.run.count;
}
